use Rattle.std.proofs.Common.{◌≡◌, length}
use Rattle.std.specs.List.{All, flat_map}
use Rattle.std.specs.Vec.Iter.{into_iter_items, into_iter_len}
use Rattle.krieg_refutefile.proofs.Common.{put_lines, AreTold, claim_lines, claim_state_of}
use Rattle.krieg_refutefile.proofs.writing.move_claims.Given as goal

-- the lines of the claims before this one: with those of the others they are all
abbrev pub invariant-loop-claim : goal.invariant-loop-claim
invariant-loop-claim l = record {
  all : put_lines l.text (flat_map (λ c. claim_lines l.d (claim_state_of c)) (into_iter_items l.claim-iterator)) ≡ put_lines l.initial.text (flat_map (λ c. claim_lines l.d (claim_state_of c)) l.fn.claims.items);
  told : All (λ c. AreTold l.d (claim_state_of c)) (into_iter_items l.claim-iterator);
  counted : into_iter_len l.claim-iterator ≡ length (into_iter_items l.claim-iterator);
}
