use Rattle.std.proofs.Common.{rules, ℕ, suc, List, sym, ap, subst, ◌∙◌, arith}
use Rattle.std.specs.List.{All, flat_map}
use Rattle.std.specs.Vec.Iter.{into_iter_items}
use Rattle.krieg_refutefile.proofs.Common.{put_lines, Claim, AreTold, claim_lines, claim_state_of}
use Rattle.krieg_text.proofs.Writings.{lines_then}
use Rattle.krieg_refutefile.proofs.writing.move_claims.Goals as goal

pub loop-claim-preserved : goal.loop-claim-preserved
loop-claim-preserved c =
    let f = λ (k : Claim). claim_lines c.args.d (claim_state_of k) in
    let rest = into_iter_items c.next.new.self in
    let had = c.loop-claim.invariant in
    let told = subst (All (λ (k : Claim). AreTold c.args.d (claim_state_of k))) c.in-Some.ensures.steps.0 had.told in
    record {
      all =
          ap (λ (t : List ℕ). put_lines t (flat_map f rest)) c.in_ok-put_claim.ensures ∙ sym (lines_then c.loop-claim.text (f c.in-Some.claim) (flat_map f rest))
          ∙ ap (λ (ks : List Claim). put_lines c.loop-claim.text (flat_map f ks)) (sym c.in-Some.ensures.steps.0) ∙ had.all;
      told = λ k x h. told (suc k) x (omega arith);
      counted = search rules;
    }
