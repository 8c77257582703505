use Rattle.std.proofs.Common.{◌≡◌, ℕ, [], ◌∷◌, length, subst}
use Rattle.krieg_refutefile.proofs.Common.{Wrote, put_lines, claim_line}
use Rattle.krieg_refutefile.proofs.InPieces.{added}
use Rattle.krieg_refutefile.proofs.writing.put_claim_line.Goals as goal

pub returns : goal.returns
returns c =
    let is : c.len.result ≡ length c.args.claim.now.set = c.len.ensures.value in
    subst (λ (n : ℕ). Wrote c.put_back.result c.put_back.new.self (put_lines c.args.text.now (claim_line c.args.claim.now.moves n ∷ []))) is
    (added c.put_back.result c.put_sizes-done.result c.args.text.now c.take_last.new.self c.put_back.new.self c.in_ok-last.last c.put_sizes-done.new.text (claim_line c.args.claim.now.moves c.len.result ∷ []) c.in_ok-last.ensures c.put_sizes-done.ensures c.put_back.ensures)
