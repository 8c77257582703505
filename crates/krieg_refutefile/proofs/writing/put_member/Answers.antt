use Rattle.std.proofs.Common.{◌≡◌, [], ◌∷◌, subst}
use Rattle.krieg_refutefile.proofs.Common.{Pos, Wrote, put_lines, position_line}
use Rattle.krieg_refutefile.proofs.InPieces.{added}
use Rattle.krieg_refutefile.proofs.writing.put_member.Goals as goal

pub returns : goal.returns
returns c =
    let is : c.unpack.result ≡ c.args.member.now = c.unpack.ensures.value in
    subst (λ (p : Pos). Wrote c.put_back.result c.put_back.new.self (put_lines c.args.text.now (position_line p ∷ []))) is
    (added c.put_back.result c.put_next-done.result c.args.text.now c.take_last.new.self c.put_back.new.self c.in_ok-last.last c.put_next-done.new.text (position_line c.unpack.result ∷ []) c.in_ok-last.ensures c.put_next-done.ensures.line c.put_back.ensures)
