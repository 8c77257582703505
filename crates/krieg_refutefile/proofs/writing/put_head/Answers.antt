use Rattle.std.proofs.Common.{[], ◌∷◌}
use Rattle.std.specs.Prelude.{codes}
use Rattle.krieg_fen.specs.Forms.{side_line}
use Rattle.krieg_refutefile.proofs.Common.{alone, dialect_line, numbered}
use Rattle.krieg_refutefile.proofs.WrittenClaims.{one_then}
use Rattle.krieg_refutefile.proofs.writing.put_head.Goals as goal

pub returns : goal.returns
returns c =
    let r = c.put_numbered-3.result in
    let new = c.put_numbered-3.new.text in
    let dialect = alone (dialect_line c.args.d) in
    let side = alone (side_line c.args.side) in
    let moves = numbered (codes "moves ") c.args.moves in
    let list = numbered (codes "list ") c.args.listed in
    one_then r c.args.text.now c.put_numbered.new.text new (numbered (codes "krieg refutation ") 1) (dialect ∷ side ∷ moves ∷ list ∷ []) c.in_ok-put_numbered.ensures
    (one_then r c.put_numbered.new.text c.put_dialect_line.new.text new dialect (side ∷ moves ∷ list ∷ []) c.in_ok-put_dialect_line.ensures
    (one_then r c.put_dialect_line.new.text c.put_side_line.new.text new side (moves ∷ list ∷ []) c.in_ok-put_side_line.ensures
    (one_then r c.put_side_line.new.text c.put_numbered-2.new.text new moves (list ∷ []) (rw c.from.ensures at c.in_ok-put_numbered-2.ensures) c.put_numbered-3.ensures)))
