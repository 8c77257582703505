use Rattle.std.proofs.Common.{◌∙◌, sym, arith}
use Rattle.krieg_record.proofs.OfficerTexts.{of_officer, of_castling, of_pawn}
use Rattle.krieg_record.proofs.notation_reading.movement_of.Goals as goal

pub returns-in-Some : goal.returns-in-Some
returns-in-Some c = c.officer_movement.ensures ∙ of_officer c.args.text.now _ c.in-Some.officer c.in-len1-up.len_at_least (omega arith) (sym c.in-Some.is ∙ c.officer_named.ensures)

pub returns-in-None : goal.returns-in-None
returns-in-None c = c.castling_movement.ensures ∙ of_castling c.args.text.now _ c.in-len1-up.len_at_least (omega arith) (sym c.in-None.is ∙ c.officer_named.ensures) c.if-first-eq79.true

pub returns-in-None-2 : goal.returns-in-None-2
returns-in-None-2 c = c.pawn_movement.ensures ∙ of_pawn c.args.text.now c.in-len1-up.len_at_least (sym c.in-None.is ∙ c.officer_named.ensures) c.if-first-eq79.false
