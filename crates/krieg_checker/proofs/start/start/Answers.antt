use Rattle.std.proofs.Common.{◌∙◌}
use Rattle.krieg_checker.proofs.Common.{IsOwnTurn, IsOthersTurn}
use Rattle.krieg_parting.proofs.Charges.{said, free}
use Rattle.krieg_checker.proofs.Starting.{free_start, move_start}
use Rattle.krieg_checker.proofs.start.start.Goals as goal

pub returns-then-is_own_turn : goal.returns-then-is_own_turn
returns-then-is_own_turn c =
    let turn : IsOwnTurn c.args.who c.args.b = λ p i. c.is_own_turn.ensures p i ∙ c.if-is_own_turn.true in
    free c.at_own_turn.result _ _ _ c.args.units.now (λ r h. h c.args.who turn) (free_start c.args.d c.args.who c.args.b turn) c.at_own_turn.ensures

pub returns : goal.returns
returns c =
    let turn : IsOthersTurn c.args.who c.args.b = λ p i. c.is_own_turn.ensures p i ∙ c.if-is_own_turn.false in
    said c.at_others_turn.result _ _ _ _ _ _ (λ r h. h c.args.who turn) (move_start c.args.d c.args.who c.args.b turn c.len-members.ensures.ascending) c.at_others_turn.ensures
