use Rattle.std.proofs.Common.{◌≡◌, ◌+◌, sym, ap, subst, ◌∙◌, arith, List}
use Rattle.krieg_search.proofs.Common.{Pos, first_made, RootKey, chess, outset, IsOwnTurn, IsOthersTurn, first_cost, Firsts, AreAdded, IsOpened}
use Rattle.krieg_search.proofs.OpenedSets.{none_over, none_made, stopped_first}
use Rattle.krieg_search.proofs.openings.find_openings.Goals as goal

pub returns-then-is_own_turn : goal.returns-then-is_own_turn
returns-then-is_own_turn c =
    let d = c.args.d in
    let who = c.args.who in
    let S = c.args.b.now in
    let T = c.args.table.now in
    let T1 = c.own_openings.new.table in
    let turn : IsOwnTurn who S = λ p i. c.is_own_turn.ensures p i ∙ c.if-is_own_turn.true in
    let none : first_made (chess d) (outset d who) S ≡ 0 = none_made d who S turn in (
      (
        none_over d who S turn,
        subst (λ (cs : List (RootKey × List Pos)). AreAdded T T1 c.in_ok-own_openings.field-0.items cs) (c.in_ok-opened.ensures.sets who turn) c.in_ok-own_openings.ensures,
      ),
      omega arith,
    )

pub returns-in_err-ended : goal.returns-in_err-ended
returns-in_err-ended c =
    let d = c.args.d in
    let who = c.args.who in
    let S = c.args.b.now in
    let T = c.args.table.now in
    let turn : IsOthersTurn who S = λ p i. c.is_own_turn.ensures p i ∙ c.if-is_own_turn.false in
    let u0 = c.args.units.now in
    let u1 = c.first_replies.new.units in
    stopped_first Firsts _ c.from_residual-in_err-ended.result c.in_err-ended.field-0.0 (IsOpened d who S T T) (first_cost S) (first_made (chess d) (outset d who) S) u0 u1 (λ x h. cc) c.from_residual-in_err-ended.ensures.1
    (sym (c.first_replies.ensures.cost who turn)) c.in_err-ended.ensures.units

pub returns-then-ended : goal.returns-then-ended
returns-then-ended c =
    let who = c.args.who in
    let S = c.args.b.now in
    let turn : IsOthersTurn who S = λ p i. c.is_own_turn.ensures p i ∙ c.if-is_own_turn.false in
    let cost = c.first_replies.ensures.cost who turn in (
      sym ((c.in_ok-ended.ensures.sets who turn).over_part) ∙ c.if-ended.true,
      ap (λ n. c.first_replies.new.units + n) cost ∙ c.in_ok-ended.ensures.units,
    )

pub returns : goal.returns
returns c =
    let who = c.args.who in
    let S = c.args.b.now in
    let T = c.args.table.now in
    let T1 = c.first_openings.new.table in
    let turn : IsOthersTurn who S = λ p i. c.is_own_turn.ensures p i ∙ c.if-is_own_turn.false in
    let cost = c.first_replies.ensures.cost who turn in
    let parts = c.in_ok-ended.ensures.sets who turn in (
      (
        sym parts.over_part ∙ c.if-ended.false,
        subst (λ (cs : List (RootKey × List Pos)). AreAdded T T1 c.in_ok-first_openings.field-0.items cs) parts.sets_part c.in_ok-first_openings.ensures,
      ),
      ap (λ n. c.first_replies.new.units + n) cost ∙ c.in_ok-ended.ensures.units,
    )
