use Rattle.std.proofs.Common.{sym, ap, subst, ◌∙◌}
use Rattle.std.specs.Prelude.{Some}
use Rattle.std.proofs.lemmas.Bool.{both_ways}
use Rattle.krieg_board.specs.Sets.{has}
use Rattle.krieg_board.proofs.SetLemmas.{has_zero}
use Rattle.krieg_game.specs.Steps.{IsKept}
use Rattle.krieg_game.proofs.steps.Steps.at.Goals as goal
use Rattle.krieg_game.proofs.steps.Steps.at.Goals.{then-is_behind, else-is_behind}

pub returns-in_default-clause-reached : goal.returns-in_default-clause-reached
returns-in_default-clause-reached c = λ pool a. c.none.ensures.reached pool

pub returns-clause-reached : goal.returns-clause-reached
returns-clause-reached c = λ pool a to l h. elim c.if-is_behind.branch [
  | then-is_behind w ↦
      let k = a to l (ap (λ n. has n to) (sym w.reached-is) ∙ h) in
      let e = w.if-is_behind.true in
      let d = c.is_behind.ensures.dialect e in
      let o = c.is_behind.ensures.own e in
      let t = c.is_behind.ensures.side e ∙ c.side.ensures.value ∙ sym c.side-2.ensures.value in
      let s = c.is_behind.ensures.others e in
      subst (λ v. IsKept v to pool) (λ i. record { before = record { dialect = d i; own = o i }; side = t i; others = s i; king = Some c.in-Some.king; reached = c.if-is_behind.reached }) (record { free = k.free; there = k.there })
  | else-is_behind w ↦ absurd (both_ways _ (ap (λ n. has n to) w.reached-is ∙ has_zero to) h)
]
