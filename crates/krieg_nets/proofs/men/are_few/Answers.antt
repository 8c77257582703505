use Rattle.std.proofs.Common.{◌∙◌, sym, ap}
use Rattle.std.proofs.lemmas.Bool.{both_ways, eqb-true, ne_eqb}
use Rattle.krieg_board.specs.Sets.{has}
use Rattle.krieg_board.proofs.SetLemmas.{has_zero}
use Rattle.krieg_nets.proofs.men.are_few.Goals.{then-men_of-eq0, else-men_of-eq0}
use Rattle.krieg_nets.proofs.men.are_few.Goals as goal

pub returns-then-sets-eq0 : goal.returns-then-sets-eq0
returns-then-sets-eq0 c = λ few. elim c.if-men_of-eq0.branch [
  | then-men_of-eq0 w ↦ record {
    enemies = λ k h. sym (c.men_of.ensures k h) ∙ ap (λ n. has n k) w.if-men_of-eq0.true ∙ has_zero k;
    officers = λ k h. sym (w.sets.ensures.pawns k h) ∙ ap (λ n. has n k) (eqb-true w.sets.result.now.pawns 0 (sym w.value-is ∙ c.if-sets-eq0.true)) ∙ has_zero k;
  }
  | else-men_of-eq0 w ↦ absurd (both_ways c.if-men_of-eq0.value (w.value-is ∙ ne_eqb c.men_of.result 0 w.if-men_of-eq0.false) c.if-sets-eq0.true)
]
