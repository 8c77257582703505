use Rattle.std.proofs.Common.{◌∙◌, ◌&&◌, ◌==◌, bit_and, sym, ap}
use Rattle.std.proofs.lemmas.Bool.{eq-eqb, ne_eqb}
use Rattle.krieg_board.proofs.SameMen.{same_men, same_men_not}
use Rattle.krieg_board.proofs.hand.has_same_men.Goals as goal

pub returns-then-own-men_of : goal.returns-then-own-men_of
returns-then-own-men_of c =
    ap (λ t. t && bit_and c.differing.result c.men_of-own.result == 0) (sym (eq-eqb c.men_of-own.result c.men_of.result c.if-own-men_of.true))
    ∙ same_men c.args.who c.args.a.now c.args.b.now c.men_of-own.result c.men_of.result c.differing.result
    c.men_of-own.type_inv c.men_of.type_inv c.differing.type_inv c.men_of-own.ensures c.men_of.ensures c.differing.ensures

pub returns-else-own-men_of : goal.returns-else-own-men_of
returns-else-own-men_of c =
    ne_eqb c.men_of-own.result c.men_of.result c.if-own-men_of.false
    ∙ same_men_not c.args.who c.args.a.now c.args.b.now c.men_of-own.result c.men_of.result
    c.men_of-own.type_inv c.men_of.type_inv c.men_of-own.ensures c.men_of.ensures (ne_eqb c.men_of-own.result c.men_of.result c.if-own-men_of.false)
