use Rattle.std.proofs.Common.{◌∙◌, sym, set, not, ◌==◌, refl}
use Rattle.std.proofs.lemmas.Bool.{and_parts}
use Rattle.std.specs.Prelude.{None, is_some}
use Rattle.krieg_rays.proofs.Common.{has, is_of, is_attacked}
use Rattle.krieg_board.proofs.SameTests.{some_square_same}
use Rattle.krieg_rays.proofs.Attacking.{attack_there, left_out, stood}
use Rattle.krieg_rays.proofs.attack.attacked_by_without.Goals as goal

pub attacked_among-requires : goal.attacked_among-requires
attacked_among-requires c = λ f h here.
    sym (c.men_of.ensures f h) ∙ (and_parts (has c.men_of.result f) (not (f == c.args.gone)) (sym (c.left_out-men.ensures f h) ∙ here)).0

pub returns : goal.returns
unfolding is_attacked
returns c = λ k h.
    let b = c.args.b.now in
    c.attacked_among.ensures k h
    ∙ some_square_same _ _ (λ f hf.
    attack_there b (set b c.args.gone None) c.args.by c.left_out-men.result c.left_out-occupied.result f k
    (left_out is_some refl b c.occupied.result c.left_out-occupied.result c.args.gone c.occupied.ensures c.left_out-occupied.ensures)
    (left_out (is_of c.args.by) refl b c.men_of.result c.left_out-men.result c.args.gone c.men_of.ensures c.left_out-men.ensures f hf)
    (stood c.args.by b c.args.gone f))
