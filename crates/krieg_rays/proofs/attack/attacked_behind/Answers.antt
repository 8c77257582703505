use Rattle.std.proofs.Common.{◌∙◌, ◌||◌, ◌==◌, not, sym, ap, set, bit_or, refl, arith}
use Rattle.std.proofs.Math.ListN.{length-set}
use Rattle.std.proofs.lemmas.List.{set_comm}
use Rattle.std.proofs.lemmas.Bool.{and_parts}
use Rattle.std.specs.Prelude.{Some, None, is_some}
use Rattle.krieg_rays.proofs.Common.{has, is_of, is_attacked}
use Rattle.krieg_board.proofs.SetLemmas.{has_or}
use Rattle.krieg_rays.proofs.Attacking.{left_out, stood}
use Rattle.krieg_rays.proofs.Behind.{attacked_behind}
use Rattle.krieg_rays.proofs.attack.attacked_behind.Goals as goal

pub attacked_among-requires : goal.attacked_among-requires
attacked_among-requires c = λ f h here.
    let kept = (and_parts (has c.left_out-others.result f) (not (f == c.args.to)) (sym (c.left_out-3.ensures f h) ∙ here)).0 in
    let stays = (and_parts (has c.left_out.result f) (not (f == c.args.gone)) (sym (c.left_out-others.ensures f h) ∙ kept)).0 in
    sym (c.men_of.ensures f h) ∙ (and_parts (has c.men_of.result f) (not (f == c.args.from)) (sym (c.left_out.ensures f h) ∙ stays)).0

pub returns : goal.returns
returns c = λ k h.
    let b = c.args.b.now in
    let lifted = set b c.args.from None in
    let board = set lifted c.args.gone None in
    let here = Some c.args.man in
    let own = is_of c.args.man.side in
    has_or c.attacked_among.result c.attacked_over.result k
    ∙ (λ i. c.attacked_among.ensures k h i || c.attacked_over.ensures k h i)
    ∙ attacked_behind b board c.args.man c.args.to (omega (arith, c.requires.size, c.requires.to, length-set b c.args.from None, length-set lifted c.args.gone None)) c.requires.to c.left_out-3.result (bit_or c.left_out-squares.result c.only.result) c.left_out-others.result c.left_out-squares.result
    c.left_out-3.ensures
    (left_out own refl lifted c.left_out.result c.left_out-others.result c.args.gone (left_out own refl b c.men_of.result c.left_out.result c.args.from c.men_of.ensures c.left_out.ensures) c.left_out-others.ensures)
    (λ f there. stood c.args.man.side b c.args.from f (ap own (stood c.args.man.side lifted c.args.gone f there) ∙ there) ∙ stood c.args.man.side lifted c.args.gone f there)
    (left_out is_some refl lifted c.left_out-2.result c.left_out-squares.result c.args.gone (left_out is_some refl b c.occupied.result c.left_out-2.result c.args.from c.occupied.ensures c.left_out-2.ensures) c.left_out-squares.ensures)
    (λ f hf. has_or c.left_out-squares.result c.only.result f ∙ ap (λ x. has c.left_out-squares.result f || x) (c.only.ensures f hf))
    k
    ∙ ap (λ x. is_attacked x k c.args.man.side) (set_comm lifted c.args.gone c.args.to None here (λ e. c.requires.apart (sym e)))
