use Rattle.std.proofs.Common.{◌≡◌, ◌∙◌, Bool, true, false, ◌&&◌, ◌||◌, ◌-◌, not, refl, sym, ap, bit_and, bit_or}
use Rattle.std.proofs.lemmas.Bool.{eqb-true}
use Rattle.krieg_rays.proofs.Common.{man_at, is_man, count_kind, King, has, is_pinned}
use Rattle.krieg_board.proofs.SetLemmas.{has_and, has_or, has_not}
use Rattle.krieg_rays.proofs.Geometry.{straight_lines, diagonal_lines}
use Rattle.krieg_rays.proofs.PinsBehind.{nobody_pinned}
use Rattle.krieg_rays.proofs.pin.may_pin_behind.Goals as goal

not_false : (x : Bool) → not x ≡ false → x ≡ true
not_false true h = refl
not_false false h = cc

pub returns : goal.returns
returns c = λ none b board who other_is one is k hk.
    let sets = c.sets-sets.result.now in
    let kinds = c.sets-sets.ensures in
    let straight = bit_or c.file_through.result c.rank_through.result in
    let diagonal = bit_or c.rising_through.result c.falling_through.result in
    let lines = bit_or straight diagonal in
    let line_men = bit_or (bit_or sets.rooks sets.bishops) sets.queens in
    let sliders = bit_and line_men c.men_of.result in
    let stay = bit_and sliders (18446744073709551615 - c.only.result) in
    let behind = bit_or stay c.only-2.result in
    ap (λ x. is_pinned x who k) board
    ∙ nobody_pinned c.args.b.now c.args.man c.args.king c.args.from c.args.to c.requires.size c.requires.king c.requires.to lines sliders behind (bit_and lines behind)
    (λ f hf. has_or straight diagonal f
    ∙ (λ i. (has_or c.file_through.result c.rank_through.result f ∙ (λ j. c.file_through.ensures f hf j || c.rank_through.ensures f hf j) ∙ straight_lines c.args.king f c.requires.king hf) i
    || (has_or c.rising_through.result c.falling_through.result f ∙ (λ j. c.rising_through.ensures f hf j || c.falling_through.ensures f hf j) ∙ diagonal_lines c.args.king f c.requires.king hf) i))
    (λ f hf. has_and line_men c.men_of.result f
    ∙ (λ i. (has_or (bit_or sets.rooks sets.bishops) sets.queens f ∙ (λ j. (has_or sets.rooks sets.bishops f ∙ (λ n. kinds.rooks f hf n || kinds.bishops f hf n)) j || kinds.queens f hf j)) i && c.men_of.ensures f hf i))
    (λ f hf. has_or stay c.only-2.result f
    ∙ (λ i. (has_and sliders (18446744073709551615 - c.only.result) f ∙ ap (λ x. has sliders f && x) (has_not c.only.result f c.only.type_inv hf ∙ ap not (c.only.ensures f hf))) i || c.only-2.ensures f hf i))
    (λ f hf. has_and lines behind f)
    (eqb-true (bit_and lines behind) 0 (not_false _ none))
    who other_is (ap (λ x. count_kind x who King) (sym board) ∙ one) (ap (λ x. is_man who King (man_at x c.args.king)) (sym board) ∙ is) k hk
