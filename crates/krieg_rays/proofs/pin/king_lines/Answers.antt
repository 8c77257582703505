use Rattle.std.proofs.Common.{◌≡◌, ℕ, ◌<◌, ◌∙◌, sym, ap, refl, subst, arith, bit_and, ◌&&◌, ◌||◌, ◌==◌}
use Rattle.std.proofs.lemmas.Nat.{and_le_l}
use Rattle.std.specs.Prelude.{is_some}
use Rattle.krieg_rays.proofs.Common.{is_between, is_clear, man_at, is_of, has, IsLowest, is_near, is_sniper}
use Rattle.krieg_board.proofs.SetLemmas.{has_and}
use Rattle.krieg_rays.proofs.Attacking.{clear_set}
use Rattle.krieg_rays.proofs.Pinning.{shields, only_shields, some_sniper_pins, lines_attack}
use Rattle.krieg_rays.proofs.Taking.{taken, none_left, none_found, kept_more, kept_all}
use Rattle.krieg_rays.proofs.pin.king_lines.Goals as goal
use Rattle.krieg_rays.proofs.pin.king_lines.Goals.{After-without_lowest-rest}

pub loop-rest-init : goal.loop-rest-init
loop-rest-init c = (λ s h. refl, λ s h. none_found _ s)

inside_has : (c : After-without_lowest-rest) (j : ℕ) → j < 64 →
    has (bit_and c.between_at.result c.occupied-occupied.result) j ≡ (is_between c.args.king c.number-sniper.result j && is_some (man_at c.args.b.now j))
inside_has c j h = has_and c.between_at.result c.occupied-occupied.result j ∙ (λ i. c.between_at.ensures j h i && c.occupied-occupied.ensures j h i)

pub loop-rest-preserved : goal.loop-rest-preserved
loop-rest-preserved c =
    let b = c.args.b.now in
    let king = c.args.king in
    let sniper = c.number-sniper.result in
    let inside = bit_and c.between_at.result c.occupied-occupied.result in
    let l = subst (λ (s : ℕ). IsLowest c.loop-rest.rest s) (sym c.number-sniper.ensures.value) c.lowest.ensures in
    let others = c.without_lowest-rest.ensures.others sniper l in (
      λ s h.
          kept_more (λ f. is_clear b king f) c.loop-rest.checkers c.only_if-checkers.result c.loop-rest.rest c.without_lowest-rest.result sniper s (inside == 0) l h others
          (clear_set b king sniper inside (omega (arith, and_le_l c.between_at.result c.occupied-occupied.result, c.between_at.type_inv)) (inside_has c))
          (c.only_if-checkers.ensures s h)
          ∙ c.loop-rest.invariant.0 s h,
      λ s h.
          taken (shields b c.args.who king s) c.loop-rest.pinned (bit_and c.only_one.result c.men_of-own.result) c.loop-rest.rest sniper c.without_lowest-rest.result s l others
          (has_and c.only_one.result c.men_of-own.result s ∙ ap (λ t. t && has c.men_of-own.result s) (c.only_one.ensures s h)
          ∙ only_shields b c.args.who king sniper s inside c.men_of-own.result h (inside_has c) (c.men_of-own.ensures s h))
          ∙ c.loop-rest.invariant.1 s h,
    )

pub returns-clause-checkers : goal.returns-clause-checkers
returns-clause-checkers c = λ k h.
    let b = c.args.b.now in
    sym (kept_all (λ f. is_clear b c.args.king f) c.loop-rest.checkers c.loop-rest.rest k c.loop-rest-test.false)
    ∙ c.loop-rest.invariant.0 k h
    ∙ (λ i. (has_and c.near_men.result c.men_of.result k ∙ (λ j. c.near_men.ensures k h j && c.men_of.ensures k h j)) i || (c.snipers-rest.ensures k h i && is_clear b c.args.king k))
    ∙ (λ i. (is_near b (c.other-by.ensures i) c.args.king k && is_of (c.other-by.ensures i) (man_at b k)) || (is_sniper b (c.other-by.ensures i) c.args.king k && is_clear b c.args.king k))
    ∙ lines_attack b _ c.args.king k h c.requires.square

pub returns-clause-pinned : goal.returns-clause-pinned
returns-clause-pinned c = λ k h.
    let b = c.args.b.now in
    sym (none_left (shields b c.args.who c.args.king k) _ c.loop-rest.rest c.loop-rest-test.false)
    ∙ c.loop-rest.invariant.1 k h
    ∙ some_sniper_pins b c.args.who c.args.king k c.snipers-rest.result c.requires.alone c.requires.square h c.requires.king
    (λ f hf. c.snipers-rest.ensures f hf ∙ ap (λ o. is_sniper b o c.args.king f) c.other-by.ensures)
