-- Nobody is pinned behind a move where no rook, bishop or queen stands on a line with the king then.
use Rattle.std.proofs.Common.{◌≡◌, ◌≢◌, ℕ, ◌<◌, Bool, true, false, not, ◌&&◌, ◌||◌, ◌==◌, ◌⊎◌, inl, inr, refl, sym, ◌∙◌, ap, set, length}
use Rattle.std.specs.Prelude.{Some, None}
use Rattle.std.proofs.lemmas.Bool.{cases_eq, eq-eqb, ne_eqb}
use Rattle.std.proofs.Math.Bool.{or-false, and-false, and-true}
use Rattle.std.proofs.lemmas.List.{get_or-set_other}
use Rattle.krieg_rays.proofs.Common.{other, has, Board, man_at, is_of, is_man, is_kind, count_kind, Side, White, Rook, Bishop, Queen, King, Man, goes, is_pinned, is_sniper}
use Rattle.krieg_board.proofs.SetLemmas.{has_zero}
use Rattle.krieg_board.proofs.SquareTests.{some_square_none}
use Rattle.krieg_rays.proofs.Attacking.{emptied}
use Rattle.krieg_rays.proofs.Pinning.{shields, some_sniper_pins}

-- who stands on no line, or is no line man of the side, attacks along none
none_along : (r d rook bishop queen own : Bool) → ((r || d) && (((rook || bishop) || queen) && own)) ≡ false → (((r && (rook || queen)) || (d && (bishop || queen))) && own) ≡ false
none_along r d rook bishop queen false h = and-false _
none_along false false rook bishop queen true h = refl
none_along true d true bishop queen true h = cc
none_along true d false true queen true h = cc
none_along true d false false true true h = cc
none_along true d false false false true h = ap (λ x. x && true) (and-false d)
none_along false true true bishop queen true h = cc
none_along false true false true queen true h = cc
none_along false true false false true true h = cc
none_along false true false false false true h = refl

none_off : (r d x y own : Bool) → (r || d) ≡ false → (((r && x) || (d && y)) && own) ≡ false
none_off false false x y own h = refl
none_off true d x y own h = cc
none_off false true x y own h = cc

split_or : (l m : Bool) → (l && (m || true)) ≡ false → l ≡ false
split_or true true h = cc
split_or true false h = cc
split_or false m h = refl

-- a man has gone from one square of the board to another
module _ (b : Board) (man : Man) (king from to : ℕ) (size : length b ≡ 64) (inside : king < 64) (to_in : to < 64)
    (lines sliders behind met : ℕ)
    (are_lines : (f : ℕ) → f < 64 → has lines f ≡ (goes Rook White king f || goes Bishop White king f))
    (are_sliders : (f : ℕ) → f < 64 → has sliders f ≡ (((is_kind Rook (man_at b f) || is_kind Bishop (man_at b f)) || is_kind Queen (man_at b f)) && is_of man.side (man_at b f)))
    (are_behind : (f : ℕ) → f < 64 → has behind f ≡ ((has sliders f && not (f == from)) || f == to))
    (are_met : (f : ℕ) → f < 64 → has met f ≡ (has lines f && has behind f)) (none : met ≡ 0) where
  abbrev moved : Board
  moved = set (set b from None) to (Some man)

  off : (f : ℕ) → f < 64 → (has lines f && has behind f) ≡ false
  off f hf = sym (are_met f hf) ∙ ap (λ n. has n f) none ∙ has_zero f

  no_sniper : (f : ℕ) → f < 64 → is_sniper moved man.side king f ≡ false
  unfolding is_sniper
  no_sniper f hf = by_place (cases_eq f to) (cases_eq f from)
    where
      by_place : (f ≡ to) ⊎ (f ≢ to) → (f ≡ from) ⊎ (f ≢ from) → is_sniper moved man.side king f ≡ false
      by_place (inl e) y =
          none_off (goes Rook White king f) (goes Bishop White king f) _ _ _
          (sym (are_lines f hf) ∙ split_or (has lines f) (has sliders f && not (f == from)) (ap (λ x. has lines f && ((has sliders f && not (f == from)) || x)) (sym (eq-eqb f to e)) ∙ ap (λ x. has lines f && x) (sym (are_behind f hf)) ∙ off f hf))
      by_place (inr t) (inl e) =
          (λ i. ((goes Rook White king f && (is_kind Rook (gone i) || is_kind Queen (gone i))) || (goes Bishop White king f && (is_kind Bishop (gone i) || is_kind Queen (gone i)))) && is_of man.side (gone i))
          ∙ and-false _
        where
          gone : man_at moved f ≡ None
          gone = get_or-set_other (set b from None) to f (Some man) None t ∙ ap (man_at (set b from None)) e ∙ emptied b from
      by_place (inr t) (inr g) =
          (λ i. ((goes Rook White king f && (is_kind Rook (stays i) || is_kind Queen (stays i))) || (goes Bishop White king f && (is_kind Bishop (stays i) || is_kind Queen (stays i)))) && is_of man.side (stays i))
          ∙ none_along (goes Rook White king f) (goes Bishop White king f) (is_kind Rook (man_at b f)) (is_kind Bishop (man_at b f)) (is_kind Queen (man_at b f)) (is_of man.side (man_at b f))
          (sym (λ i. are_lines f hf i && (are_behind f hf ∙ (λ j. (are_sliders f hf j && not (ne_eqb f from g j)) || ne_eqb f to t j) ∙ or-false _ ∙ and-true _) i) ∙ off f hf)
        where
          stays : man_at moved f ≡ man_at b f
          stays = get_or-set_other (set b from None) to f (Some man) None t ∙ get_or-set_other b from f None None g

  pub nobody_pinned : (who : Side) → other who ≡ man.side → count_kind moved who King ≡ 1 → is_man who King (man_at moved king) ≡ true → (k : ℕ) → k < 64 → is_pinned moved who k ≡ false
  nobody_pinned who other_is one is k hk =
      sym (some_sniper_pins moved who king k 0 one inside hk is (λ f hf. has_zero f ∙ sym (ap (λ s. is_sniper moved s king f) other_is ∙ no_sniper f hf)))
      ∙ some_square_none _ (λ f hf. ap (λ x. x && shields moved who king k f) (has_zero f))
