-- At the player's turn a set is within an opening set of a list just where its members are listed and open alike.
use Rattle.std.proofs.Common.{◌≡◌, true, false, not, ◌&&◌, ◌⊎◌, List, [], None, refl, sym, ap, subst, inl, inr, ◌∙◌}
use Rattle.std.specs.List.{list_any, list_all}
use Rattle.std.specs.Ordering.{is_eq}
use Rattle.std.specs.Cmp.{Equal-is}
use Rattle.std.proofs.lemmas.Bool.{and_parts, and_from, both_ways, not-true, not_from_false}
use Rattle.krieg_refutation.proofs.Common.{Pos, Side, words_cmp, opening, told, Dialect, position_lt, IsSetOf, is_nil, same, openings, opening_set, is_within, RootKey, chess, outset, IsOwnTurn, opens_with, within_opening}
use Rattle.krieg_words.proofs.OrderLaws.{words_cmp_equal, words_cmp_self}
use Rattle.krieg_pack.proofs.PositionSets.{position_order}
use Rattle.krieg_theory.specs.Sets.{In}
use Rattle.krieg_theory.proofs.Lists.{all_at, all_from, any_at, any_from, nil_or_member}
use Rattle.krieg_theory.proofs.Ascending.{same_eq, same_refl}
use Rattle.krieg_costs.proofs.Reached.{not_nil}
use Rattle.krieg_game.proofs.Starting.{openings_are_members, openings_occur}
use Rattle.krieg_refutation.proofs.ClaimTests.{both}

module _ (d : Dialect) (who : Side) (S B : List Pos) (s : IsSetOf B S) (own : IsOwnTurn who S) where
  abbrev set_at : RootKey → List Pos
  set_at key = opening_set (chess d) (outset d who) S key

  here : (p : Pos) → In p S → In p (set_at (told d (opening p), None))
  here p i = (openings_are_members d who S own (told d (opening p)) None p).1 (i, refl, refl)

  occurs : (p : Pos) → In p S → In (told d (opening p), None) (openings (chess d) (outset d who) S)
  occurs p i = (openings_occur d who S (told d (opening p), None)).occurs.1 (not_nil (set_at (told d (opening p), None)) p (here p i))

  -- the empty set is, where some position is listed
  pub none_within : not (is_nil B) ≡ within_opening d who S []
  none_within = both _ _ (λ h. there (nil_or_member B) (not-true _ h)) back
    where
      there : (is_nil B ≡ true) ⊎ ((p : Pos) × In p B) → is_nil B ≡ false → within_opening d who S [] ≡ true
      there (inl e) n = absurd (both_ways _ n e)
      there (inr m) n = any_from (λ key. true) (openings (chess d) (outset d who) S) _ (occurs m.0 ((s.exact m.0).0 m.1)) refl

      listed : (key : RootKey) → is_nil (set_at key) ≡ false → (is_nil (set_at key) ≡ true) ⊎ ((p : Pos) × In p (set_at key)) → is_nil B ≡ false
      listed key n (inl e) = absurd (both_ways _ n e)
      listed key n (inr m) = not_nil B m.0 ((s.exact m.0).1 ((openings_are_members d who S own key.0 key.1 m.0).0 m.1).0)

      back : within_opening d who S [] ≡ true → not (is_nil B) ≡ true
      back h =
          let k = any_at (λ key. true) (openings (chess d) (outset d who) S) h in
          not_from_false _ (listed k.0 ((openings_occur d who S k.0).occurs.0 k.1) (nil_or_member (set_at k.0)))

  -- any other is, where its members are listed and open as its first one does
  module _ (x : Pos) (X : List Pos) (first : In x X) where
    member : (R : List Pos) → is_within position_lt X R ≡ true → (p : Pos) → In p X → In p R
    member R h p i =
        let m = any_at (same position_lt p) R (all_at (λ p. list_any (same position_lt p) R) X h p i) in
        subst (λ q. In q R) (sym (same_eq position_lt position_order p m.0 m.2)) m.1

    within : (R : List Pos) → ((p : Pos) → In p X → In p R) → is_within position_lt X R ≡ true
    within R h = all_from (λ p. list_any (same position_lt p) R) X (λ p i. any_from (same position_lt p) R p (h p i) (same_refl position_lt position_order p))

    pub some_within : (is_within position_lt X B && list_all (opens_with d (told d (opening x))) X) ≡ within_opening d who S X
    some_within = both _ _ there back
      where
        there : (is_within position_lt X B && list_all (opens_with d (told d (opening x))) X) ≡ true → within_opening d who S X ≡ true
        there h =
            let a = and_parts (is_within position_lt X B) _ h in
            let listed : (p : Pos) → In p X → In p S = λ p i. (s.exact p).0 (member B a.0 p i) in
            any_from (λ key. is_within position_lt X (set_at key)) (openings (chess d) (outset d who) S) (told d (opening x), None) (occurs x (listed x first))
            (within (set_at (told d (opening x), None)) (λ p i. subst (λ w. In p (set_at (w, None))) (words_cmp_equal _ _ ((Equal-is _).0 (all_at (opens_with d (told d (opening x))) X a.1 p i))) (here p (listed p i))))

        back : within_opening d who S X ≡ true → (is_within position_lt X B && list_all (opens_with d (told d (opening x))) X) ≡ true
        back h =
            let k = any_at (λ key. is_within position_lt X (set_at key)) (openings (chess d) (outset d who) S) h in
            let is = λ (p : Pos) (i : In p X). (openings_are_members d who S own k.0.0 k.0.1 p).0 (member (set_at k.0) k.2 p i) in
            and_from _ _ (within B (λ p i. (s.exact p).1 (is p i).0))
            (all_from _ X (λ p i. subst (λ w. is_eq (words_cmp (told d (opening p)) w) ≡ true) (sym (is p i).1 ∙ (is x first).1) (ap is_eq (words_cmp_self (told d (opening p))))))
