-- What a plan meets before the first own turn, in the words of chess.
use Rattle.std.proofs.Common.{◌≡◌, ℕ, Bool, true, false, not, ◌&&◌, cond, List, [], ◌∷◌, ◌⊎◌, inl, inr, map, refl, sym, ap, subst, ◌∙◌}
use Rattle.std.specs.Prelude.{Some, None}
use Rattle.std.specs.List.{list_all}
use Rattle.std.proofs.lemmas.Bool.{cond-true, cond-false, both_ways, false_from_ne_true}
use Rattle.krieg_game.proofs.Common.{is_same_side, Pos, Side, after, moves, is_ended, words, opening, told, Dialect, position_lt, In, at_key, is_nil, Plan, wins_root, all_starts, opening_set, openings, RootKey, root_lt, chess, outset, first_move, starts, waits, mates_from, MatesFromEach, OverIsEnded, ComesFirst, OpeningsAreMembers, OpeningsComeFirst, OpeningsOccur}
use Rattle.krieg_moves.specs.Moves.{is_nil as no_moves}
use Rattle.krieg_pack.proofs.PositionSets.{position_order}
use Rattle.krieg_theory.proofs.Ascending.{as_set_ascending, in_as_set, as_set_in}
use Rattle.krieg_theory.proofs.Keys.{at_key_in, in_at_key, key_occurs, occurs_at}
use Rattle.krieg_theory.proofs.Lists.{in_flat, flat_in, in_map, map_in, nil_or_member, nil_none}
use Rattle.krieg_game.proofs.KeyLaws.{root_order}
use Rattle.krieg_game.proofs.Winning.{all_of_map, nil_of_map}

and_true : (b : Bool) → (b && true) ≡ b
and_true true = refl
and_true false = refl

module _ (d : Dialect) (who : Side) where
  pub own_start : (p : Pos) → is_same_side p.side who ≡ true → starts d who p ≡ ((told d (opening p), None), p) ∷ []
  unfolding starts
  own_start p h = cond-true (is_same_side p.side who) _ _ h

  pub first_moves : (p : Pos) → is_same_side p.side who ≡ false → starts d who p ≡ map (first_move d p) (moves p)
  unfolding starts
  first_moves p h = cond-false (is_same_side p.side who) _ _ h

  from_one : (plan : Plan (chess d) (outset d who)) (k : ℕ) (p : Pos) →
      (not (is_nil (starts d who p)) && list_all (λ s. wins_root (chess d) (outset d who) plan s.0 s.1 k) (starts d who p)) ≡ mates_from d who plan k p
  unfolding starts is_ended
  from_one plan k p = by_turn (is_same_side p.side who)
    where
      wins : RootKey → Pos → Bool
      wins key q = wins_root (chess d) (outset d who) plan key q k

      by_moves : (rs : List _) → (not (is_nil (map (first_move d p) rs)) && list_all (λ s. wins s.0 s.1) (map (first_move d p) rs)) ≡ (not (no_moves rs) && list_all (λ r. wins (told d (opening p), Some (told d (words p r))) (after p r)) rs)
      by_moves [] = refl
      by_moves (r ∷ rs) = all_of_map (λ s. wins s.0 s.1) (first_move d p) (λ r. wins (told d (opening p), Some (told d (words p r))) (after p r)) (λ r. refl) (r ∷ rs)

      by_turn : (own : Bool) →
          (not (is_nil (cond own (((told d (opening p), None), p) ∷ []) (map (first_move d p) (moves p)))) && list_all (λ s. wins s.0 s.1) (cond own (((told d (opening p), None), p) ∷ []) (map (first_move d p) (moves p))))
          ≡ cond own (wins (told d (opening p), None) p) (not (no_moves (moves p)) && list_all (λ r. wins (told d (opening p), Some (told d (words p r))) (after p r)) (moves p))
      by_turn true = and_true (wins (told d (opening p), None) p)
      by_turn false = by_moves (moves p)

  pub mates_from_each : MatesFromEach d who
  mates_from_each plan [] k = refl
  mates_from_each plan (p ∷ S) k =
      ap (λ b. b && list_all (λ p. not (is_nil (starts d who p)) && list_all (λ s. wins_root (chess d) (outset d who) plan s.0 s.1 k) (starts d who p)) S) (from_one plan k p)
      ∙ ap (λ b. mates_from d who plan k p && b) (mates_from_each plan S k)

  pub over_is_ended : OverIsEnded d who
  unfolding starts waits is_ended
  over_is_ended p = by_turn (is_same_side p.side who)
    where
      by_turn : (own : Bool) → is_nil (cond own (((told d (opening p), None), p) ∷ []) (map (first_move d p) (moves p))) ≡ (not own && no_moves (moves p))
      by_turn true = refl
      by_turn false = nil_of_map (first_move d p) (moves p)

  -- what stands in the set of a key came about by a start under that key
  started : (S : List Pos) (key : RootKey) (q : Pos) → In q (opening_set (chess d) (outset d who) S key) → (p : Pos) × In p S × In (key, q) (starts d who p)
  started S key q i =
      let o = at_key_in root_lt root_order key (all_starts (chess d) (outset d who) S) q (as_set_in position_lt position_order q _ i) in
      let p = flat_in (starts d who) S o.0 o.1 in
      let e : o.0 ≡ (key, q) = λ j. (o.2 j, o.3 j) in
      (p.0, p.1, subst (λ x. In x (starts d who p.0)) e p.2)

  starting : (S : List Pos) (key : RootKey) (q p : Pos) → In p S → In (key, q) (starts d who p) → In q (opening_set (chess d) (outset d who) S key)
  starting S key q p i s =
      in_as_set position_lt position_order q _ (in_at_key root_lt root_order key (all_starts (chess d) (outset d who) S) (key, q) (in_flat (starts d who) S p (key, q) i s) refl)

  pub openings_are_members : OpeningsAreMembers d who
  openings_are_members S own opens heard q = (members, comes)
    where
      members : In q (opening_set (chess d) (outset d who) S (opens, heard)) → In q S × (opens ≡ told d (opening q)) × (heard ≡ None)
      members i =
          let s = started S (opens, heard) q i in
          go s.0 s.1 (subst (In ((opens, heard), q)) (own_start s.0 (own s.0 s.1)) s.2)
        where
          go : (p : Pos) → In p S → In {X = RootKey × Pos} ((opens, heard), q) (((told d (opening p), None), p) ∷ []) → In q S × (opens ≡ told d (opening q)) × (heard ≡ None)
          go p m (inl e) =
              let to : p ≡ q = ap (λ o. o.1) e in
              (subst (λ x. In x S) to m, ap (λ o. o.0.0) (sym e) ∙ ap (λ x. told d (opening x)) to, ap (λ o. o.0.1) (sym e))
          go p m (inr i) = absurd i

      comes : In q S × (opens ≡ told d (opening q)) × (heard ≡ None) → In q (opening_set (chess d) (outset d who) S (opens, heard))
      comes c =
          let key : (told d (opening q), None) ≡ (opens, heard) = λ j. (sym c.1 j, sym c.2 j) in
          starting S (opens, heard) q q c.0 (subst (In ((opens, heard), q)) (sym (own_start q (own q c.0))) (inl (λ j. (key j, q))))

  pub openings_come_first : OpeningsComeFirst d who
  openings_come_first S other opens heard q = (first, comes)
    where
      first : In q (opening_set (chess d) (outset d who) S (opens, heard)) → ComesFirst d who S opens heard q
      first i =
          let s = started S (opens, heard) q i in
          let r = map_in (first_move d s.0) (moves s.0) ((opens, heard), q) (subst (In ((opens, heard), q)) (first_moves s.0 (other s.0 s.1)) s.2) in
          record {
            from = s.0;
            member = s.1;
            moved = r.0;
            listed = r.1;
            opens_told = ap (λ o. o.0.0) (sym r.2);
            heard_told = ap (λ o. o.0.1) (sym r.2);
            to = ap (λ o. o.1) (sym r.2);
          }

      comes : ComesFirst d who S opens heard q → In q (opening_set (chess d) (outset d who) S (opens, heard))
      comes c =
          let e : first_move d c.from c.moved ≡ ((opens, heard), q) = λ j. ((sym c.opens_told j, sym c.heard_told j), sym c.to j) in
          let i = subst (λ o. In o (map (first_move d c.from) (moves c.from))) e (in_map (first_move d c.from) (moves c.from) c.moved c.listed) in
          starting S (opens, heard) q c.from c.member (subst (In ((opens, heard), q)) (sym (first_moves c.from (other c.from c.member))) i)

  pub openings_occur : OpeningsOccur d who
  openings_occur S key = record {
    ascending = as_set_ascending position_lt position_order (at_key root_lt key (all_starts (chess d) (outset d who) S));
    occurs = (there, (λ n. some n (nil_or_member (opening_set (chess d) (outset d who) S key))));
  }
    where
      there : In key (openings (chess d) (outset d who) S) → is_nil (opening_set (chess d) (outset d who) S key) ≡ false
      there i =
          let o = occurs_at root_lt root_order (all_starts (chess d) (outset d who) S) key i in
          let m = in_as_set position_lt position_order o.0.1 _ (in_at_key root_lt root_order key (all_starts (chess d) (outset d who) S) o.0 o.1 o.2) in
          false_from_ne_true _ (λ e. nil_none (opening_set (chess d) (outset d who) S key) e o.0.1 m)

      some : is_nil (opening_set (chess d) (outset d who) S key) ≡ false → (is_nil (opening_set (chess d) (outset d who) S key) ≡ true) ⊎ ((q : Pos) × In q (opening_set (chess d) (outset d who) S key)) → In key (openings (chess d) (outset d who) S)
      some n (inl e) = absurd (both_ways _ n e)
      some n (inr m) =
          let o = at_key_in root_lt root_order key (all_starts (chess d) (outset d who) S) m.0 (as_set_in position_lt position_order m.0 _ m.1) in
          subst (λ k. In k (openings (chess d) (outset d who) S)) o.2 (key_occurs root_lt root_order (all_starts (chess d) (outset d who) S) o.0 o.1)
