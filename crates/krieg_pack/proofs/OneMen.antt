-- Positions by the one man in whose square they differ, taken one place after another.
use Rattle.std.proofs.Common.{◌≡◌, ℕ, zero, suc, ◌+◌, ◌^◌, ◌<◌, ◌≤◌, true, false, not, ◌&&◌, ◌==◌, List, [], ◌∷◌, ◌++◌, length, get_or, drop, refl, sym, ap, ◌∙◌, arith, append-nil, append_assoc, map}
use Rattle.std.specs.Cmp.Lexicographic.{pointwise}
use Rattle.std.specs.Prelude.{All}
use Rattle.std.proofs.lemmas.Bool.{ne_eqb}
use Rattle.std.proofs.lemmas.List.{drop_more, drop_all}
use Rattle.std.proofs.lemmas.List.Elements.{All-cons, All-head, All-nil, All-same, All-tail}
use Rattle.krieg_board.proofs.Picked.{picked, picked_step, picked_zero}
use Rattle.krieg_board.proofs.SetLemmas.{has_rest, lowest}
use Rattle.krieg_pack.proofs.Common.{Pos, has, IsLowest, IsPacked, packed, unpacked, Inside, OneMan, at, are, fields_of, members_of, same_fields}

module _ (h : OneMan) where
  -- the fields at the places of a set
  unfoldable pub fields : ℕ → List Inside
  fields rest = picked rest (λ k. at h k ∷ [])

  fields_none : (rest : ℕ) → rest ≡ 0 → fields rest ≡ []
  unfolding fields
  fields_none rest z = ap (λ n. picked n (λ k. at h k ∷ [])) z ∙ picked_zero (λ k. at h k ∷ [])

  pub fields_step : (rest t less : ℕ) → IsLowest rest t → ((k : ℕ) → k < 64 → has less k ≡ (has rest k && not (k == t))) → fields rest ≡ at h t ∷ fields less
  unfolding fields
  fields_step = picked_step (λ k. at h k ∷ [])

  -- they are made one after the other
  pub come_all : All IsPacked (fields_of h) → All IsPacked (fields h.places) × (map unpacked (fields h.places) ≡ members_of h)
  unfolding fields fields_of picked
  come_all i = (i, refl)

  pub come_step : (rest t less : ℕ) (done : List Pos) → fields rest ≡ at h t ∷ fields less → All IsPacked (fields rest) → done ++ map unpacked (fields rest) ≡ members_of h →
      IsPacked (at h t) × (All IsPacked (fields less) × ((done ++ unpacked (at h t) ∷ []) ++ map unpacked (fields less) ≡ members_of h))
  come_step rest t less done s i e =
      let all = All-same IsPacked _ _ (sym s) i in
      (All-head IsPacked (at h t) (fields less) all, (All-tail IsPacked (at h t) (fields less) all, append_assoc done (unpacked (at h t) ∷ []) (map unpacked (fields less)) ∙ sym (ap (λ ks. done ++ map unpacked ks) s) ∙ e))

  pub come_none : (rest : ℕ) (done : List Pos) → rest ≡ 0 → done ++ map unpacked (fields rest) ≡ members_of h → done ≡ members_of h
  come_none rest done z e = sym (ap (λ ks. done ++ map unpacked ks) (fields_none rest z) ∙ append-nil done) ∙ e

  -- only no places leave nothing
  tells_end : (rest : ℕ) → rest < 2 ^ 64 → pointwise same_fields (fields rest) [] ≡ (rest == 0)
  tells_end zero f = ap (λ ks. pointwise same_fields ks []) (fields_none 0 refl)
  tells_end (suc n) f =
      let l = lowest (suc n) (omega arith) f in
      ap (λ ks. pointwise same_fields ks []) (fields_step (suc n) _ _ l (λ k _. has_rest (suc n) _ k (omega arith) f l)) ∙ sym (ne_eqb (suc n) 0 (omega arith))

  module _ (ps : List Pos) where
    -- what is left to be compared decides, and the positions are found where it holds
    pub record AreLeft (rest i : ℕ) : Type 0 where
      pub tells : pointwise same_fields (fields rest) (map packed (drop i ps)) ≡ are h ps
      pub found : All IsPacked (fields rest) → map unpacked (fields rest) ≡ drop i ps → All IsPacked (fields_of h) × (members_of h ≡ ps)

    pub left_all : AreLeft h.places 0
    unfolding fields fields_of picked are
    left_all = record { tells = refl; found = λ i e. (i, e) }

    pub left_end : (rest i : ℕ) → rest < 2 ^ 64 → length ps ≤ i → AreLeft rest i → ((rest == 0) ≡ are h ps) × (rest ≡ 0 → All IsPacked (fields_of h) × (members_of h ≡ ps))
    left_end rest i f l a = (
      sym (tells_end rest f) ∙ ap (λ qs. pointwise same_fields (fields rest) (map packed qs)) (sym (drop_all i ps l)) ∙ a.tells,
      λ z. a.found (All-same IsPacked _ _ (fields_none rest z) (All-nil IsPacked)) (ap (map unpacked) (fields_none rest z) ∙ sym (drop_all i ps l)),
    )

    module _ (rest i : ℕ) (p : Pos) (l : i < length ps) (e : p ≡ get_or ps i p) (a : AreLeft rest i) where
      next : drop i ps ≡ p ∷ drop (i + 1) ps
      next = drop_more ps i p l ∙ ap (λ q. q ∷ drop (i + 1) ps) (sym e)

      tells_next : (ks : List Inside) → fields rest ≡ ks → pointwise same_fields ks (packed p ∷ map packed (drop (i + 1) ps)) ≡ are h ps
      tells_next ks s = sym (λ j. pointwise same_fields (s j) (map packed (next j))) ∙ a.tells

      pub left_over : rest ≡ 0 → false ≡ are h ps
      left_over z = tells_next [] (fields_none rest z)

      pub left_no : (t less : ℕ) → fields rest ≡ at h t ∷ fields less → same_fields (at h t) (packed p) ≡ false → false ≡ are h ps
      left_no t less s n = sym (ap (λ b. b && pointwise same_fields (fields less) (map packed (drop (i + 1) ps))) n) ∙ tells_next (at h t ∷ fields less) s

      pub left_step : (t less : ℕ) → fields rest ≡ at h t ∷ fields less → same_fields (at h t) (packed p) ≡ true → IsPacked (at h t) → unpacked (at h t) ≡ p → AreLeft less (i + 1)
      left_step t less s y k u = record {
        tells = sym (ap (λ b. b && pointwise same_fields (fields less) (map packed (drop (i + 1) ps))) y) ∙ tells_next (at h t ∷ fields less) s;
        found = λ j f. a.found (All-same IsPacked _ _ s (All-cons IsPacked (at h t) (fields less) k j)) (ap (map unpacked) s ∙ (λ x. u x ∷ f x) ∙ sym next);
      }
