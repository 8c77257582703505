-- The sets of a table, which are moved into claims one by one.
use Rattle.std.proofs.Common.{◌≡◌, ℕ, zero, suc, ◌<◌, List, [], ◌∷◌, ◌++◌, length, set, map, slice_index_or, Option, Some, None, refl, ap, ◌∙◌, arith}
use Rattle.krieg_refute.proofs.Common.{Pos, SetRows, sets, set_at, SetPlace, Here, set_in, HaveSets}
use Rattle.krieg_refute.specs.declared.claims.SetPlace.TheVariants.{In}
use Rattle.krieg_refutation.specs.declared.refutation.Claim.{Claim}

pub none_taken : (Bs : List (List Pos)) → map (set_in []) (map (λ B. Here B) Bs) ≡ map Some Bs
none_taken [] = refl
none_taken (B ∷ Bs) = ap (λ (t : List (Option (List Pos))). Some B ∷ t) (none_taken Bs)

module _ (cs : List Claim) where
  pub slot_within : (slots : List SetPlace) (T : SetRows) (i : ℕ) → HaveSets cs slots T → i < length T → i < length slots
  slot_within [] [] i h l = l
  slot_within [] (r ∷ T) i h l = absurd (let e : ◌≡◌ {A = List (Option (List Pos))} [] (Some r.0 ∷ map Some (sets T)) = h in cc)
  slot_within (s ∷ slots) [] i h l = absurd (omega arith)
  slot_within (s ∷ slots) (r ∷ T) zero h l = omega arith
  slot_within (s ∷ slots) (r ∷ T) (suc i) h l =
      let p = slot_within slots T i (let e : set_in cs s ∷ map (set_in cs) slots ≡ Some r.0 ∷ map Some (sets T) = h in cc) (omega arith) in
      omega arith

  pub slot_has : (slots : List SetPlace) (T : SetRows) (i : ℕ) (s : SetPlace) → HaveSets cs slots T → i < length T → s ≡ slice_index_or slots i s → set_in cs s ≡ Some (set_at T i)
  slot_has slots [] i s h l e = absurd (omega arith)
  slot_has [] (r ∷ T) i s h l e = absurd (let q : ◌≡◌ {A = List (Option (List Pos))} [] (Some r.0 ∷ map Some (sets T)) = h in cc)
  slot_has (x ∷ slots) (r ∷ T) zero s h l e =
      let q : s ≡ x = e in
      let p : set_in cs x ∷ map (set_in cs) slots ≡ Some r.0 ∷ map Some (sets T) = h in
      cc
  slot_has (x ∷ slots) (r ∷ T) (suc i) s h l e = slot_has slots T i s (let p : set_in cs x ∷ map (set_in cs) slots ≡ Some r.0 ∷ map Some (sets T) = h in cc) (omega arith) e

module _ (c : Claim) where
  stays_at : (cs : List Claim) (k : ℕ) (B : List Pos) → set_in cs (In k) ≡ Some B → set_in (cs ++ c ∷ []) (In k) ≡ Some B
  stays_at [] k B e = absurd (let q : ◌≡◌ {A = Option (List Pos)} None (Some B) = e in cc)
  stays_at (x ∷ cs) zero B e = e
  stays_at (x ∷ cs) (suc k) B e = stays_at cs k B e

  last_at : (cs : List Claim) → set_in (cs ++ c ∷ []) (In (length cs)) ≡ Some c.set
  last_at [] = refl
  last_at (x ∷ cs) = last_at cs

  module _ (cs : List Claim) where
    -- a set that is in a claim stays there where one claim more comes
    stays : (s : SetPlace) (B : List Pos) → set_in cs s ≡ Some B → set_in (cs ++ c ∷ []) s ≡ Some B
    stays (Here X) B e = e
    stays (In k) B e = stays_at cs k B e

    all_stay : (slots : List SetPlace) (T : SetRows) → HaveSets cs slots T → HaveSets (cs ++ c ∷ []) slots T
    all_stay [] T h = h
    all_stay (s ∷ slots) [] h = absurd (let q : ◌≡◌ {A = List (Option (List Pos))} (set_in cs s ∷ map (set_in cs) slots) [] = h in cc)
    all_stay (s ∷ slots) (r ∷ T) h =
        let p : set_in cs s ∷ map (set_in cs) slots ≡ Some r.0 ∷ map Some (sets T) = h in
        let a = stays s r.0 cc in
        let b = all_stay slots T cc in
        λ i. a i ∷ b i

    -- and that of the new claim is in the slot that is named so
    pub taken : (slots : List SetPlace) (T : SetRows) (i : ℕ) → HaveSets cs slots T → c.set ≡ set_at T i → HaveSets (cs ++ c ∷ []) (set slots i (In (length cs))) T
    taken [] T i h e = h
    taken (s ∷ slots) [] i h e = absurd (let q : ◌≡◌ {A = List (Option (List Pos))} (set_in cs s ∷ map (set_in cs) slots) [] = h in cc)
    taken (s ∷ slots) (r ∷ T) zero h e =
        let p : set_in cs s ∷ map (set_in cs) slots ≡ Some r.0 ∷ map Some (sets T) = h in
        let a : set_in (cs ++ c ∷ []) (In (length cs)) ≡ Some r.0 = last_at cs ∙ ap Some e in
        let b = all_stay slots T cc in
        λ i. a i ∷ b i
    taken (s ∷ slots) (r ∷ T) (suc i) h e =
        let p : set_in cs s ∷ map (set_in cs) slots ≡ Some r.0 ∷ map Some (sets T) = h in
        let a = stays s r.0 cc in
        let q : HaveSets cs slots T = cc in
        let b = taken slots T i q e in
        λ i. a i ∷ b i
