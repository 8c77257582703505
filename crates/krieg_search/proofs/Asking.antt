-- The sets of openings, one after another.
use Rattle.std.proofs.Common.{Bool, ◌≡◌, ℕ, ◌+◌, suc, ◌<◌, true, false, List, ◌∷◌, length, drop, get_or, refl, subst, arith}
use Rattle.krieg_search.proofs.Common.{Pos, Dialect, CoversSet, CoversSets, chess, SetRows, set_at, Opening, IsSearched, TellsSet, TellsSets, AreNumbered, sets_in}
use Rattle.krieg_search.proofs.Checking.{IsChecking, at_item, item_in, next_covers, set_lost, set_won}

-- the next opening is asked for
module _ (d : Dialect) (cut : Bool) {T0 T1 : SetRows} (os : List Opening) (k : ℕ) (x : Opening) {j u0 u1 : ℕ} (l : k < length os) (e : x ≡ get_or os k x) (n : AreNumbered T0 os) (a : IsChecking d cut T0 T1 (sets_in T0 os) (sets_in T0 (drop k os)) j u0 u1) where
  ahead : IsChecking d cut T0 T1 (sets_in T0 os) (set_at T0 x.set ∷ sets_in T0 (drop (suc k) os)) j u0 u1
  ahead = subst (λ (ys : List Opening). IsChecking d cut T0 T1 (sets_in T0 os) (sets_in T0 ys) j u0 u1) (at_item os k x l e) a

  same : set_at T1 x.set ≡ set_at T0 x.set
  same = a.searched.more.same x.set (n x (item_in os k x l e))

  -- its number is one of the table
  pub opening_within : x.set < length T1
  opening_within = let m = n x (item_in os k x l e) in let longer = a.searched.more.longer in omega arith

  pub opening_covers : (R : List (List Pos × ℕ)) → CoversSets (chess d) (sets_in T0 os) j R → CoversSet (chess d) (set_at T1 x.set) j R
  opening_covers = next_covers d cut ahead same refl a.searched

  module _ {T2 : SetRows} {u2 : ℕ} (s : IsSearched d cut (CoversSet (chess d) (set_at T1 x.set) j) 0 T1 T2 u1 u2) where
    pub opening_lost : TellsSet d T2 (set_at T1 x.set) j false → TellsSets d T2 (sets_in T0 os) j false × IsSearched d cut (CoversSets (chess d) (sets_in T0 os) j) 0 T0 T2 u0 u2
    opening_lost w = set_lost d cut ahead same refl a.searched s w

    pub opening_won : TellsSet d T2 (set_at T1 x.set) j true → IsChecking d cut T0 T2 (sets_in T0 os) (sets_in T0 (drop (k + 1) os)) j u0 u2
    opening_won w =
        let one : suc k ≡ k + 1 = omega arith in
        subst (λ (m : ℕ). IsChecking d cut T0 T2 (sets_in T0 os) (sets_in T0 (drop m os)) j u0 u2) one
        (set_won d cut ahead same refl a.searched s w)
