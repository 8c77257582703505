-- Some sets, one after another.
use Rattle.std.proofs.Common.{Bool, ◌≡◌, ℕ, zero, suc, ◌+◌, ◌≤◌, ◌<◌, true, false, List, [], ◌∷◌, length, drop, drop-cons, get_or, Some, refl, sym, ap, subst, ◌∙◌, arith}
use Rattle.krieg_search.proofs.Common.{Pos, Dialect, In, known, CoversSet, CoversSets, chess, SetRows, entries, IsReady, IsSearched, TellsSet, TellsSets}
use Rattle.krieg_accounts.proofs.Covering.{covers_set}
use Rattle.krieg_accounts.proofs.SetWalk.{WonTo, one_fails, lost_here, won_more, all_can, all_won}
use Rattle.krieg_accounts.proofs.Stretches.{Kept}
use Rattle.krieg_accounts.proofs.TryOrder.{get_in}
use Rattle.krieg_search.proofs.Searching.{searched_nothing, searched_then}

-- what stands at a place, by what is left from there on
pub at_drop : {X : Type 0} (xs : List X) (k : ℕ) (o y : X) (ys : List X) → drop k xs ≡ y ∷ ys → (k < length xs) × (get_or xs k o ≡ y) × (drop (suc k) xs ≡ ys)
at_drop [] zero o y ys e = absurd (cc)
at_drop [] (suc k) o y ys e = absurd (cc)
at_drop (x ∷ xs) zero o y ys e = (omega arith, (cc), (cc))
at_drop (x ∷ xs) (suc k) o y ys e = let r = at_drop xs k o y ys e in ((let a = r.0 in omega arith), r.1, r.2)

pub drop_none : {X : Type 0} (xs : List X) (k : ℕ) → drop k xs ≡ [] → length xs ≤ k
drop_none [] k e = omega arith
drop_none (x ∷ xs) zero e = absurd (cc)
drop_none (x ∷ xs) (suc k) e = let r = drop_none xs k e in omega arith

-- what stands at a place, of a list whose items are taken by their place
pub at_item : {X : Type 0} (xs : List X) (k : ℕ) (x : X) → k < length xs → x ≡ get_or xs k x → drop k xs ≡ x ∷ drop (suc k) xs
at_item xs k x l e = drop-cons xs k x l ∙ ap (λ y. y ∷ drop (suc k) xs) (sym e)

pub item_in : {X : Type 0} (xs : List X) (k : ℕ) (x : X) → k < length xs → x ≡ get_or xs k x → In x xs
item_in {X = X} xs k x l e = subst (λ (y : X). In y xs) (sym e) (get_in xs k x l)

module _ (d : Dialect) (cut : Bool) where
  -- Of the sets in their order some are ahead, and the k before them are won.
  pub record IsChecking (T0 T : SetRows) (Cs ahead : List (List Pos)) (j u0 u : ℕ) : Type 0 where
    pub k : ℕ
    pub at : drop k Cs ≡ ahead
    pub won : WonTo (chess d) (entries T) Cs j k
    pub searched : IsSearched d cut (CoversSets (chess d) Cs j) 0 T0 T u0 u

  pub none_checked : (T : SetRows) (Cs : List (List Pos)) (j u : ℕ) → IsReady d cut T → IsChecking T T Cs Cs j u u
  none_checked T Cs j u r = record { k = 0; at = refl; won = λ C i. absurd i; searched = searched_nothing d cut (CoversSets (chess d) Cs j) T u r }

  -- none is ahead
  pub all_checked : {T0 T : SetRows} {Cs : List (List Pos)} {j u0 u : ℕ} → IsChecking T0 T Cs [] j u0 u → TellsSets d T Cs j true × IsSearched d cut (CoversSets (chess d) Cs j) 0 T0 T u0 u
  all_checked {T = T} {Cs = Cs} {j = j} a =
      let l = drop_none Cs a.k a.at in (
        record {
          right = sym (all_can (chess d) (entries T) Cs j a.k l a.won);
          stored = all_won (chess d) (entries T) Cs j a.k l a.won;
        },
        a.searched,
      )

  -- the next set is looked at, which may have got its number just now
  module _ {T0 T1 T2 : SetRows} {Cs : List (List Pos)} {C : List Pos} {rest : List (List Pos)} {X : List Pos} {j u0 u1 : ℕ} (a : IsChecking T0 T1 Cs (C ∷ rest) j u0 u1) (same : X ≡ C) (noted : entries T2 ≡ entries T1) (before : IsSearched d cut (CoversSets (chess d) Cs j) 0 T0 T2 u0 u1) where
    place : (a.k < length Cs) × (get_or Cs a.k [] ≡ C) × (drop (suc a.k) Cs ≡ rest)
    place = at_drop Cs a.k [] C rest a.at

    inside : In X Cs
    inside = subst (λ (Y : List Pos). In Y Cs) (place.1 ∙ sym same) (get_in Cs a.k [] place.0)

    pub next_covers : (R : List (List Pos × ℕ)) → CoversSets (chess d) Cs j R → CoversSet (chess d) X j R
    next_covers = covers_set (chess d) Cs X j inside

    module _ {T3 : SetRows} {u3 : ℕ} (s : IsSearched d cut (CoversSet (chess d) X j) 0 T2 T3 u1 u3) where
      after : IsSearched d cut (CoversSets (chess d) Cs j) 0 T0 T3 u0 u3
      after = searched_then d cut (CoversSets (chess d) Cs j) (CoversSet (chess d) X j) 0 0 0 T0 T2 T3 u0 u1 u3 next_covers before refl s

      kept : Kept (chess d) (entries T1) (entries T3)
      kept q x h = s.stretch.kept q x (subst (λ E. known (chess d) E q ≡ Some x) (sym noted) h)

      pub set_lost : TellsSet d T3 X j false → TellsSets d T3 Cs j false × IsSearched d cut (CoversSets (chess d) Cs j) 0 T0 T3 u0 u3
      set_lost w = (
        record {
          right = sym (one_fails (chess d) Cs X j inside (sym w.right));
          stored = lost_here (chess d) (entries T1) (entries T3) Cs X j a.k place.0 (place.1 ∙ sym same) a.won (sym w.right) w.stored;
        },
        after,
      )

      pub set_won : TellsSet d T3 X j true → IsChecking T0 T3 Cs rest j u0 u3
      set_won w = record {
        k = a.k + 1;
        at = ap (λ (n : ℕ). drop n Cs) (let e : a.k + 1 ≡ suc a.k = omega arith in e) ∙ place.2;
        won = won_more (chess d) (entries T1) (entries T3) Cs X j a.k place.0 (place.1 ∙ sym same) a.won kept (sym w.right) (w.stored.won refl);
        searched = after;
      }
