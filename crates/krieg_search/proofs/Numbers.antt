-- The numbers of moves for one set, one after another.
use Rattle.std.proofs.Common.{Bool, ◌≡◌, ℕ, zero, suc, ◌+◌, ◌≤◌, ◌<◌, true, false, ◌⊎◌, List, None, refl, sym, subst, inl, inr, arith, eq-or-lt_of_le}
use Rattle.std.proofs.lemmas.Bool.{both_ways}
use Rattle.krieg_search.proofs.Common.{Pos, Dialect, can, StoredLost, CoversSet, CoversPair, LostBelow, chess, SetRows, entries, IsReady, IsSearched, TellsSet}
use Rattle.krieg_theory.proofs.Unique.{can_upto}
use Rattle.krieg_accounts.proofs.Covering.{covers_pair}
use Rattle.krieg_accounts.proofs.Tables.{result_can}
use Rattle.krieg_game.proofs.ChessLaws.{chess_is_game}
use Rattle.krieg_search.proofs.Searching.{searched_nothing, searched_then}

module _ (d : Dialect) (cut : Bool) where
  -- the set cannot be won within any number up to the one that was tried last
  pub record IsCounting (T0 T : SetRows) (B : List Pos) (j last u0 u : ℕ) : Type 0 where
    pub within : last ≤ j
    pub lost : LostBelow (chess d) (entries T) B (last + 1)
    pub fails : can (chess d) last B ≡ false
    pub searched : IsSearched d cut (CoversSet (chess d) B j) 0 T0 T u0 u

  -- from the number with which the set is known to be lost
  pub first_number : (T : SetRows) (B : List Pos) (j last u : ℕ) → IsReady d cut T → last ≤ j → LostBelow (chess d) (entries T) B (last + 1) → IsCounting T T B j last u u
  first_number T B j last u r l below = record { within = l; lost = below; fails = fails last below; searched = searched_nothing d cut (CoversSet (chess d) B j) T u r }
    where
      fails : (n : ℕ) → LostBelow (chess d) (entries T) B (n + 1) → can (chess d) n B ≡ false
      fails zero h = refl
      fails (suc n) h = result_can (chess d) (chess_is_game d) cut (entries T) r.sound B (suc n) None (h (suc n) (omega arith) (omega arith))

  pub next_covers : (B : List Pos) (j last : ℕ) → last < j → (R : List (List Pos × ℕ)) → CoversSet (chess d) B j R → CoversPair (chess d) B (last + 1) R
  next_covers B j last l = covers_pair (chess d) B (last + 1) j (omega arith) (omega arith)

  module _ {T0 T1 T2 : SetRows} {B : List Pos} {j last u0 u1 u2 : ℕ} (a : IsCounting T0 T1 B j last u0 u1) (l : last < j) (s : IsSearched d cut (CoversPair (chess d) B (last + 1)) 0 T1 T2 u1 u2) where
    after : IsSearched d cut (CoversSet (chess d) B j) 0 T0 T2 u0 u2
    after = searched_then d cut (CoversSet (chess d) B j) (CoversPair (chess d) B (last + 1)) 0 0 0 T0 T1 T2 u0 u1 u2 (next_covers B j last l) a.searched refl s

    pub number_wins : TellsSet d T2 B (last + 1) true → TellsSet d T2 B j true × IsSearched d cut (CoversSet (chess d) B j) 0 T0 T2 u0 u2
    number_wins w = (
      record {
        right = sym (can_upto (chess d) (chess_is_game d) (last + 1) j B (omega arith) (sym w.right));
        stored = record { won = w.stored.won; lost = λ y. absurd (both_ways true y refl) };
      },
      after,
    )

    pub number_fails : TellsSet d T2 B (last + 1) false → IsCounting T0 T2 B j (last + 1) u0 u2
    number_fails w = record {
      within = omega arith;
      lost = λ i p q. go i p (eq-or-lt_of_le (let h : i ≤ last + 1 = omega arith in h));
      fails = sym w.right;
      searched = after;
    }
      where
        go : (i : ℕ) → 0 < i → (i ≡ last + 1) ⊎ (i < last + 1) → StoredLost (chess d) (entries T2) (B, i)
        go i p (inl e) = subst (λ (n : ℕ). StoredLost (chess d) (entries T2) (B, n)) (sym e) (w.stored.lost refl (omega arith))
        go i p (inr h) = s.stretch.kept (B, i) None (a.lost i p h)

  -- no number is left
  pub all_fail : {T0 T : SetRows} {B : List Pos} {j last u0 u : ℕ} → IsCounting T0 T B j last u0 u → j ≤ last → TellsSet d T B j false × IsSearched d cut (CoversSet (chess d) B j) 0 T0 T u0 u
  all_fail {T = T} {B = B} {j = j} {last = last} a h =
      let e : last ≡ j = (let w = a.within in omega arith) in (
        record {
          right = sym (subst (λ (n : ℕ). can (chess d) n B ≡ false) e a.fails);
          stored = record { won = λ y. absurd (both_ways false refl y); lost = λ y p. a.lost j p (omega arith) };
        },
        a.searched,
      )
