-- Which result may be noted next, and what makes a set lost at once.
use Rattle.std.proofs.Common.{Bool, ◌≡◌, ℕ, ◌<◌, true, false, not, ◌⊎◌, inl, inr, length, List, Option, Some, None, refl, sym, subst, ◌∙◌}
use Rattle.std.specs.List.{list_any}
use Rattle.std.proofs.lemmas.Bool.{both_ways, cases_Bool, not-true}
use Rattle.krieg_search.proofs.Common.{Pos, Move, Dialect, In, can, mates_within, position_lt, stored, LostBelow, CoversPair, CoversTries, chess, SetRows, set_at, entries, Loses, IsNext, IsNoted, IsReady, IsSearched, TellsSet, HasLostPart}
use Rattle.krieg_theory.proofs.Lists.{any_at}
use Rattle.krieg_theory.proofs.Seen.{can_is_seen}
use Rattle.krieg_accounts.proofs.Tables.{part_can, result_can}
use Rattle.krieg_accounts.proofs.Stretches.{still_unknown, lost_is_stretch}
use Rattle.krieg_game.proofs.ChessLaws.{chess_is_game}
use Rattle.krieg_sight.proofs.Theorems.{sees_is}
use Rattle.krieg_search.proofs.Noting.{noted_more, noted_counted, stored_tells}

module _ (d : Dialect) (cut : Bool) where
  -- a stored win has a loss with each smaller number, so there is none with a greater one
  none_above : (T : SetRows) (B : List Pos) (n i : ℕ) (m : Move) → IsReady d cut T → 0 < n → stored position_lt (entries T) (B, n) ≡ None → n < i → stored position_lt (entries T) (B, i) ≡ Some (Some m) → ⊥
  none_above T B n i m r p none l h =
      let lost : stored position_lt (entries T) (B, n) ≡ Some None = (r.sound.backed B i (Some m) h).below n p l in
      let c : ◌≡◌ {A = Option (Option Move)} None (Some None) = sym none ∙ lost in
      cc

  pub next_is : (T : SetRows) (set n : ℕ) → IsReady d cut T → 0 < n → LostBelow (chess d) (entries T) (set_at T set) n → stored position_lt (entries T) (set_at T set, n) ≡ None → IsNext T set n
  next_is T set n r p below none = record {
    some = p;
    below = below;
    unknown = none;
    above = λ i m l h. none_above T (set_at T set) n i m r p none l h;
  }

  -- behind a stretch over the tries of the set
  pub still_next : (T0 T1 : SetRows) (set n cost u0 u1 : ℕ) → set < length T0 → IsNext T0 set n → IsSearched d cut (CoversTries (chess d) (set_at T0 set) n) cost T0 T1 u0 u1 → IsNext T1 set n
  still_next T0 T1 set n cost u0 u1 w x s =
      let B = set_at T0 set in
      let same : set_at T1 set ≡ B = s.more.same set w in
      let none : stored position_lt (entries T1) (B, n) ≡ None = still_unknown (chess d) (chess_is_game d) cut (entries T0) (entries T1) B n cost u0 u1 x.some s.stretch x.unknown in
      let below : LostBelow (chess d) (entries T1) B n = λ i a b. s.stretch.kept (B, i) None (x.below i a b) in
      next_is T1 set n (record { counted = s.counted; sound = s.stretch.sound }) x.some (subst (λ (X : List Pos). LostBelow (chess d) (entries T1) X n) (sym same) below) (subst (λ (X : List Pos). stored position_lt (entries T1) (X, n) ≡ None) (sym same) none)

  -- a set of which a part is lost is lost
  pub lost_by_part : (T : SetRows) (B : List Pos) (n : ℕ) → IsReady d cut T → HasLostPart T B n → can (chess d) n B ≡ false
  lost_by_part T B n r h = go (cases_Bool (can (chess d) n B))
    where
      go : (can (chess d) n B ≡ true) ⊎ (can (chess d) n B ≡ false) → can (chess d) n B ≡ false
      go (inr e) = e
      go (inl e) = absurd (both_ways _ (result_can (chess d) (chess_is_game d) cut (entries T) r.sound h.0 n None h.3) (part_can (chess d) (chess_is_game d) h.0 B n h.1 h.2 e))

-- so is one of which some member is no mate in time even for a player who sees it
pub lost_by_sight : (d : Dialect) (B : List Pos) (n : ℕ) → list_any (λ p. not (mates_within n p)) B ≡ true → can (chess d) n B ≡ false
lost_by_sight d B n h = go (cases_Bool (can (chess d) n B)) (any_at (λ p. not (mates_within n p)) B h)
  where
    go : (can (chess d) n B ≡ true) ⊎ (can (chess d) n B ≡ false) → (p : Pos) × In p B × (not (mates_within n p) ≡ true) → can (chess d) n B ≡ false
    go (inr e) m = e
    go (inl e) m = absurd (both_ways _ (not-true _ m.2) (sym (sees_is d n m.0) ∙ can_is_seen (chess d) (chess_is_game d) B n m.0 e m.1))

-- where tries may be cut, a set that is known to be lost is noted for nothing
pub noted_at_once : (d : Dialect) (cut : Bool) → not cut ≡ false → (T0 T1 : SetRows) (set n u0 u1 : ℕ) → u1 ≡ u0 → set < length T0 → IsReady d cut T0 → IsNext T0 set n → can (chess d) n (set_at T0 set) ≡ false → IsNoted T0 T1 set n Loses
    → TellsSet d T1 (set_at T0 set) n false × IsSearched d cut (CoversPair (chess d) (set_at T0 set) n) 0 T0 T1 u0 u1
noted_at_once d false c T0 T1 set n u0 u1 same w r x h m = absurd (both_ways _ c refl)
noted_at_once d true c T0 T1 set n u0 u1 same w r x h m =
    let B = set_at T0 set in
    let stretch = lost_is_stretch (chess d) (chess_is_game d) (entries T0) (entries T1) B n u0 r.sound h x.some x.below x.unknown m.added in
    let counted = noted_counted m r.counted in (
      stored_tells d true T1 B n None (record { counted = counted; sound = stretch.sound }) m.here,
      subst (λ (u : ℕ). IsSearched d true (CoversPair (chess d) B n) 0 T0 T1 u0 u) (sym same) (record { counted = counted; more = noted_more m; stretch = stretch }),
    )
