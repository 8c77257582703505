-- Which result of a set may come next, by what is stored of it.
use Rattle.std.proofs.Common.{◌≡◌, ℕ, zero, suc, ◌<◌, ◌≤◌, true, false, ◌⊎◌, inl, inr, Option, Some, None, option_map, refl, sym, ap, ap₂, subst, ◌∙◌, arith}
use Rattle.std.specs.Prelude.{nat_le, IfSome, length}
use Rattle.std.proofs.lemmas.Bool.{cases_Bool, cases_lt, cond-true, cond-false, eq-eqb, eqb-true, leb-true, leb-false, le-leb, lt-leb}
use Rattle.krieg_table.proofs.Common.{Move, position_lt, stored, SetResult, Wins, Loses, Win, Results, known_for, won_for, AreResults, Follows, SetRows, row_at, set_at, known_at, try_of, entries, IsTable, IsNext}
use Rattle.krieg_table.proofs.Noting.{row_in, known_is}

-- a win is known with its number
won_known : (rs : Results) (w : Win) → AreResults rs → rs.won ≡ Some w → known_for rs w.moves ≡ Some (Wins w.mv)
won_known rs w a e = go w.moves refl
  where
    more : rs.lost < w.moves
    more = subst (λ (o : Option Win). IfSome o (λ v. rs.lost < v.moves)) e a

    go : (n : ℕ) → n ≡ w.moves → known_for rs n ≡ Some (Wins w.mv)
    go zero h = absurd (omega (arith, more))
    go (suc i) h =
        cond-false (nat_le (suc i) rs.lost) (Some Loses) (won_for rs.won (suc i)) (lt-leb (suc i) rs.lost (omega (arith, more))) ∙ ap (λ o. won_for o (suc i)) e
        ∙ cond-true (Rattle.std.specs.Prelude.nat_eq w.moves (suc i)) (Some (Wins w.mv)) None (eq-eqb w.moves (suc i) (sym h))

-- and stored so
pub win_is : (T : SetRows) (id : ℕ) (w : Win) → IsTable T → id < length T → (row_at T id).1.won ≡ Some w → stored position_lt (entries T) (set_at T id, w.moves) ≡ Some (Some w.mv)
win_is T id w t l e = sym (known_is T id w.moves t l) ∙ ap (option_map try_of) (won_known (row_at T id).1 w (t.results (row_at T id) (row_in T id l)) e)

wins_only : (o : Option SetResult) (m : Move) → option_map try_of o ≡ Some (Some m) → o ≡ Some (Wins m)
wins_only None m e = absurd (let q : ◌≡◌ {A = Option (Option Move)} None (Some (Some m)) = e in cc)
wins_only (Some Loses) m e = absurd (let q : ◌≡◌ {A = Option (Option Move)} (Some None) (Some (Some m)) = e in cc)
wins_only (Some (Wins t)) m e = let q : ◌≡◌ {A = Option (Option Move)} (Some (Some t)) (Some (Some m)) = e in cc

abbrev the_win : ℕ → Move → Win
the_win n m = record { moves = n; mv = m }

-- what is known to be won is the one win
won_only : (rs : Results) (n : ℕ) (m : Move) → known_for rs n ≡ Some (Wins m) → rs.won ≡ Some (record { moves = n; mv = m })
won_only rs zero m e = absurd (let q : ◌≡◌ {A = Option SetResult} None (Some (Wins m)) = e in cc)
won_only rs (suc i) m e = go (cases_Bool (nat_le (suc i) rs.lost))
  where
    here : (o : Option Win) → won_for o (suc i) ≡ Some (Wins m) → o ≡ Some (record { moves = suc i; mv = m })
    here None h = absurd (let q : ◌≡◌ {A = Option SetResult} None (Some (Wins m)) = h in cc)
    here (Some w) h = at (cases_Bool (Rattle.std.specs.Prelude.nat_eq w.moves (suc i)))
      where
        at : (Rattle.std.specs.Prelude.nat_eq w.moves (suc i) ≡ true) ⊎ (Rattle.std.specs.Prelude.nat_eq w.moves (suc i) ≡ false) → Some w ≡ Some (record { moves = suc i; mv = m })
        at (inl a) =
            let n = eqb-true w.moves (suc i) a in
            let q : Some (Wins w.mv) ≡ Some (Wins m) = sym (cond-true _ (Some (Wins w.mv)) None a) ∙ h in
            let t : w.mv ≡ m = cc in
            ap Some (ap₂ the_win n t)
        at (inr a) = absurd (let q : ◌≡◌ {A = Option SetResult} None (Some (Wins m)) = sym (cond-false _ (Some (Wins w.mv)) None a) ∙ h in cc)

    go : (nat_le (suc i) rs.lost ≡ true) ⊎ (nat_le (suc i) rs.lost ≡ false) → rs.won ≡ Some (record { moves = suc i; mv = m })
    go (inl a) = absurd (let q : ◌≡◌ {A = Option SetResult} (Some Loses) (Some (Wins m)) = sym (cond-true (nat_le (suc i) rs.lost) (Some Loses) (won_for rs.won (suc i)) a) ∙ e in cc)
    go (inr a) = here rs.won (sym (cond-false (nat_le (suc i) rs.lost) (Some Loses) (won_for rs.won (suc i)) a) ∙ e)

pub win_only : (T : SetRows) (id : ℕ) (i : ℕ) (m : Move) → IsTable T → id < length T → stored position_lt (entries T) (set_at T id, i) ≡ Some (Some m) → (row_at T id).1.won ≡ Some (record { moves = i; mv = m })
win_only T id i m t l e = won_only (row_at T id).1 i m (wins_only (known_at T id i) m (known_is T id i t l ∙ e))

loses_only : (o : Option SetResult) → option_map try_of o ≡ Some None → o ≡ Some Loses
loses_only None e = absurd (let q : ◌≡◌ {A = Option (Option Move)} None (Some None) = e in cc)
loses_only (Some Loses) e = refl
loses_only (Some (Wins t)) e = absurd (let q : ◌≡◌ {A = Option (Option Move)} (Some (Some t)) (Some None) = e in cc)

none_only : (o : Option SetResult) → option_map try_of o ≡ None → o ≡ None
none_only None e = refl
none_only (Some k) e = absurd (let q : ◌≡◌ {A = Option (Option Move)} (Some (try_of k)) None = e in cc)

-- a loss is known with the numbers up to the greatest alone
loses_below : (rs : Results) (n : ℕ) → known_for rs n ≡ Some Loses → n ≤ rs.lost
loses_below rs zero e = omega arith
loses_below rs (suc i) e = go (cases_Bool (nat_le (suc i) rs.lost))
  where
    not_won : (o : Option Win) → won_for o (suc i) ≡ Some Loses → ⊥
    not_won None h = let q : ◌≡◌ {A = Option SetResult} None (Some Loses) = h in cc
    not_won (Some w) h = here (cases_Bool (Rattle.std.specs.Prelude.nat_eq w.moves (suc i)))
      where
        here : (Rattle.std.specs.Prelude.nat_eq w.moves (suc i) ≡ true) ⊎ (Rattle.std.specs.Prelude.nat_eq w.moves (suc i) ≡ false) → ⊥
        here (inl a) = let q : ◌≡◌ {A = Option SetResult} (Some (Wins w.mv)) (Some Loses) = sym (cond-true _ (Some (Wins w.mv)) None a) ∙ h in cc
        here (inr a) = let q : ◌≡◌ {A = Option SetResult} None (Some Loses) = sym (cond-false _ (Some (Wins w.mv)) None a) ∙ h in cc

    go : (nat_le (suc i) rs.lost ≡ true) ⊎ (nat_le (suc i) rs.lost ≡ false) → suc i ≤ rs.lost
    go (inl a) = leb-true (suc i) rs.lost a
    go (inr a) = absurd (not_won rs.won (sym (cond-false (nat_le (suc i) rs.lost) (Some Loses) (won_for rs.won (suc i)) a) ∙ e))

loses_upto : (rs : Results) (n : ℕ) → 0 < n → n ≤ rs.lost → known_for rs n ≡ Some Loses
loses_upto rs zero p l = absurd (omega arith)
loses_upto rs (suc i) p l = cond-true (nat_le (suc i) rs.lost) (Some Loses) (won_for rs.won (suc i)) (le-leb (suc i) rs.lost l)

module _ (T : SetRows) (id i : ℕ) (t : IsTable T) (l : id < length T) where
  pub lost_upto : 0 < i → i ≤ (row_at T id).1.lost → stored position_lt (entries T) (set_at T id, i) ≡ Some None
  lost_upto p h = sym (known_is T id i t l) ∙ ap (option_map try_of) (loses_upto (row_at T id).1 i p h)

  pub lost_only : stored position_lt (entries T) (set_at T id, i) ≡ Some None → i ≤ (row_at T id).1.lost
  lost_only e = loses_below (row_at T id).1 i (loses_only (known_at T id i) (known_is T id i t l ∙ e))

unknown_above : (rs : Results) (n : ℕ) → 0 < n → known_for rs n ≡ None → (rs.lost < n) × (won_for rs.won n ≡ None)
unknown_above rs zero p e = absurd (omega arith)
unknown_above rs (suc i) p e = go (cases_Bool (nat_le (suc i) rs.lost))
  where
    go : (nat_le (suc i) rs.lost ≡ true) ⊎ (nat_le (suc i) rs.lost ≡ false) → (rs.lost < suc i) × (won_for rs.won (suc i) ≡ None)
    go (inl a) = absurd (let q : ◌≡◌ {A = Option SetResult} (Some Loses) None = sym (cond-true (nat_le (suc i) rs.lost) (Some Loses) (won_for rs.won (suc i)) a) ∙ e in cc)
    go (inr a) = (leb-false (suc i) rs.lost a, sym (cond-false (nat_le (suc i) rs.lost) (Some Loses) (won_for rs.won (suc i)) a) ∙ e)

-- a result may come next
module _ (T : SetRows) (id n : ℕ) (t : IsTable T) (l : id < length T) (x : IsNext T id n) where
  here : (i : ℕ) (o : Option (Option Move)) → stored position_lt (entries T) (set_at T id, i) ≡ o → option_map try_of (known_at T id i) ≡ o
  here i o e = known_is T id i t l ∙ e

  fewer : ((row_at T id).1.lost < n) × (won_for (row_at T id).1.won n ≡ None)
  fewer = unknown_above (row_at T id).1 n x.some (none_only (known_at T id n) (here n None x.unknown))

  reaches : (m : ℕ) → m < n → m ≤ (row_at T id).1.lost
  reaches zero h = omega arith
  reaches (suc i) h = loses_below (row_at T id).1 (suc i) (loses_only (known_at T id (suc i)) (here (suc i) (Some None) (x.below (suc i) (omega arith) h)))

  loss_next : Follows (row_at T id).1 n Loses
  loss_next = go n refl
    where
      go : (m : ℕ) → m ≡ n → Follows (row_at T id).1 n Loses
      go zero e = let p = x.some in absurd (omega arith)
      go (suc i) e = (let a = reaches i (omega arith) in omega (arith, fewer.0), fewer.1)

  win_next : (mv : Move) → Follows (row_at T id).1 n (Wins mv)
  win_next mv = (fewer.0, no_win (row_at T id).1.won refl)
    where
      apart : (i : ℕ) (m : Move) → stored position_lt (entries T) (set_at T id, i) ≡ Some (Some m) → 0 < i → (i < n) ⊎ (n ≤ i) → ⊥
      apart i m e q (inl a) = let c : ◌≡◌ {A = Option (Option Move)} (Some None) (Some (Some m)) = sym (x.below i q a) ∙ e in cc
      apart i m e q (inr a) = more (cases_lt n i)
        where
          more : (n < i) ⊎ (i ≤ n) → ⊥
          more (inl b) = x.above i m b e
          more (inr b) =
              let s : i ≡ n = omega arith in
              let c : ◌≡◌ {A = Option (Option Move)} None (Some (Some m)) = sym x.unknown ∙ subst (λ (k : ℕ). stored position_lt (entries T) (set_at T id, k) ≡ Some (Some m)) s e in
              cc

      no_win : (o : Option Win) → (row_at T id).1.won ≡ o → (row_at T id).1.won ≡ None
      no_win None e = e
      no_win (Some w) e =
          let r = subst (λ (x : Option Win). IfSome x (λ v. (row_at T id).1.lost < v.moves)) e (t.results (row_at T id) (row_in T id l)) in
          absurd (apart w.moves w.mv (win_is T id w t l e) (omega arith) (cases_lt w.moves n))

  -- so it follows in its row
  pub follows : (k : SetResult) → Follows (row_at T id).1 n k
  follows Loses = loss_next
  follows (Wins mv) = win_next mv
