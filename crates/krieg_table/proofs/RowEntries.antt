-- The results of one set: what is stored for each number of moves, and what changes where one is put in.
use Rattle.std.proofs.Common.{◌≡◌, ℕ, zero, suc, ◌+◌, ◌<◌, ◌≤◌, Bool, true, false, cond, ◌⊎◌, inl, inr, List, [], ◌∷◌, ◌++◌, Option, Some, None, option_map, refl, sym, ap, subst, ◌∙◌, arith}
use Rattle.std.specs.Prelude.{nat_le, ◌==◌, IfSome}
use Rattle.std.proofs.lemmas.Bool.{cases_Bool, cases_lt, cond-true, cond-false, false_from_ne_true, eqb-true, eqb-false, eq-eqb, leb-true, leb-false, le-leb, lt-leb}
use Rattle.krieg_table.proofs.Common.{Pos, Move, position_lt, total, PairOf, Entries, same_entry, stored, pairs, SetResult, Wins, Loses, Win, Results, known_for, won_for, with_known, AreResults, Follows, try_of, lost_entries, won_entries, row_entries}
use Rattle.krieg_pack.proofs.PositionSets.{position_order}
use Rattle.krieg_accounts.proofs.Appended.{entry_is, entry_refl}

-- what is stored in one list, or else in another
abbrev pub or_else : {X : Type 0} → Option X → Option X → Option X
or_else None o = o
or_else (Some x) o = Some x

pub stored_append : (xs ys : Entries Pos Move) (q : PairOf Pos) → stored position_lt (xs ++ ys) q ≡ or_else (stored position_lt xs q) (stored position_lt ys q)
stored_append [] ys q = refl
stored_append (e ∷ xs) ys q = go (same_entry position_lt e.0 q) (stored_append xs ys q)
  where
    go : (b : Bool) → stored position_lt (xs ++ ys) q ≡ or_else (stored position_lt xs q) (stored position_lt ys q) → cond b (Some e.1) (stored position_lt (xs ++ ys) q) ≡ or_else (cond b (Some e.1) (stored position_lt xs q)) (stored position_lt ys q)
    go true h = refl
    go false h = h

-- an entry of another pair does not tell
pub other_entry : (p q : PairOf Pos) (o : Option Move) (es : Entries Pos Move) → (p ≡ q → ⊥) → stored position_lt ((p, o) ∷ es) q ≡ stored position_lt es q
other_entry p q o es n = cond-false (same_entry position_lt p q) (Some o) (stored position_lt es q) (false_from_ne_true _ (λ h. n (entry_is position_lt position_order p q h)))

pub this_entry : (p : PairOf Pos) (o : Option Move) (es : Entries Pos Move) → stored position_lt ((p, o) ∷ es) p ≡ Some o
this_entry p o es = cond-true (same_entry position_lt p p) (Some o) (stored position_lt es p) (entry_refl position_lt position_order p)

module _ (B : List Pos) where
  -- of other pairs nothing is said
  no_loss : (n : ℕ) (q : PairOf Pos) → ((B ≡ q.0) → (q.1 ≡ 0) ⊎ (n < q.1)) → stored position_lt (lost_entries B n) q ≡ None
  no_loss zero q h = refl
  no_loss (suc n) q h = other_entry (B, suc n) q None (lost_entries B n) (λ e. not (ap (λ (p : PairOf Pos). p.1) e) (h (ap (λ (p : PairOf Pos). p.0) e))) ∙ no_loss n q (λ e. less (h e))
    where
      not : suc n ≡ q.1 → (q.1 ≡ 0) ⊎ (suc n < q.1) → ⊥
      not e (inl z) = absurd (omega arith)
      not e (inr l) = absurd (omega arith)

      less : (q.1 ≡ 0) ⊎ (suc n < q.1) → (q.1 ≡ 0) ⊎ (n < q.1)
      less (inl z) = inl z
      less (inr l) = inr (omega arith)

  no_win : (won : Option Win) (q : PairOf Pos) → IfSome won (λ w. (B, w.moves) ≡ q → ⊥) → stored position_lt (won_entries B won) q ≡ None
  no_win None q h = refl
  no_win (Some w) q h = other_entry (B, w.moves) q (Some w.mv) [] h

  -- a loss with each number up to the greatest
  loss_there : (n m : ℕ) → 0 < m → m ≤ n → stored position_lt (lost_entries B n) (B, m) ≡ Some None
  loss_there zero m a b = absurd (omega arith)
  loss_there (suc n) m a b = go (cases_lt m (suc n)) (λ l. loss_there n m a l)
    where
      go : (m < suc n) ⊎ (suc n ≤ m) → (m ≤ n → stored position_lt (lost_entries B n) (B, m) ≡ Some None) → stored position_lt (lost_entries B (suc n)) (B, m) ≡ Some None
      go (inr l) ih = let e : suc n ≡ m = omega arith in subst (λ (k : ℕ). stored position_lt (lost_entries B (suc n)) (B, k) ≡ Some None) e (this_entry (B, suc n) None (lost_entries B n))
      go (inl l) ih = other_entry (B, suc n) (B, m) None (lost_entries B n) (λ p. (let d = ap (λ (x : PairOf Pos). x.1) p in omega arith)) ∙ ih (omega arith)

  -- a win with its own
  win_there : (won : Option Win) (m : ℕ) → stored position_lt (won_entries B won) (B, m) ≡ option_map try_of (won_for won m)
  win_there None m = refl
  win_there (Some w) m = go (cases_Bool (w.moves == m))
    where
      go : (w.moves == m ≡ true) ⊎ (w.moves == m ≡ false) → stored position_lt (won_entries B (Some w)) (B, m) ≡ option_map try_of (won_for (Some w) m)
      go (inl e) =
          let s = eqb-true w.moves m e in
          subst (λ (k : ℕ). stored position_lt (won_entries B (Some w)) (B, k) ≡ Some (Some w.mv)) s (this_entry (B, w.moves) (Some w.mv) [])
          ∙ sym (ap (option_map try_of) (cond-true (w.moves == m) (Some (Wins w.mv)) None e))
      go (inr e) = other_entry (B, w.moves) (B, m) (Some w.mv) [] (λ p. eqb-false w.moves m e (ap (λ (x : PairOf Pos). x.1) p)) ∙ sym (ap (option_map try_of) (cond-false (w.moves == m) (Some (Wins w.mv)) None e))

  -- the results of one set say nothing of another one
  pub other_set : (rs : Results) (q : PairOf Pos) → (B ≡ q.0 → ⊥) → stored position_lt (row_entries B rs) q ≡ None
  other_set rs q h =
      stored_append (won_entries B rs.won) (lost_entries B rs.lost) q
      ∙ ap (λ o. or_else o (stored position_lt (lost_entries B rs.lost) q)) (no_win rs.won q (none rs.won))
      ∙ no_loss rs.lost q (λ e. absurd (h e))
    where
      none : (won : Option Win) → IfSome won (λ w. (B, w.moves) ≡ q → ⊥)
      none None = tt
      none (Some w) = λ e. h (ap (λ (p : PairOf Pos). p.0) e)

  -- what is stored for a number is what is known for it
  pub at_number : (rs : Results) (m : ℕ) → AreResults rs → stored position_lt (row_entries B rs) (B, m) ≡ option_map try_of (known_for rs m)
  at_number rs m a = stored_append (won_entries B rs.won) (lost_entries B rs.lost) (B, m) ∙ go m
    where
      here : ℕ → PairOf Pos
      here m = (B, m)

      either : ℕ → Option (Option Move)
      either m = or_else (stored position_lt (won_entries B rs.won) (B, m)) (stored position_lt (lost_entries B rs.lost) (B, m))

      above : (won : Option Win) (m : ℕ) → m ≤ rs.lost → IfSome won (λ w. rs.lost < w.moves) → IfSome won (λ w. here w.moves ≡ here m → ⊥)
      above None m l h = tt
      above (Some w) m l h = λ e. (let d = ap (λ (x : PairOf Pos). x.1) e in omega arith)

      none_else : (o : Option (Option Move)) → or_else o None ≡ o
      none_else None = refl
      none_else (Some x) = refl

      step : (i : ℕ) → (nat_le (suc i) rs.lost ≡ true) ⊎ (nat_le (suc i) rs.lost ≡ false) → either (suc i) ≡ option_map try_of (known_for rs (suc i))
      step i (inl e) =
          ap (λ o. or_else o (stored position_lt (lost_entries B rs.lost) (B, suc i))) (no_win rs.won (B, suc i) (above rs.won (suc i) (leb-true (suc i) rs.lost e) a))
          ∙ loss_there rs.lost (suc i) (omega arith) (leb-true (suc i) rs.lost e) ∙ sym (ap (option_map try_of) (cond-true (nat_le (suc i) rs.lost) (Some Loses) (won_for rs.won (suc i)) e))
      step i (inr e) =
          ap (λ o. or_else (stored position_lt (won_entries B rs.won) (B, suc i)) o) (no_loss rs.lost (B, suc i) (λ _. inr (let d = leb-false (suc i) rs.lost e in omega arith)))
          ∙ none_else (stored position_lt (won_entries B rs.won) (B, suc i)) ∙ win_there rs.won (suc i)
          ∙ sym (ap (option_map try_of) (cond-false (nat_le (suc i) rs.lost) (Some Loses) (won_for rs.won (suc i)) e))

      go : (m : ℕ) → either m ≡ option_map try_of (known_for rs m)
      go zero =
          ap (λ o. or_else o (stored position_lt (lost_entries B rs.lost) (B, 0))) (no_win rs.won (B, 0) (above rs.won 0 (omega arith) a))
          ∙ no_loss rs.lost (B, 0) (λ _. inl refl)
      go (suc i) = step i (cases_Bool (nat_le (suc i) rs.lost))

  -- where one is put in, the others stay
  pub others_stay : (rs : Results) (n : ℕ) (k : SetResult) (q : PairOf Pos) → Follows rs n k → (((B, n) ≡ q) → ⊥) → stored position_lt (row_entries B (with_known rs n k)) q ≡ stored position_lt (row_entries B rs) q
  others_stay rs n Loses q x h =
      stored_append (won_entries B rs.won) (lost_entries B n) q
      ∙ ap (λ o. or_else (stored position_lt (won_entries B rs.won) q) o)
      (subst (λ (m : ℕ). stored position_lt (lost_entries B m) q ≡ stored position_lt (lost_entries B rs.lost) q) (sym x.0) (other_entry (B, suc rs.lost) q None (lost_entries B rs.lost) (λ e. h (ap (λ (m : ℕ). (B, m)) x.0 ∙ e))))
      ∙ sym (stored_append (won_entries B rs.won) (lost_entries B rs.lost) q)
  others_stay rs n (Wins t) q x h =
      other_entry (B, n) q (Some t) (lost_entries B rs.lost) h ∙ sym (ap (λ (o : Option Win). stored position_lt (won_entries B o ++ lost_entries B rs.lost) q) x.1)

  -- and a sum over the pairs grows by the new one
  pub row_total : (f : PairOf Pos → ℕ) (rs : Results) (n : ℕ) (k : SetResult) → Follows rs n k → total f (pairs (row_entries B (with_known rs n k))) ≡ f (B, n) + total f (pairs (row_entries B rs))
  row_total f rs n Loses x = subst (λ (m : ℕ). total f (pairs (won_entries B rs.won ++ lost_entries B m)) ≡ f (B, m) + total f (pairs (row_entries B rs))) (sym x.0) (behind rs.won)
    where
      behind : (won : Option Win) → total f (pairs (won_entries B won ++ lost_entries B (suc rs.lost))) ≡ f (B, suc rs.lost) + total f (pairs (won_entries B won ++ lost_entries B rs.lost))
      behind None = refl
      behind (Some w) = omega arith
  row_total f rs n (Wins t) x = ap (λ (o : Option Win). f (B, n) + total f (pairs (won_entries B o ++ lost_entries B rs.lost))) (sym x.1)

-- what a result that may come next leaves of the order of losses and wins
pub results_put : (rs : Results) (n : ℕ) (k : SetResult) → Follows rs n k → AreResults rs → AreResults (with_known rs n k)
results_put rs n (Wins t) x a = x.0
results_put rs n Loses x a = go rs.won a x.1
  where
    go : (won : Option Win) → IfSome won (λ w. rs.lost < w.moves) → won_for won n ≡ None → IfSome won (λ w. n < w.moves)
    go None h e = tt
    go (Some w) h e = apart (cases_Bool (w.moves == n))
      where
        apart : (w.moves == n ≡ true) ⊎ (w.moves == n ≡ false) → n < w.moves
        apart (inl s) = absurd (let q : ◌≡◌ {A = Option SetResult} (Some (Wins w.mv)) None = sym (cond-true (w.moves == n) (Some (Wins w.mv)) None s) ∙ e in cc)
        apart (inr s) = let m = x.0 in let d = eqb-false w.moves n s in omega arith

-- it was not known before
pub next_unknown : (rs : Results) (n : ℕ) (k : SetResult) → Follows rs n k → known_for rs n ≡ None
next_unknown rs zero k x = refl
next_unknown rs (suc i) Loses x = cond-false (nat_le (suc i) rs.lost) (Some Loses) (won_for rs.won (suc i)) (lt-leb (suc i) rs.lost (let m = x.0 in omega arith)) ∙ x.1
next_unknown rs (suc i) (Wins t) x =
    cond-false (nat_le (suc i) rs.lost) (Some Loses) (won_for rs.won (suc i)) (lt-leb (suc i) rs.lost x.0) ∙ ap (λ (o : Option Win). won_for o (suc i)) x.1

-- and is known then
pub put_there : (rs : Results) (n : ℕ) (k : SetResult) → 0 < n → Follows rs n k → known_for (with_known rs n k) n ≡ Some k
put_there rs zero k p x = absurd (omega arith)
put_there rs (suc i) Loses p x = cond-true (nat_le (suc i) (suc i)) (Some Loses) (won_for rs.won (suc i)) (le-leb (suc i) (suc i) (omega arith))
put_there rs (suc i) (Wins t) p x =
    cond-false (nat_le (suc i) rs.lost) (Some Loses) (won_for (Some (record { moves = suc i; mv = t })) (suc i)) (lt-leb (suc i) rs.lost x.0) ∙ cond-true (suc i == suc i) (Some (Wins t)) None (eq-eqb (suc i) (suc i) refl)
