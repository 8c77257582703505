-- The sets of openings, one after another.
use Rattle.std.proofs.Common.{◌≡◌, ℕ, suc, ◌+◌, ◌<◌, true, List, ◌∷◌, inl, length, map, drop, get_or, max, Some, refl, sym, ap, subst, arith}
use Rattle.krieg_board.specs.Pos.{Pos}
use Rattle.krieg_words.specs.declared.dialects.Dialect.{Dialect}
use Rattle.krieg_theory.specs.Sets.{In}
use Rattle.krieg_theory.specs.Can.{least}
use Rattle.krieg_theory.specs.Plans.{greatest}
use Rattle.krieg_theory.proofs.Lists.{in_map}
use Rattle.krieg_accounts.specs.Stored.{stored}
use Rattle.krieg_accounts.proofs.Tables.{wins_least}
use Rattle.krieg_pack.specs.Order.{position_lt}
use Rattle.krieg_game.specs.Keys.{RootKey}
use Rattle.krieg_game.specs.Chess.{chess}
use Rattle.krieg_game.proofs.ChessLaws.{chess_is_game}
use Rattle.krieg_table.specs.SetRows.{SetRows, set_at}
use Rattle.krieg_table.specs.Entries.{entries}
use Rattle.krieg_table.specs.declared.set_result.Win.{Win}
use Rattle.krieg_search.specs.declared.openings.Opening.{Opening}
use Rattle.krieg_search.specs.Stretches.{IsReady}
use Rattle.krieg_search.specs.Openings.{AddsSets, AreNumbered, opening_in}
use Rattle.krieg_search.specs.Decision.{sets_in}
use Rattle.krieg_search.specs.WonSets.{WonBy}
use Rattle.krieg_search.proofs.Checking.{at_item}
use Rattle.krieg_solve.proofs.Building.{still_won, won_at, won_can}

module _ (d : Dialect) (j : ℕ) (T : SetRows) where
  -- the number with which a set is stored as won is its least
  pub stored_least : IsReady d true T → (o : Opening) → WonBy T (set_at T o.set) j → (w : Win) → stored position_lt (entries T) (set_at T o.set, w.moves) ≡ Some (Some w.mv) → least (chess d) j (set_at T o.set) ≡ w.moves
  stored_least ready o won w k = wins_least (chess d) (chess_is_game d) true (entries T) ready.sound j (set_at T o.set) (w.moves, w.mv, k) (won_can d T (set_at T o.set) j ready won)

  pub next_worst : (os : List Opening) (k : ℕ) (o : Opening) (worst next most : ℕ) → k < length os → o ≡ get_or os k o → next ≡ max worst (least (chess d) j (set_at T o.set))
      → max worst (greatest (λ (c : RootKey × List Pos). least (chess d) j c.1) (map (opening_in T) (drop k os))) ≡ most
      → max next (greatest (λ (c : RootKey × List Pos). least (chess d) j c.1) (map (opening_in T) (drop (k + 1) os))) ≡ most
  next_worst os k o worst next most l e n h =
      let f = ap (λ (xs : List Opening). greatest (λ (c : RootKey × List Pos). least (chess d) j c.1) (map (opening_in T) xs)) (at_item os k o l e) in
      let one : suc k ≡ k + 1 = omega arith in
      subst (λ i. max next (greatest (λ (c : RootKey × List Pos). least (chess d) j c.1) (map (opening_in T) (drop i os))) ≡ most) one (omega arith)

-- an opening whose root comes next
module _ (j : ℕ) (T0 T1 : SetRows) (os ahead rest : List Opening) (x : Opening) (e : ahead ≡ x ∷ rest) (inside : (o : Opening) → In o ahead → In o os) (s : AddsSets T0 T1) (n : AreNumbered T0 os) (won : (C : List Pos) → In C (sets_in T0 os) → WonBy T0 C j) where
  here : In x os
  here = inside x (subst (λ (ys : List Opening). In x ys) (sym e) (inl refl))

  pub root_within : x.set < length T1
  root_within = let m = n x here in let longer = s.more.longer in omega arith

  pub root_same : set_at T1 x.set ≡ set_at T0 x.set
  root_same = s.more.same x.set (n x here)

  pub root_won : WonBy T1 (set_at T1 x.set) j
  root_won = won_at T1 (set_at T0 x.set) (set_at T1 x.set) j root_same (still_won T0 T1 (set_at T0 x.set) j s (won (set_at T0 x.set) (in_map (λ o. set_at T0 o.set) os x here)))
