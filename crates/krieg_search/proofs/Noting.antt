-- What is known of a set once its result is stored.
use Rattle.std.proofs.Common.{Bool, ◌≡◌, ℕ, zero, suc, ◌+◌, ◌<◌, ◌≤◌, ◌^◌, true, false, List, [], ◌∷◌, length, slice_index_or, Option, Some, None, Result, Ok, Err, is_some, refl, sym, ap, subst, ◌∙◌, arith}
use Rattle.std.specs.Prelude.{IfSome, option_map}
use Rattle.std.specs.Result.{IsErr}
use Rattle.std.proofs.lemmas.Bool.{both_ways}
use Rattle.krieg_search.proofs.Common.{Pos, Move, Dialect, first_try, made, price, floor_price, position_lt, stored, AddsResult, known, IsBacked, CoversPair, CoversTries, chess, SetResult, SetRows, sets, set_at, try_of, entries, IsMore, IsNoted, SearchStop, Large, AreCounted, IsReady, IsSearched, Stretches, TellsSet}
use Rattle.krieg_accounts.proofs.Tables.{result_can}
use Rattle.krieg_accounts.proofs.Stretches.{stretch_noted, short_noted}
use Rattle.krieg_game.proofs.ChessLaws.{chess_is_game}
use Rattle.krieg_search.specs.declared.stop.SearchStop.TheVariants.{Spent, NoMemory}
use Rattle.krieg_search.proofs.Searching.{more_then, searched_nothing}

-- the sets of a table by their places
set_there : (T : SetRows) (m : ℕ) → set_at T m ≡ slice_index_or (sets T) m []
set_there [] m = refl
set_there (r ∷ T) zero = refl
set_there (r ∷ T) (suc m) = set_there T m

length_sets : (T : SetRows) → length (sets T) ≡ length T
length_sets [] = refl
length_sets (r ∷ T) = ap suc (length_sets T)

-- no set changes where a result is noted
module _ {T1 T2 : SetRows} {set j : ℕ} {k : SetResult} (n : IsNoted T1 T2 set j k) where
  same_set : (m : ℕ) → set_at T2 m ≡ set_at T1 m
  same_set m = set_there T2 m ∙ ap (λ (xs : List (List Pos)). slice_index_or xs m []) n.same_sets ∙ sym (set_there T1 m)

  pub noted_more : IsMore T1 T2
  noted_more = record {
    longer = (let a = length_sets T1 in let b = length_sets T2 in let q = ap (λ (xs : List (List Pos)). length xs) n.same_sets in omega arith);
    same = λ m h. same_set m;
  }

  pub noted_counted : AreCounted T1 → AreCounted T2
  noted_counted c m = subst (λ (X : List Pos). length X < 2 ^ 64) (sym (same_set m)) (c m)

module _ (d : Dialect) (cut : Bool) where
  -- the result that is stored for a pair answers
  pub stored_tells : (T : SetRows) (B : List Pos) (j : ℕ) (o : Option Move) → IsReady d cut T → known (chess d) (entries T) (B, j) ≡ Some o → TellsSet d T B j (is_some o)
  stored_tells T B j (Some t) r h = record {
    right = sym (result_can (chess d) (chess_is_game d) cut (entries T) r.sound B j (Some t) h);
    stored = record { won = λ y. (j, t, h); lost = λ y. absurd (both_ways true y refl) };
  }
  stored_tells T B j None r h = record {
    right = sym (result_can (chess d) (chess_is_game d) cut (entries T) r.sound B j None h);
    stored = record { won = λ y. absurd (both_ways false refl y); lost = λ y p. h };
  }

  pub found_tells : {T : SetRows} {B : List Pos} {j : ℕ} (u : ℕ) {found : Option SetResult} {k : SetResult} → IsReady d cut T → found ≡ Some k → option_map try_of found ≡ stored position_lt (entries T) (B, j)
      → TellsSet d T B j (is_some (try_of k)) × IsSearched d cut (CoversPair (chess d) B j) 0 T T u u
  found_tells {T = T} {B = B} {j = j} u {k = k} r e h = (
    stored_tells T B j (try_of k) r (sym h ∙ ap (option_map try_of) e),
    searched_nothing d cut (CoversPair (chess d) B j) T u r,
  )

  -- nothing is stored where nothing is found
  pub none_found : (T : SetRows) (q : List Pos × ℕ) {found : Option SetResult} → found ≡ None → option_map try_of found ≡ stored position_lt (entries T) q → known (chess d) (entries T) q ≡ None
  none_found T q e h = sym h ∙ ap (option_map try_of) e

  -- a search of the pair was stopped at one of its tries
  pub pair_stopped : {A : Type 0} (r : Result A SearchStop) (wanted : A → Type 0) (B : List Pos) (j : ℕ) (T0 T : SetRows) (u0 u : ℕ) → IsErr r → known (chess d) (entries T0) (B, j) ≡ None
      → Stretches d cut r wanted (CoversTries (chess d) B j) (price (chess d) B) T0 T u0 u → Stretches d cut r wanted (CoversPair (chess d) B j) 0 T0 T u0 u
  pair_stopped (Ok x) wanted B j T0 T u0 u fails none k = absurd (both_ways _ refl fails)
  pair_stopped (Err Spent) wanted B j T0 T u0 u fails none k = (short_noted (chess d) (chess_is_game d) (entries T0) B j u0 none k.0, k.1)
  pair_stopped (Err Large) wanted B j T0 T u0 u fails none k = absurd k
  pair_stopped (Err NoMemory) wanted B j T0 T u0 u fails none k = k

  -- the tries are through, and the result is noted
  pub noted : (T0 T1 T2 : SetRows) (set j : ℕ) (k : SetResult) (o : Option Move) (u0 u1 : ℕ) → 0 < j → set < length T0
      → IsSearched d cut (CoversTries (chess d) (set_at T0 set) j) (floor_price (chess d) (set_at T0 set, j)) T0 T1 u0 u1 → IfSome o (λ m. u1 + made (chess d) (set_at T0 set) m ≤ u0)
      → known (chess d) (entries T0) (set_at T0 set, j) ≡ None → IsNoted T1 T2 set j k → try_of k ≡ o → o ≡ first_try (chess d) j (set_at T0 set) → IsBacked (chess d) cut (entries T1) (set_at T0 set) j o
      → TellsSet d T2 (set_at T0 set) j (is_some o) × IsSearched d cut (CoversPair (chess d) (set_at T0 set) j) 0 T0 T2 u0 u1
  noted T0 T1 T2 set j k o u0 u1 pos w s paid none n is f b = (
    stored_tells T2 B j o (record { counted = counted; sound = sound.sound }) adds.here,
    record { counted = counted; more = more; stretch = sound },
  )
    where
      B : List Pos
      B = set_at T0 set

      same : set_at T1 set ≡ B
      same = s.more.same set w

      adds : AddsResult position_lt (entries T1) (entries T2) (B, j) o
      adds = subst (λ (X : List Pos). AddsResult position_lt (entries T1) (entries T2) (X, j) o) same (subst (λ (y : Option Move). AddsResult position_lt (entries T1) (entries T2) (set_at T1 set, j) y) is n.added)

      counted : AreCounted T2
      counted = noted_counted n s.counted

      more : IsMore T0 T2
      more = more_then T0 T1 T2 s.more (noted_more n)

      sound : Rattle.krieg_accounts.specs.Stretch.IsStretch (chess d) cut (CoversPair (chess d) B j) 0 (entries T0) (entries T2) u0 u1
      sound = stretch_noted (chess d) (chess_is_game d) cut (entries T0) (entries T1) (entries T2) B j o u0 u1 s.stretch paid f b none adds
