-- The keys of all openings, and what they take.
use Rattle.std.proofs.Common.{Bool, ◌≡◌, ℕ, suc, ◌+◌, ◌<◌, true, false, ◌⊎◌, inl, inr, List, [], ◌∷◌, ◌++◌, length, drop, map, max, Option, Some, Result, Ok, Err, refl, sym, ap, subst, ◌∙◌, arith}
use Rattle.std.specs.Prelude.{◌==◌}
use Rattle.std.specs.List.{list_any}
use Rattle.std.specs.Result.{IsErrAnd}
use Rattle.std.proofs.lemmas.Bool.{both_ways, eqb-true, eq-eqb}
use Rattle.std.proofs.lemmas.List.{append-nil, append_assoc, map-append}
use Rattle.krieg_solve.proofs.Common.{Pos, Move, Side, Dialect, In, least, greatest, known, total, pairs, once, IsOnce, reach_of, first_made, CoversSets, opening_sets, RootKey, chess, outset, SetRows, set_at, sets, entries, IsSearched, Stretches, WonBy, Opening, opening_in, sets_in, Outlook, IsAsked, SearchStop, Large, SetKeys, KeyTry, KeysAt, Keys, KeyAnswer, AreKeys, AreKeysAt, AreSetKeys, IsKeyAnswer, IsTaken, IsWithinFresh, keys_of, told_of, told_set, set_keys, numbers_of, later_price, least_pair}
use Rattle.krieg_theory.proofs.Lists.{any_at, any_none, append_in, in_map, map_in}
use Rattle.krieg_costs.proofs.Onces.{once_append}
use Rattle.krieg_accounts.proofs.Searches.{reach_covers, fresh_is_enough}
use Rattle.krieg_accounts.proofs.Tables.{known_in, in_known}
use Rattle.krieg_game.proofs.ChessLaws.{chess_is_game, outset_is_lawful}
use Rattle.krieg_solve.specs.declared.keys.KeyAnswer.TheVariants as answer
use Rattle.krieg_search.specs.declared.stop.SearchStop.TheVariants.{Spent, NoMemory}
use Rattle.krieg_solve.proofs.KeySets.{won_least}
use Rattle.krieg_solve.proofs.LaterPrices.{within_prices, pairs_once}
use Rattle.krieg_search.proofs.Deciding.{sets_are_opened, answer as can_is, asked_ready, asked_reached, opening_won}
use Rattle.krieg_solve.proofs.Solving.{worst_of}

-- a number is among some, as the code tells
pub contains_is : (ks : List ℕ) (x : ℕ) (r : Bool) → r ≡ list_any (λ y. y == x) ks → (r ≡ true → In x ks) × (r ≡ false → In x ks → ⊥)
contains_is ks x r e = (
  (λ t. (let a = any_at (λ y. y == x) ks (sym e ∙ t) in subst (λ y. In y ks) (eqb-true a.0 x a.2) a.1)),
  (λ f i. both_ways (x == x) (any_none (λ y. y == x) ks (sym e ∙ f) x i) (eq-eqb x x refl)),
)

-- the next opening has its number among them, and those before had theirs
pub numbers_more : (os : List Opening) (k : ℕ) (x : Opening) (ks more : List ℕ) → drop k os ≡ x ∷ drop (suc k) os → ((s : ℕ) → In s ks → In s more) → In x.set more → ((s : ℕ) → In s (numbers_of os) → In s ks ⊎ In s (numbers_of (drop k os))) → (s : ℕ) → In s (numbers_of os) → In s more ⊎ In s (numbers_of (drop (k + 1) os))
numbers_more os k x ks more at kept here h s i = go (h s i)
  where
    next : (x.set ≡ s) ⊎ In s (numbers_of (drop (suc k) os)) → In s more ⊎ In s (numbers_of (drop (k + 1) os))
    next (inl e) = inl (subst (λ z. In z more) e here)
    next (inr j) = inr (let one : suc k ≡ k + 1 = omega arith in subst (λ (n : ℕ). In s (numbers_of (drop n os))) one j)

    go : In s ks ⊎ In s (numbers_of (drop k os)) → In s more ⊎ In s (numbers_of (drop (k + 1) os))
    go (inl j) = inl (kept s j)
    go (inr j) = next (subst (λ (ys : List Opening). In s (numbers_of ys)) at j)

pub numbers_all : (os : List Opening) (k : ℕ) (ks : List ℕ) → drop k os ≡ [] → ((s : ℕ) → In s (numbers_of os) → In s ks ⊎ In s (numbers_of (drop k os))) → (s : ℕ) → In s (numbers_of os) → In s ks
numbers_all os k ks none h s i = go (h s i)
  where
    go : In s ks ⊎ In s (numbers_of (drop k os)) → In s ks
    go (inl j) = j
    go (inr j) = absurd (subst (λ (ys : List Opening). In s (numbers_of ys)) none j)

-- a new number is put behind them
pub number_put : (ks : List ℕ) (x : ℕ) → (In x ks → ⊥) → IsOnce ks → IsOnce (ks ++ x ∷ [])
number_put ks x new once = once_append ks (x ∷ []) once ((λ i. i), tt) (λ z i j. go z i j)
  where
    go : (z : ℕ) → In z ks → (x ≡ z) ⊎ ⊥ → ⊥
    go z i (inl e) = new (subst (λ y. In y ks) (sym e) i)
    go z i (inr j) = j

pub put_only : (ks ns : List ℕ) (x : ℕ) → In x ns → ((s : ℕ) → In s ks → In s ns) → (s : ℕ) → In s (ks ++ x ∷ []) → In s ns
put_only ks ns x i h s j = go (append_in ks (x ∷ []) s j)
  where
    go : In s ks ⊎ ((x ≡ s) ⊎ ⊥) → In s ns
    go (inl k) = h s k
    go (inr (inl e)) = subst (λ z. In z ns) e i
    go (inr (inr k)) = absurd k

-- the keys that are found for a set are those of the set
found_is : (d : Dialect) (n : ℕ) (T : SetRows) (found : List SetKeys) → AreSetKeys d n T (map (λ k. k.set) found) found → (k : SetKeys) → In k found → told_set k ≡ set_keys d n T k.set
found_is d n T [] e k i = absurd i
found_is d n T (x ∷ xs) e k (inl s) = subst (λ (y : SetKeys). told_set y ≡ set_keys d n T y.set) s (cc)
found_is d n T (x ∷ xs) e k (inr i) = found_is d n T xs (cc) k i

-- they are of the sets that were asked
pub found_sets : (d : Dialect) (n : ℕ) (T : SetRows) (ks : List ℕ) (found : List SetKeys) → AreSetKeys d n T ks found → map (λ k. k.set) found ≡ ks
found_sets d n T [] [] e = refl
found_sets d n T [] (x ∷ xs) e = absurd (cc)
found_sets d n T (s ∷ ss) [] e = absurd (cc)
found_sets d n T (s ∷ ss) (x ∷ xs) e =
    let head : told_set x ≡ set_keys d n T s = cc in
    let tail : map told_set xs ≡ map (set_keys d n T) ss = cc in
    let rest = found_sets d n T ss xs tail in
    λ i. (head i).0 ∷ rest i

module _ (d : Dialect) (n : ℕ) where
  -- the keys of the openings so far, with those of the openings that are left, are all
  pub record IsKeyed (pushed : List KeysAt) (worst : ℕ) (rest all : List (RootKey × List Pos)) : Type 0 where
    pub joined : map told_of pushed ++ map (keys_of d n) rest ≡ map (keys_of d n) all
    pub numbers : max worst (greatest (λ (c : RootKey × List Pos). least (chess d) n c.1) rest) ≡ greatest (λ (c : RootKey × List Pos). least (chess d) n c.1) all

  pub no_root_keyed : (all : List (RootKey × List Pos)) → IsKeyed [] 0 all all
  no_root_keyed all = record { joined = refl; numbers = omega arith }

  pub all_roots_keyed : (keys : Keys) (all : List (RootKey × List Pos)) → IsKeyed keys.roots.items keys.worst [] all → AreKeysAt d n all keys
  all_roots_keyed keys all a = record { roots = sym (append-nil (map told_of keys.roots.items)) ∙ a.joined; worst = (let e = a.numbers in omega arith) }

  -- the next opening, by the keys of its set
  pub one_root_keyed : (T : SetRows) (found : List SetKeys) (k : SetKeys) (o : Opening) (x : KeysAt) (pushed : List KeysAt) (worst worse : ℕ) (rest all : List (RootKey × List Pos)) → AreSetKeys d n T (map (λ k. k.set) found) found → In k found → k.set ≡ o.set
      → x.opens ≡ o.opens → x.heard ≡ o.heard → x.least ≡ k.least → x.tries.items ≡ k.tries.items → worse ≡ max worst k.least → IsKeyed pushed worst (opening_in T o ∷ rest) all → IsKeyed (pushed ++ x ∷ []) worse rest all
  one_root_keyed T found k o x pushed worst worse rest all are i s opens heard least_is tries_are w a =
      let told = found_is d n T found are k i ∙ ap (set_keys d n T) s in
      let numbers = ap (λ (y : ℕ × (ℕ × List KeyTry)). y.1) told in
      let here : told_of x ≡ keys_of d n (opening_in T o) = λ i. ((opens i, heard i), ((least_is ∙ ap (λ (y : ℕ × List KeyTry). y.0) numbers) i, (tries_are ∙ ap (λ (y : ℕ × List KeyTry). y.1) numbers) i)) in
      let number : k.least ≡ least (chess d) n (set_at T o.set) = ap (λ (y : ℕ × List KeyTry). y.0) numbers in
      record {
        joined =
            ap (λ xs. xs ++ map (keys_of d n) rest) (map-append told_of pushed (x ∷ [])) ∙ append_assoc (map told_of pushed) (told_of x ∷ []) (map (keys_of d n) rest)
            ∙ ap (λ y. map told_of pushed ++ y ∷ map (keys_of d n) rest) here ∙ a.joined;
        numbers = (let e = a.numbers in omega arith);
      }

module _ (d : Dialect) (cut : Bool) (who : Side) (S : List Pos) (n : ℕ) where
  -- some listed position is over
  pub over_taken : (had has : ℕ) → has + first_made (chess d) (outset d who) S ≡ had → IsTaken d who S n (Ok answer.None) had has
  over_taken had has e = (omega arith, omega arith)

  module _ (T1 : SetRows) (asked : Outlook) (had u1 : ℕ) (a : IsAsked d who S n cut T1 asked had u1) where
    -- some opening set cannot be won
    pub lost_taken : IsTaken d who S n (Ok answer.None) had u1
    lost_taken =
        let f = fresh_is_enough (chess d) (chess_is_game d) (outset d who) (outset_is_lawful d who) cut n S (entries T1) a.left u1 a.stretch in
        let e = a.taken in
        let less = a.stretch.fewer in
        (omega arith, omega arith)

    -- all can, and these are the numbers of their sets
    module _ (win : asked.all_win ≡ true) (ks : List ℕ) (ones : IsOnce ks) (only : (s : ℕ) → In s ks → In s (numbers_of asked.openings.items)) where
      opening_of : (s : ℕ) → In s ks → (o : Opening) × In o asked.openings.items × (o.set ≡ s)
      opening_of s i = map_in (λ (o : Opening). o.set) asked.openings.items s (only s i)

      pub keys_within : (s : ℕ) → In s ks → s < length T1
      keys_within s i = let o = opening_of s i in subst (λ (k : ℕ). k < length T1) o.2 (a.numbered o.0 o.1)

      is_set : (s : ℕ) → In s ks → In (set_at T1 s) (sets_in T1 asked.openings.items)
      is_set s i = let o = opening_of s i in subst (λ (k : ℕ). In (set_at T1 k) (sets_in T1 asked.openings.items)) o.2 (in_map (λ (o : Opening). set_at T1 o.set) asked.openings.items o.0 o.1)

      pub keys_won : (s : ℕ) → In s ks → WonBy T1 (set_at T1 s) n
      keys_won s i = opening_won d cut who S n T1 asked had u1 a win (set_at T1 s) (is_set s i)

      covers : CoversSets (chess d) (map (set_at T1) ks) n (once (chess d) (reach_of (chess d) (outset d who) n S))
      covers =
          let h = reach_covers (chess d) (chess_is_game d) (outset d who) (outset_is_lawful d who) n S in (
            h.0,
            λ C i. (let s = map_in (set_at T1) ks C i in h.1 C (subst (λ X. In X (opening_sets (chess d) (outset d who) S)) s.2 (subst (In (set_at T1 s.0)) (sets_are_opened d who S T1 asked.openings.items a.sets) (is_set s.0 s.1)))),
          )

      -- each is stored
      stored_at : (q : List Pos × ℕ) → In q (map (least_pair d n T1) ks) → (m : Move) × (known (chess d) (entries T1) q ≡ Some (Some m))
      stored_at q i =
          let s = map_in (least_pair d n T1) ks q i in
          let w = keys_won s.0 s.1 in
          let e = won_least d cut n T1 (set_at T1 s.0) w.0 w.3 (asked_ready d cut who S n T1 asked had u1 a) w.1 w.2 w.4 in
          (w.3, subst (λ (p : List Pos × ℕ). known (chess d) (entries T1) p ≡ Some (Some w.3)) (ap (λ (j : ℕ). (set_at T1 s.0, j)) (sym e) ∙ s.2) w.4)

      module _ (sets_once : IsOnce (sets T1)) (o1 : IsOnce (pairs (entries T1))) where
        pairs_are_once : IsOnce (map (least_pair d n T1) ks)
        pairs_are_once = pairs_once T1 (λ s. least (chess d) n (set_at T1 s)) sets_once ks keys_within ones

        -- the keys were stopped
        pub keys_stopped : {A : Type 0} (P : SearchStop → Type 0) (r : Result KeyAnswer SearchStop) (e : SearchStop) (holds : A → Type 0) (T2 : SetRows) (u2 : ℕ) → ((x : SearchStop) → P x → e ≡ x) → IsErrAnd r P
            → Stretches d cut {A = A} (Err e) holds (CoversSets (chess d) (map (set_at T1) ks) n) (total (later_price d) (map (least_pair d n T1) ks)) T1 T2 u1 u2 → IsKeyAnswer d who S n r × IsTaken d who S n r had u2
        keys_stopped P (Ok x) e holds T2 u2 same fails k = absurd fails
        keys_stopped {A = A} P (Err x) e holds T2 u2 same fails k =
            go x (subst (λ (y : SearchStop). Stretches d cut {A = A} (Err y) holds (CoversSets (chess d) (map (set_at T1) ks) n) (total (later_price d) (map (least_pair d n T1) ks)) T1 T2 u1 u2) (same x fails) k)
          where
            go : (y : SearchStop) → Stretches d cut {A = A} (Err y) holds (CoversSets (chess d) (map (set_at T1) ks) n) (total (later_price d) (map (least_pair d n T1) ks)) T1 T2 u1 u2 → IsKeyAnswer d who S n (Err y) × IsTaken d who S n (Err y) had u2
            go Spent v =
                let R = once (chess d) (reach_of (chess d) (outset d who) n S) in
                let short = v.0 R covers in
                let fits = within_prices d (entries T1) R (map (least_pair d n T1) ks) o1 (asked_reached d cut who S n T1 asked had u1 a) pairs_are_once (λ q i. (let k = stored_at q i in known_in (chess d) (chess_is_game d) (entries T1) q (Some k.0) k.1)) in
                let most = a.stretch.at_most in
                let e = a.taken in
                (tt, omega arith)
            go Large v = absurd v
            go NoMemory v = (tt, tt)

        -- they are found
        pub keys_taken : (keys : Keys) (T2 : SetRows) (u2 : ℕ) → IsOnce (pairs (entries T2)) → IsSearched d cut (CoversSets (chess d) (map (set_at T1) ks) n) (total (later_price d) (map (least_pair d n T1) ks)) T1 T2 u1 u2 → IsTaken d who S n (Ok (answer.Found keys)) had u2
        keys_taken keys T2 u2 o2 w =
            let R = once (chess d) (reach_of (chess d) (outset d who) n S) in
            let fits = within_prices d (entries T2) R (map (least_pair d n T1) ks) o2 reached pairs_are_once (λ q i. (let k = stored_at q i in known_in (chess d) (chess_is_game d) (entries T2) q (Some k.0) (w.stretch.kept q (Some k.0) k.1))) in
            let most = a.stretch.at_most in
            let more = w.stretch.at_most in
            let e = a.taken in
            let less = a.stretch.fewer in
            let fewer = w.stretch.fewer in
            (omega arith, omega arith)
          where
            reached : (q : List Pos × ℕ) → In q (pairs (entries T2)) → In q (once (chess d) (reach_of (chess d) (outset d who) n S))
            reached q i =
                let k = in_known (chess d) (chess_is_game d) (entries T2) q i in
                there k.0 (w.stretch.news (once (chess d) (reach_of (chess d) (outset d who) n S)) covers q k.0 k.1)
              where
                there : (x : Option Move) → (known (chess d) (entries T1) q ≡ Some x) ⊎ In q (once (chess d) (reach_of (chess d) (outset d who) n S)) → In q (once (chess d) (reach_of (chess d) (outset d who) n S))
                there x (inl k) = asked_reached d cut who S n T1 asked had u1 a q (known_in (chess d) (chess_is_game d) (entries T1) q x k)
                there x (inr i) = i

      pub keys_are : (keys : Keys) → AreKeysAt d n (map (opening_in T1) asked.openings.items) keys → AreKeys d who S n keys
      keys_are keys k = record {
        can = sym (can_is d cut who S n T1 asked had u1 a) ∙ win;
        roots = k.roots ∙ ap (map (keys_of d n)) a.sets;
        worst = k.worst ∙ ap (greatest (λ (c : RootKey × List Pos). least (chess d) n c.1)) a.sets ∙ worst_of d who S n;
      }

-- an error takes none
module _ (d : Dialect) (who : Side) (S : List Pos) (n : ℕ) where
  pub taken_then : (a : KeyAnswer) (had start has : ℕ) → start ≡ had → IsTaken d who S n (Ok a) start has → IsWithinFresh d who S n (Ok a) had has
  taken_then a had start has e k = (let l = k.0 in omega arith, let m = k.1 in omega arith)

  pub stopped_then : (P : SearchStop → Type 0) (r : Result KeyAnswer SearchStop) (e : SearchStop) (had start has : ℕ) → ((x : SearchStop) → P x → e ≡ x) → IsErrAnd r P → start ≡ had → IsKeyAnswer d who S n (Err e) → IsTaken d who S n (Err e) start has → IsKeyAnswer d who S n r × IsWithinFresh d who S n r had had
  stopped_then P (Ok x) e had start has same fails at k t = absurd fails
  stopped_then P (Err x) e had start has same fails at k t = go x (subst (λ (y : SearchStop). IsKeyAnswer d who S n (Err y)) (same x fails) k) (subst (λ (y : SearchStop). IsTaken d who S n (Err y) start has) (same x fails) t)
    where
      go : (y : SearchStop) → IsKeyAnswer d who S n (Err y) → IsTaken d who S n (Err y) start has → IsKeyAnswer d who S n (Err y) × IsWithinFresh d who S n (Err y) had had
      go Spent v w = (tt, ((let x = w in omega arith), refl))
      go Large v w = absurd v
      go NoMemory v w = (tt, refl)
