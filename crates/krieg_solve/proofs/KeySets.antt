-- Sets that are won, one after another: the keys of each.
use Rattle.std.proofs.Common.{Bool, ◌≡◌, ℕ, ◌+◌, ◌≤◌, ◌<◌, true, inl, inr, List, [], ◌∷◌, ◌++◌, length, map, Option, Some, refl, sym, ap, subst, ◌∙◌, arith}
use Rattle.std.proofs.lemmas.List.{append-nil, append_assoc, map-append}
use Rattle.krieg_solve.proofs.Common.{Pos, Move, Dialect, In, can, least, known, total, CoversSets, CoversTries, chess, SetRows, set_at, entries, IsReady, IsSearched, WonBy, SetKeys, key_tries, later_price, least_pair, set_keys, told_set, AreSetKeys}
use Rattle.krieg_theory.proofs.Lists.{in_map}
use Rattle.krieg_theory.proofs.Unique.{can_upto}
use Rattle.krieg_accounts.proofs.Covering.{covers_set, covers_pair}
use Rattle.krieg_accounts.proofs.Tables.{result_can, wins_least}
use Rattle.krieg_game.proofs.ChessLaws.{chess_is_game}
use Rattle.krieg_search.proofs.Searching.{searched_nothing, searched_then}

module _ (d : Dialect) (cut : Bool) (n : ℕ) where
  -- how a set is won that the table has
  module _ (T : SetRows) (X : List Pos) (j : ℕ) (m : Move) (r : IsReady d cut T) (some : 0 < j) (most : j ≤ n) (k : known (chess d) (entries T) (X, j) ≡ Some (Some m)) where
    can_at : can (chess d) n X ≡ true
    can_at = can_upto (chess d) (chess_is_game d) j n X most (result_can (chess d) (chess_is_game d) cut (entries T) r.sound X j (Some m) k)

    -- the number is the least
    pub won_least : least (chess d) n X ≡ j
    won_least = wins_least (chess d) (chess_is_game d) cut (entries T) r.sound n X (j, m, k) can_at

  -- what is stored as won stays so
  pub still_stored : (T0 T : SetRows) (X : List Pos) → ((q : List Pos × ℕ) (x : Option Move) → known (chess d) (entries T0) q ≡ Some x → known (chess d) (entries T) q ≡ Some x) → WonBy T0 X n → WonBy T X n
  still_stored T0 T X kept w = (w.0, w.1, w.2, w.3, kept (X, w.0) (Some w.3) w.4)

  -- the keys so far, with those of the sets that are left, are all
  pub record AreKeying (T0 T : SetRows) (sets rest : List ℕ) (found : List SetKeys) (u0 u : ℕ) : Type 0 where
    pub joined : map told_set found ++ map (set_keys d n T0) rest ≡ map (set_keys d n T0) sets
    pub cost : ℕ
    pub price : cost + total (later_price d) (map (least_pair d n T0) rest) ≡ total (later_price d) (map (least_pair d n T0) sets)
    pub inside : (s : ℕ) → In s rest → In s sets
    pub searched : IsSearched d cut (CoversSets (chess d) (map (set_at T0) sets) n) cost T0 T u0 u

  pub no_set : (T : SetRows) (sets : List ℕ) (u : ℕ) → IsReady d cut T → AreKeying T T sets sets [] u u
  no_set T sets u r = record { joined = refl; cost = 0; price = omega arith; inside = λ s i. i; searched = searched_nothing d cut (CoversSets (chess d) (map (set_at T) sets) n) T u r }

  pub all_sets : {T0 T : SetRows} {sets rest : List ℕ} {u0 u : ℕ} (found : List SetKeys) → rest ≡ [] → AreKeying T0 T sets rest found u0 u
      → AreSetKeys d n T0 sets found × IsSearched d cut (CoversSets (chess d) (map (set_at T0) sets) n) (total (later_price d) (map (least_pair d n T0) sets)) T0 T u0 u
  all_sets {T0 = T0} {T = T} {sets = sets} {rest = rest} {u0 = u0} {u = u} found none a = (
    sym (append-nil (map told_set found)) ∙ ap (λ xs. map told_set found ++ map (set_keys d n T0) xs) (sym none) ∙ a.joined,
    subst (λ c. IsSearched d cut (CoversSets (chess d) (map (set_at T0) sets) n) c T0 T u0 u) (let p = a.price in let z = ap (λ xs. total (later_price d) (map (least_pair d n T0) xs)) none in let e : a.cost ≡ total (later_price d) (map (least_pair d n T0) sets) = omega arith in e) a.searched,
  )

  -- the next set, with how it is won
  module _ {T0 T : SetRows} {sets : List ℕ} {s : ℕ} {rest : List ℕ} {found : List SetKeys} {u0 u : ℕ} (a : AreKeying T0 T sets (s ∷ rest) found u0 u) (within : s < length T0) (r : IsReady d cut T) {j : ℕ} {m : Move} (some : 0 < j) (most : j ≤ n) (k : known (chess d) (entries T) (set_at T s, j) ≡ Some (Some m)) where
    same : set_at T s ≡ set_at T0 s
    same = a.searched.more.same s within

    number : least (chess d) n (set_at T0 s) ≡ j
    number = ap (least (chess d) n) (sym same) ∙ won_least T (set_at T s) j m r some most k

    pub set_covers : (R : List (List Pos × ℕ)) → CoversSets (chess d) (map (set_at T0) sets) n R → CoversTries (chess d) (set_at T s) j R
    set_covers R h =
        let i = subst (λ X. In X (map (set_at T0) sets)) (sym same) (in_map (set_at T0) sets s (a.inside s (inl refl))) in
        let p = covers_pair (chess d) (set_at T s) j n some most R (covers_set (chess d) (map (set_at T0) sets) (set_at T s) n i R h) in
        (p.0, λ t l. p.0 (set_at T s) j p.1 t l)

    paid : a.cost + (later_price d (least_pair d n T0 s) + total (later_price d) (map (least_pair d n T0) rest)) ≡ total (later_price d) (map (least_pair d n T0) sets)
    paid = a.price

    pair_is : later_price d (least_pair d n T0 s) ≡ later_price d (set_at T s, j)
    pair_is = ap (λ X. later_price d (X, least (chess d) n (set_at T0 s))) (sym same) ∙ ap (λ i. later_price d (set_at T s, i)) number

    pub set_within : a.cost + later_price d (set_at T s, j) ≤ total (later_price d) (map (least_pair d n T0) sets)
    set_within = let p = paid in let q = pair_is in omega arith

    pub one_set : {T1 : SetRows} {u1 : ℕ} (x : SetKeys) → x.set ≡ s → x.least ≡ j → x.tries.items ≡ key_tries d j (set_at T s) → IsSearched d cut (CoversTries (chess d) (set_at T s) j) (later_price d (set_at T s, j)) T T1 u u1
        → AreKeying T0 T1 sets rest (found ++ x ∷ []) u0 u1
    one_set {T1 = T1} {u1 = u1} x e f g w = record {
      joined =
          ap (λ xs. xs ++ map (set_keys d n T0) rest) (map-append told_set found (x ∷ [])) ∙ append_assoc (map told_set found) (told_set x ∷ []) (map (set_keys d n T0) rest)
          ∙ ap (λ y. map told_set found ++ y ∷ map (set_keys d n T0) rest) here ∙ a.joined;
      cost = a.cost + later_price d (set_at T s, j);
      price = (let p = paid in let q = pair_is in omega arith);
      inside = λ i k. a.inside i (inr k);
      searched = searched_then d cut (CoversSets (chess d) (map (set_at T0) sets) n) (CoversTries (chess d) (set_at T s) j) a.cost (later_price d (set_at T s, j)) (a.cost + later_price d (set_at T s, j)) T0 T T1 u0 u u1 set_covers a.searched refl w;
    }
      where
        tries_are : x.tries.items ≡ key_tries d (least (chess d) n (set_at T0 s)) (set_at T0 s)
        tries_are = g ∙ ap (λ i. key_tries d i (set_at T s)) (sym number) ∙ ap (key_tries d (least (chess d) n (set_at T0 s))) same

        here : told_set x ≡ set_keys d n T0 s
        here = λ i. (e i, ((f ∙ sym number) i, tries_are i))
