-- The tries of a set that is won, one after another: which of them are keys.
use Rattle.std.proofs.Common.{Bool, ◌≡◌, ℕ, suc, ◌+◌, ◌≤◌, ◌<◌, true, false, ◌⊎◌, inl, inr, List, [], ◌∷◌, ◌++◌, length, drop, get_or, map, find, not, Option, Some, None, Result, Ok, Err, refl, sym, ap, subst, ◌∙◌, arith}
use Rattle.std.specs.Prelude.{◌↔◌, ◌==◌}
use Rattle.std.specs.List.{filter}
use Rattle.std.proofs.lemmas.Bool.{cases_Bool, cond-true, cond-false, both_ways, eqb-true, eq-eqb, false_from_ne_true, not_from_true, not_from_false}
use Rattle.std.proofs.lemmas.List.{append-nil, append_assoc}
use Rattle.krieg_moves.specs.Legal.{is_legal}
use Rattle.krieg_solve.proofs.Common.{Pos, Move, Dialect, is_nil, refused, legal_in_some, begins, tries, total, made, CoversTry, CoversTries, known, chess, SetRows, entries, SearchStop, Large, IsReady, IsSearched, Stretches, TellsTry, KeyTry, key_try, key_tries, behind, look_price, later_price}
use Rattle.krieg_accounts.proofs.Covering.{covers_try}
use Rattle.krieg_accounts.proofs.TryOrder.{first_is}
use Rattle.krieg_game.proofs.ChessLaws.{chess_is_game}
use Rattle.krieg_search.specs.declared.stop.SearchStop.TheVariants.{Spent, NoMemory}
use Rattle.krieg_search.proofs.Checking.{at_item}
use Rattle.krieg_search.proofs.Searching.{searched_nothing, searched_then}

-- no keys are found, or some are, as the code tells
pub no_keys : (ks : List KeyTry) (n : ℕ) → n ≡ length ks → (n == 0) ≡ true → ks ≡ []
no_keys [] n e z = refl
no_keys (k ∷ ks) n e z = absurd (let none = eqb-true n 0 z in omega (arith, e, none))

pub some_keys : (ks : List KeyTry) (n : ℕ) → n ≡ length ks → (n == 0) ≡ false → ks ≡ [] → ⊥
some_keys ks n e z none = both_ways (n == 0) z (eq-eqb n 0 (e ∙ ap length none))

-- the next position refuses the try, or does not
pub one_refuses : (d : Dialect) (p : Pos) (B : List Pos) (t : Move) → is_legal p t ≡ false → is_nil (refused (chess d) (p ∷ B) t) ≡ false
one_refuses d p B t e = ap is_nil (cond-true (not (is_legal p t)) (p ∷ refused (chess d) B t) (refused (chess d) B t) (not_from_false _ e))

pub not_this : (d : Dialect) (p : Pos) (B : List Pos) (t : Move) → is_legal p t ≡ true → refused (chess d) (p ∷ B) t ≡ refused (chess d) B t
not_this d p B t e = cond-false (not (is_legal p t)) (p ∷ refused (chess d) B t) (refused (chess d) B t) (not_from_true _ e)

-- what is found passes
find_passes : {X : Type 0} (f : X → Bool) (xs : List X) (x : X) → find f xs ≡ Some x → f x ≡ true
find_passes {X = X} f [] x e = absurd (let q : ◌≡◌ {A = Option X} None (Some x) = e in cc)
find_passes {X = X} f (y ∷ ys) x e = go (cases_Bool (f y)) (find_passes f ys x)
  where
    go : (f y ≡ true) ⊎ (f y ≡ false) → (find f ys ≡ Some x → f x ≡ true) → f x ≡ true
    go (inl t) ih = let q : ◌≡◌ {A = Option X} (Some y) (Some x) = sym (cond-true (f y) (Some y) (find f ys) t) ∙ e in subst (λ z. f z ≡ true) (let s : y ≡ x = cc in s) t
    go (inr n) ih = ih (sym (cond-false (f y) (Some y) (find f ys) n) ∙ e)

-- two tests of the same thing
same_truth : (b c : Bool) {P : Type 0} → (b ≡ true) ↔ P → (c ≡ true) ↔ P → b ≡ c
same_truth b c p q = go (cases_Bool b)
  where
    go : (b ≡ true) ⊎ (b ≡ false) → b ≡ c
    go (inl t) = t ∙ sym (q.1 (p.0 t))
    go (inr f) = f ∙ sym (false_from_ne_true c (λ t. both_ways b f (p.1 (q.0 t))))

module _ (d : Dialect) (cut : Bool) (B : List Pos) (j : ℕ) (m : Move) where
  -- How far the tries are through, with what their splits took. Up to the stored one, which is the first that wins, there is no key and
  -- nothing is taken. Each behind it is split.
  abbrev IsThrough : List KeyTry → ℕ → List Move → List Move → Type 0
  IsThrough [] cost rest ts = (cost ≡ 0) × (find (begins (chess d) j B) rest ≡ Some m) × (behind (begins (chess d) j B) rest ≡ behind (begins (chess d) j B) ts)
  IsThrough (k ∷ ks) cost rest ts = cost + total (made (chess d) B) rest ≡ total (made (chess d) B) (behind (begins (chess d) j B) ts)

  pub record IsKeying (T0 T : SetRows) (ts rest : List Move) (keys : List KeyTry) (u0 u : ℕ) : Type 0 where
    pub joined : keys ++ map (key_try d B) (filter (begins (chess d) j B) rest) ≡ map (key_try d B) (filter (begins (chess d) j B) ts)
    pub cost : ℕ
    pub through : IsThrough keys cost rest ts
    pub searched : IsSearched d cut (CoversTries (chess d) B j) cost T0 T u0 u

  pub none_keyed : (T : SetRows) (ts : List Move) (u : ℕ) → IsReady d cut T → find (begins (chess d) j B) ts ≡ Some m → IsKeying T T ts ts [] u u
  none_keyed T ts u r f = record { joined = refl; cost = 0; through = (refl, f, refl); searched = searched_nothing d cut (CoversTries (chess d) B j) T u r }

  module _ (ts : List Move) (t : Move) (rest : List Move) where
    passes : begins (chess d) j B t ≡ true → filter (begins (chess d) j B) (t ∷ rest) ≡ t ∷ filter (begins (chess d) j B) rest
    passes e = cond-true (begins (chess d) j B t) (t ∷ filter (begins (chess d) j B) rest) (filter (begins (chess d) j B) rest) e

    fails : begins (chess d) j B t ≡ false → filter (begins (chess d) j B) (t ∷ rest) ≡ filter (begins (chess d) j B) rest
    fails e = cond-false (begins (chess d) j B t) (t ∷ filter (begins (chess d) j B) rest) (filter (begins (chess d) j B) rest) e

    -- a key is added
    one_more : (keys : List KeyTry) → begins (chess d) j B t ≡ true → keys ++ map (key_try d B) (filter (begins (chess d) j B) (t ∷ rest)) ≡ map (key_try d B) (filter (begins (chess d) j B) ts)
        → (keys ++ key_try d B t ∷ []) ++ map (key_try d B) (filter (begins (chess d) j B) rest) ≡ map (key_try d B) (filter (begins (chess d) j B) ts)
    one_more keys e joined = append_assoc keys (key_try d B t ∷ []) (map (key_try d B) (filter (begins (chess d) j B) rest)) ∙ ap (λ xs. keys ++ map (key_try d B) xs) (sym (passes e)) ∙ joined

    none_more : (keys : List KeyTry) → begins (chess d) j B t ≡ false → keys ++ map (key_try d B) (filter (begins (chess d) j B) (t ∷ rest)) ≡ map (key_try d B) (filter (begins (chess d) j B) ts)
        → keys ++ map (key_try d B) (filter (begins (chess d) j B) rest) ≡ map (key_try d B) (filter (begins (chess d) j B) ts)
    none_more keys e joined = ap (λ xs. keys ++ map (key_try d B) xs) (sym (fails e)) ∙ joined

  -- the next try stands at its place
  pub at_next : {T0 T : SetRows} {ts : List Move} {k : ℕ} {t : Move} (keys : List KeyTry) {u0 u : ℕ} → k < length ts → t ≡ get_or ts k t → IsKeying T0 T ts (drop k ts) keys u0 u → IsKeying T0 T ts (t ∷ drop (suc k) ts) keys u0 u
  at_next {T0 = T0} {T = T} {ts = ts} {k = k} {t = t} keys {u0 = u0} {u = u} l e a = subst (λ (rest : List Move). IsKeying T0 T ts rest keys u0 u) (at_item ts k t l e) a

  pub behind_next : {T0 T : SetRows} {ts : List Move} (k : ℕ) (keys : List KeyTry) {u0 u : ℕ} → IsKeying T0 T ts (drop (suc k) ts) keys u0 u → IsKeying T0 T ts (drop (k + 1) ts) keys u0 u
  behind_next {T0 = T0} {T = T} {ts = ts} k keys {u0 = u0} {u = u} a = let one : suc k ≡ k + 1 = omega arith in subst (λ (n : ℕ). IsKeying T0 T ts (drop n ts) keys u0 u) one a

  -- the stored try is found among them
  pub stored_found : (T : SetRows) (ts : List Move) → IsReady d cut T → ts ≡ tries (chess d) B → known (chess d) (entries T) (B, j) ≡ Some (Some m) → find (begins (chess d) j B) ts ≡ Some m
  stored_found T ts r are k = ap (find (begins (chess d) j B)) are ∙ first_is (chess d) (chess_is_game d) j B ∙ sym (r.sound.right B j (Some m) k)

  -- before there is a key, the next try is one exactly where it is the stored one
  pub first_is_key : {T0 T : SetRows} {ts : List Move} {t : Move} {rest : List Move} {u0 u : ℕ} (keys : List KeyTry) → IsKeying T0 T ts (t ∷ rest) keys u0 u → keys ≡ [] → (begins (chess d) j B t ≡ true) ↔ (t ≡ m)
  first_is_key (k ∷ ks) a n = absurd (cc)
  first_is_key {t = t} {rest = rest} [] a n = (
    (λ b. let q : ◌≡◌ {A = Option Move} (Some t) (Some m) = sym (cond-true (begins (chess d) j B t) (Some t) (find (begins (chess d) j B) rest) b) ∙ a.through.1 in cc),
    (λ e. subst (λ x. begins (chess d) j B x ≡ true) (sym e) (find_passes (begins (chess d) j B) (t ∷ rest) m a.through.1)),
  )

  -- so it is looked at without a split
  pub first_looked : {T : SetRows} {u : ℕ} (t : Move) (told : Bool) (keys : List KeyTry) → keys ≡ [] → (keys ≡ [] → (begins (chess d) j B t ≡ true) ↔ (t ≡ m)) → (told ≡ true) ↔ (t ≡ m) → IsReady d cut T
      → (told ≡ begins (chess d) j B t) × IsSearched d cut (CoversTry (chess d) B j t) (look_price d keys B t) T T u u
  first_looked t told (k ∷ ks) n f s r = absurd (cc)
  first_looked {T = T} {u = u} t told [] n f s r = (same_truth told (begins (chess d) j B t) s (f refl), searched_nothing d cut (CoversTry (chess d) B j t) T u r)

  -- and behind a key it is split
  pub later_looked : (T T1 : SetRows) (u u1 : ℕ) (t : Move) (keys : List KeyTry) (r : Result Bool SearchStop) → (keys ≡ [] → ⊥) → Stretches d cut r (TellsTry d cut T1 B j t) (CoversTry (chess d) B j t) (made (chess d) B t) T T1 u u1
      → Stretches d cut r (λ yes. yes ≡ begins (chess d) j B t) (CoversTry (chess d) B j t) (look_price d keys B t) T T1 u u1
  later_looked T T1 u u1 t [] r some s = absurd (some refl)
  later_looked T T1 u u1 t (k ∷ ks) (Ok told) some s = (s.0.right, s.1)
  later_looked T T1 u u1 t (k ∷ ks) (Err Spent) some s = s
  later_looked T T1 u u1 t (k ∷ ks) (Err Large) some s = absurd s
  later_looked T T1 u u1 t (k ∷ ks) (Err NoMemory) some s = s

  module _ {T0 T : SetRows} {ts : List Move} {t : Move} {rest : List Move} {u0 u : ℕ} (keys : List KeyTry) (legal : legal_in_some (chess d) B t ≡ true) (a : IsKeying T0 T ts (t ∷ rest) keys u0 u) where
    through_key : (ks : List KeyTry) (cost : ℕ) → begins (chess d) j B t ≡ true → IsThrough ks cost (t ∷ rest) ts → IsThrough (ks ++ key_try d B t ∷ []) (cost + look_price d ks B t) rest ts
    through_key [] cost f h =
        let same : rest ≡ behind (begins (chess d) j B) ts = sym (cond-true (begins (chess d) j B t) rest (behind (begins (chess d) j B) rest) f) ∙ h.2 in
        let z = h.0 in
        let s = ap (total (made (chess d) B)) same in omega arith
    through_key (k ∷ ks) cost f h = let w = h in omega arith

    through_none : (ks : List KeyTry) (cost : ℕ) → begins (chess d) j B t ≡ false → IsThrough ks cost (t ∷ rest) ts → IsThrough ks (cost + look_price d ks B t) rest ts
    through_none [] cost f h = (
      (let z = h.0 in omega arith),
      sym (cond-false (begins (chess d) j B t) (Some t) (find (begins (chess d) j B) rest) f) ∙ h.1,
      sym (cond-false (begins (chess d) j B t) rest (behind (begins (chess d) j B) rest) f) ∙ h.2,
    )
    through_none (k ∷ ks) cost f h = let w = h in omega arith

    price_within : (ks : List KeyTry) (cost : ℕ) → ts ≡ tries (chess d) B → IsThrough ks cost (t ∷ rest) ts → cost + look_price d ks B t ≤ later_price d (B, j)
    price_within [] cost are h = let z = h.0 in omega arith
    price_within (k ∷ ks) cost are h = let l = h in let s = ap (λ xs. total (made (chess d) B) (behind (begins (chess d) j B) xs)) are in omega arith

    pub look_covers : (R : List (List Pos × ℕ)) → CoversTries (chess d) B j R → CoversTry (chess d) B j t R
    look_covers = covers_try (chess d) B j t legal

    pub look_within : ts ≡ tries (chess d) B → a.cost + look_price d keys B t ≤ later_price d (B, j)
    look_within are = price_within keys a.cost are a.through

    module _ {T1 : SetRows} {u1 : ℕ} (s : IsSearched d cut (CoversTry (chess d) B j t) (look_price d keys B t) T T1 u u1) where
      after : IsSearched d cut (CoversTries (chess d) B j) (a.cost + look_price d keys B t) T0 T1 u0 u1
      after = searched_then d cut (CoversTries (chess d) B j) (CoversTry (chess d) B j t) a.cost (look_price d keys B t) (a.cost + look_price d keys B t) T0 T T1 u0 u u1 look_covers a.searched refl s

      pub next_key : begins (chess d) j B t ≡ true → IsKeying T0 T1 ts rest (keys ++ key_try d B t ∷ []) u0 u1
      next_key e = record { joined = one_more ts t rest keys e a.joined; cost = a.cost + look_price d keys B t; through = through_key keys a.cost e a.through; searched = after }

      pub no_next_key : begins (chess d) j B t ≡ false → IsKeying T0 T1 ts rest keys u0 u1
      no_next_key e = record { joined = none_more ts t rest keys e a.joined; cost = a.cost + look_price d keys B t; through = through_none keys a.cost e a.through; searched = after }

  -- none is left
  pub all_keyed : {T0 T : SetRows} {ts rest : List Move} {u0 u : ℕ} (keys : List KeyTry) → rest ≡ [] → ts ≡ tries (chess d) B → IsKeying T0 T ts rest keys u0 u
      → (keys ≡ key_tries d j B) × IsSearched d cut (CoversTries (chess d) B j) (later_price d (B, j)) T0 T u0 u
  all_keyed {T0 = T0} {T = T} {ts = ts} {rest = rest} {u0 = u0} {u = u} keys none are a = (
    sym (append-nil keys) ∙ ap (λ xs. keys ++ map (key_try d B) (filter (begins (chess d) j B) xs)) (sym none) ∙ a.joined ∙ ap (λ xs. map (key_try d B) (filter (begins (chess d) j B) xs)) are,
    subst (λ c. IsSearched d cut (CoversTries (chess d) B j) c T0 T u0 u) (all_taken keys a.cost (subst (λ xs. IsThrough keys a.cost xs ts) none a.through)) a.searched,
  )
    where
      all_taken : (ks : List KeyTry) (cost : ℕ) → IsThrough ks cost [] ts → cost ≡ later_price d (B, j)
      all_taken [] cost h = absurd (let q : ◌≡◌ {A = Option Move} None (Some m) = h.1 in cc)
      all_taken (k ∷ ks) cost h = let w = h in let s = ap (λ xs. total (made (chess d) B) (behind (begins (chess d) j B) xs)) are in omega arith
