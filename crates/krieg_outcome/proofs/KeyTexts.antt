-- What a search for keys finds, as the answer to a sheet.
use Rattle.std.proofs.Common.{◌≡◌, ℕ, true, false, not, List, [], ◌∷◌, ◌++◌, filter, length, map, Err, refl, sym, ap, subst, inl, inr, ◌∙◌, arith}
use Rattle.std.specs.Prelude.{◌↔◌}
use Rattle.std.specs.List.{All, flat_map}
use Rattle.std.proofs.lemmas.Bool.{not-true, not_from_false}
use Rattle.std.proofs.lemmas.List.{append-nil, length-map}
use Rattle.std.proofs.lemmas.List.Elements.{All-nil, All-cons}
use Rattle.std.proofs.lemmas.Grind.{flat_map-append}
use Rattle.krieg_outcome.proofs.Common.{move_lt, Pos, IsValid, Side, Move, is_legal, all_moves, Dialect, In, Ascending, is_nil, refused, legal_in_some, tries, begins, can, least, canon_plan, mates, openings, opening_set, RootKey, chess, outset, HaveOneHand, IsToldRoot, waits, KeyTry, KeysAt, FoundKeys, Told, told_of, key_try, key_tries, keys_of, AreKeys, IsKeyAnswer, IsWithinFresh, SearchStop, of_search, Decides, Begins, AreSetKeys, AreKeysAt, keys_text, IsKeysText, Keyed}
use Rattle.krieg_theory.proofs.Lists.{in_map, map_in, in_filter, filter_in}
use Rattle.krieg_theory.proofs.Planned.{can_plan_at, canon_mates, worst_enough, worst_least}
use Rattle.krieg_theory.proofs.Theorems.{least_is_least}
use Rattle.krieg_game.proofs.ChessLaws.{chess_is_game, outset_is_lawful}
use Rattle.krieg_solve.specs.Laws.{KeysAreWon}
use Rattle.krieg_search.specs.declared.stop.SearchStop.TheVariants as stop
use Rattle.krieg_belief.proofs.Facts.{kept_up}
use Rattle.krieg_outcome.proofs.BestFiles.{all_of, each_of, turn_is}
use Rattle.krieg_outcome.proofs.ToldPlans.{some_member, opening_told}

pub flat_last : {A B : Type 0} (f : A → List B) (xs : List A) (x : A) → flat_map f (xs ++ x ∷ []) ≡ flat_map f xs ++ f x
flat_last f xs x = flat_map-append f xs (x ∷ []) ∙ ap (λ (t : List _). flat_map f xs ++ t) (append-nil (f x))

pub roots_length : (rs : List KeysAt) → length (map told_of rs) ≡ length rs
roots_length rs = length-map rs told_of

-- ---- a set

-- a list with a member is not empty
not_nil : {X : Type 0} (xs : List X) (x : X) → In x xs → not (is_nil xs) ≡ true
not_nil [] x at = absurd at
not_nil (y ∷ xs) x at = refl

module _ (d : Dialect) (won : KeysAreWon d) (B : List Pos) where
  -- the moves of the keys are the tries that they are made of
  moves_of_keys : (ts : List Move) → map (λ (k : KeyTry). k.mv) (map (key_try d B) ts) ≡ ts
  moves_of_keys [] = refl
  moves_of_keys (t ∷ ts) = ap (λ (more : List Move). t ∷ more) (moves_of_keys ts)

  abbrev winners : ℕ → List Move
  winners j = filter (begins (chess d) j B) (tries (chess d) B)

  key_moves : (j : ℕ) (t : Move) → In t (map (λ (k : KeyTry). k.mv) (key_tries d j B)) ↔ ((legal_in_some (chess d) B t ≡ true) × Begins d B j t)
  key_moves j t = (
    λ i. (let w = (won B j t).0 (in_map (key_try d B) (winners j) t (subst (In t) (moves_of_keys (winners j)) i)) in (w.0, (w.1, w.2, w.3))),
    λ w. in_map (λ (k : KeyTry). k.mv) (key_tries d j B) (key_try d B t) ((won B j t).1 (w.0, w.1.0, w.1.1, w.1.2)),
  )

  keys_up : (j : ℕ) → Ascending move_lt (map (λ (k : KeyTry). k.mv) (key_tries d j B))
  keys_up j =
      subst (Ascending move_lt) (sym (moves_of_keys (winners j)))
      (kept_up (begins (chess d) j B) (tries (chess d) B) (kept_up (legal_in_some (chess d) B) all_moves (chess_is_game d).in_order))

  -- a try is told to be refused exactly where some member refuses it
  refusal_told : (t : Move) → (not (is_nil (refused (chess d) B t)) ≡ true) ↔ ((p : Pos) × In p B × (is_legal p t ≡ false))
  refusal_told t = (
    λ h.
        let (p, at) = some_member (refused (chess d) B t) (not-true _ h) in
        let r = filter_in (λ p. not (is_legal p t)) B p at in
        (p, r.0, not-true _ r.1),
    λ (p, at, illegal). not_nil (refused (chess d) B t) p (in_filter (λ p. not (is_legal p t)) B p at (not_from_false _ illegal)),
  )

  keys_refused : (j : ℕ) (k : KeyTry) → In k (key_tries d j B) → (k.may_be_refused ≡ true) ↔ ((p : Pos) × In p B × (is_legal p k.mv ≡ false))
  keys_refused j k at =
      let (t, inside, same) = map_in (key_try d B) (winners j) k at in
      subst (λ (k : KeyTry). (k.may_be_refused ≡ true) ↔ ((p : Pos) × In p B × (is_legal p k.mv ≡ false))) same (refusal_told t)

  -- what is told of a set that can be won within n are its keys
  set_keys : (n : ℕ) → can (chess d) n B ≡ true → AreSetKeys d B (least (chess d) n B) (key_tries d (least (chess d) n B) B)
  set_keys n h = record {
    least = least_is_least (chess d) (chess_is_game d) B n h;
    exact = key_moves (least (chess d) n B);
    ascending = keys_up (least (chess d) n B);
    refused = keys_refused (least (chess d) n B);
  }

-- ---- the answer

module _ (d : Dialect) (who : Side) (S : List Pos) (n : ℕ) where
  abbrev set_at : RootKey → List Pos
  set_at key = opening_set (chess d) (outset d who) S key

  -- what is told of these things that may be heard
  abbrev told_at : List RootKey → List Told
  told_at keys = map (keys_of d n) (map (λ key. (key, set_at key)) keys)

  heard_at : (keys : List RootKey) → map (λ (r : Told). r.0) (told_at keys) ≡ keys
  heard_at [] = refl
  heard_at (key ∷ keys) = ap (λ (more : List RootKey). key ∷ more) (heard_at keys)

  all_keys : KeysAreWon d → (keys : List RootKey) → ((key : RootKey) → In key keys → can (chess d) n (set_at key) ≡ true) → All (AreKeysAt d who S) (told_at keys)
  all_keys won [] each = All-nil (AreKeysAt d who S)
  all_keys won (key ∷ keys) each =
      All-cons (AreKeysAt d who S) (keys_of d n (key, set_at key)) (told_at keys) (set_keys d won (set_at key) n (each key (inl refl))) (all_keys won keys (λ k at. each k (inr at)))

  module _ (keys : FoundKeys) (are : AreKeys d who S n keys) where
    abbrev told_roots : List Told
    told_roots = map told_of keys.roots.items

    heard_is : map (λ (r : Told). r.0) told_roots ≡ openings (chess d) (outset d who) S
    heard_is = ap (λ (rs : List Told). map (λ (r : Told). r.0) rs) are.roots ∙ heard_at (openings (chess d) (outset d who) S)

    -- all that is heard can be told
    pub roots_told : All IsValid S → HaveOneHand who S → All (λ r. IsToldRoot d (told_of r).0) keys.roots.items
    roots_told valid hand = all_of (λ (r : KeysAt). IsToldRoot d (told_of r).0) keys.roots.items (λ r at. (
        let key = (told_of r).0 in
        let heard = in_map (λ (r : Told). r.0) told_roots (told_of r) (in_map told_of keys.roots.items r at) in
        opening_told d who S (each_of IsValid S valid) (waits who S) (turn_is who S hand) key (subst (In key) heard_is heard)))

    -- their text is the answer
    pub keys_told : KeysAreWon d → (answer : List ℕ) → answer ≡ keys_text d who S keys.worst told_roots → IsKeysText d who S n answer
    keys_told won answer text =
        let (over, each) = can_plan_at (chess d) (chess_is_game d) (outset d who) (outset_is_lawful d who) S n are.can in
        record {
          worst = keys.worst;
          roots = told_roots;
          text = text;
          heard = heard_is;
          keys = subst (λ (rs : List Told). All (AreKeysAt d who S) rs) (sym are.roots) (all_keys won (openings (chess d) (outset d who) S) each);
          mates = (canon_plan (chess d) (outset d who) n S, subst (λ w. mates (chess d) (outset d who) (canon_plan (chess d) (outset d who) n S) S w ≡ true) (sym are.worst) (canon_mates (chess d) (chess_is_game d) (outset d who) (outset_is_lawful d who) n S are.can));
          within = (let enough = worst_enough (chess d) (chess_is_game d) (outset d who) (outset_is_lawful d who) n S are.can in omega (arith, are.worst, enough));
          least = λ plan k mated. (let few = worst_least (chess d) (chess_is_game d) (outset d who) (outset_is_lawful d who) n S plan k mated in omega (arith, are.worst, few));
        }

  -- what a search without an answer tells
  pub stop_told : {X : Type 0} (view : X → List ℕ) (budget start left : ℕ) → start ≡ budget → (stop : SearchStop) → IsKeyAnswer d who S n (Err stop) → IsWithinFresh d who S n (Err stop) start left →
      Decides view (Err (of_search stop)) (Keyed d who S n budget)
  stop_told view budget start left same stop.Spent answer units = omega (arith, same, units.0)
  stop_told view budget start left same stop.Large answer units = absurd answer
  stop_told view budget start left same stop.NoMemory answer units = tt
