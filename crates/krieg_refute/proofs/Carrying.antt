-- What stops a walk goes up, and what is walked last.
use Rattle.std.proofs.Common.{◌≡◌, ℕ, suc, ◌+◌, ◌-◌, ◌<◌, false, List, [], ◌∷◌, ◌++◌, length, map, flat_map, take, drop, get_or, Result, Ok, Err, refl, sym, ap, subst, ◌∙◌, append_assoc, arith}
use Rattle.std.specs.Result.{IsErrAnd}
use Rattle.std.proofs.lemmas.List.{drop_more, take-append-drop}
use Rattle.std.proofs.lemmas.Grind.{flat_map-append}
use Rattle.krieg_refute.proofs.Common.{Pos, Move, Dialect, is_nil, tries, can, claimed, add_all, AreMany, behind_try, Walks, WalksTries, chess, SetRows, AddsSets, SearchStop, Spent, Large, NoMemory, block_pair, Key, Question, ClaimList, most_claims, most_claimed, pairs_in, IsNext, IsPushed, Claims}
use Rattle.krieg_theory.specs.Sets.{In}
use Rattle.krieg_claims.specs.Written as written
use Rattle.krieg_claims.proofs.Adding.{all_append}
use Rattle.krieg_claims.proofs.Standing.{claimed_step}
use Rattle.krieg_claims.proofs.Walking.{many_behind, root_walks, root_is_new}
use Rattle.krieg_game.proofs.ChessLaws.{chess_is_game}
use Rattle.std.specs.Prelude.{IfSome}
use Rattle.krieg_costs.specs.Refutation.{Reason}
use Rattle.krieg_costs.proofs.Costs.{legal_try}

-- why a step stopped is why the whole does
pub carried : {B : Type 0} (P : SearchStop → Type 0) (r : Result B SearchStop) (e : SearchStop) (C : SearchStop → Type 0) (W : Result B SearchStop → Type 0)
    → ((x : SearchStop) → P x → e ≡ x) → IsErrAnd r P → (C Spent → ⊥) → (C Large → W (Err Large)) → W (Err NoMemory) → C e → W r
carried P (Ok x) e C W same fails f g h k = absurd fails
carried P (Err x) e C W same fails f g h k = go x (subst C (same x fails) k)
  where
    go : (y : SearchStop) → C y → W (Err y)
    go Spent v = absurd (f v)
    go Large v = g v
    go NoMemory v = h

module _ (d : Dialect) where
  abbrev pub AreTooMany : List (List Pos × ℕ) → Type 0
  AreTooMany qs = AreMany (chess d) most_claims most_claimed (written.claims_of (chess d) qs)

  -- too many for the tries of a set are too many for the set
  pub set_large : (qs : List (List Pos × ℕ)) (B : List Pos) (j : ℕ) (ts : List Move) → 0 < j → is_nil B ≡ false → ts ≡ tries (chess d) B
      → AreTooMany (add_all (chess d) qs (flat_map (behind_try (chess d) (j - 1) B) ts)) → AreTooMany (add_all (chess d) qs (claimed (chess d) j B))
  set_large qs B j ts some members are h =
      let e : suc (j - 1) ≡ j = omega arith in
      subst (λ (i : ℕ). AreTooMany (add_all (chess d) qs (claimed (chess d) i B))) e
      (subst (λ (ps : List (List Pos × ℕ)). AreTooMany (add_all (chess d) qs ps)) (sym (claimed_step (chess d) (chess_is_game d) (j - 1) B members))
      (many_behind (chess d) (chess_is_game d) most_claims most_claimed qs (flat_map (behind_try (chess d) (j - 1) B) (tries (chess d) B)) ((B, suc (j - 1)) ∷ [])
      (subst (λ (xs : List Move). AreTooMany (add_all (chess d) qs (flat_map (behind_try (chess d) (j - 1) B) xs))) are h)))

  -- too many for one try are too many for all of them
  pub tries_large : (qs qs' : List (List Pos × ℕ)) (B : List Pos) (j : ℕ) (ts : List Move) (k : ℕ) (t : Move) → k < length ts → t ≡ get_or ts k t
      → qs' ≡ add_all (chess d) qs (flat_map (behind_try (chess d) j B) (take k ts))
      → AreTooMany (add_all (chess d) qs' (behind_try (chess d) j B t)) → AreTooMany (add_all (chess d) qs (flat_map (behind_try (chess d) j B) ts))
  tries_large qs qs' B j ts k t l e w h =
      let f : Move → List (List Pos × ℕ) = behind_try (chess d) j B in
      let rest : drop k ts ≡ t ∷ drop (k + 1) ts = drop_more ts k t l ∙ ap (λ y. y ∷ drop (k + 1) ts) (sym e) in
      let all : flat_map f ts ≡ (flat_map f (take k ts) ++ f t) ++ flat_map f (drop (k + 1) ts) =
      ap (flat_map f) (sym (take-append-drop k ts) ∙ ap (λ ys. take k ts ++ ys) rest) ∙ flat_map-append f (take k ts) (t ∷ drop (k + 1) ts) ∙ sym (append_assoc (flat_map f (take k ts)) (f t) (flat_map f (drop (k + 1) ts))) in
      subst (λ (ps : List (List Pos × ℕ)). AreTooMany (add_all (chess d) qs ps)) (sym all)
      (many_behind (chess d) (chess_is_game d) most_claims most_claimed qs (flat_map f (take k ts) ++ f t) (flat_map f (drop (k + 1) ts))
      (subst AreTooMany (ap (λ (R : List (List Pos × ℕ)). add_all (chess d) R (f t)) w ∙ sym (all_append (chess d) (chess_is_game d) qs (flat_map f (take k ts)) (f t))) h))

  -- a set whose claim is pushed behind those of its tries is claimed
  pub pushed : (T0 T1 : SetRows) (B B1 : List Pos) (j : ℕ) (w0 w1 w2 : ClaimList) (r : Result ℕ SearchStop) → B1 ≡ B → 0 < j → is_nil B ≡ false → can (chess d) j B ≡ false → (In (B, j) (pairs_in T0 w0.places.keys) → ⊥)
      → AddsSets T0 T1 → WalksTries (chess d) (pairs_in T0 w0.places.keys) (pairs_in T1 w1.places.keys) B (j - 1) (tries (chess d) B) → IsPushed d T1 B1 j w1 w2 r → Claims d r B j T0 T1 w0 w2
  pushed T0 T1 B B1 j w0 w1 w2 r is some members lost new sets walked p = go r (subst (λ (X : List Pos). IsPushed d T1 X j w1 w2 r) is p)
    where
      before : suc (j - 1) ≡ j
      before = omega arith

      walks : (place : ℕ) → place ≡ written.place_of (chess d) (pairs_in T1 w1.places.keys ++ (B, j) ∷ []) (B, j) → Walks (chess d) (pairs_in T0 w0.places.keys) (pairs_in T1 w1.places.keys ++ (B, j) ∷ []) B j place
      walks place e =
          subst (λ (i : ℕ). place ≡ written.place_of (chess d) (pairs_in T1 w1.places.keys ++ (B, i) ∷ []) (B, i) → Walks (chess d) (pairs_in T0 w0.places.keys) (pairs_in T1 w1.places.keys ++ (B, i) ∷ []) B i place) before
          (root_walks (chess d) (chess_is_game d) (pairs_in T0 w0.places.keys) (pairs_in T1 w1.places.keys) B (j - 1) members (subst (λ (i : ℕ). can (chess d) i B ≡ false) (sym before) lost)
          (subst (λ (i : ℕ). In (B, i) (pairs_in T0 w0.places.keys) → ⊥) (sym before) new) walked place) e

      go : (r : Result ℕ SearchStop) → IsPushed d T1 B j w1 w2 r → Claims d r B j T0 T1 w0 w2
      go (Ok place) q = (
        sets,
        q.0,
        subst (λ (R : List (List Pos × ℕ)). Walks (chess d) (pairs_in T0 w0.places.keys) R B j place) (sym q.1)
            (walks place (q.2 ∙ ap (λ (R : List (List Pos × ℕ)). written.place_of (chess d) R (B, j)) q.1)),
      )
      go (Err Spent) q = absurd q
      go (Err Large) q = subst AreTooMany (walks (written.place_of (chess d) (pairs_in T1 w1.places.keys ++ (B, j) ∷ []) (B, j)) refl).all q
      go (Err NoMemory) q = tt

  -- a set all of whose tries are walked may be claimed next
  pub next_is : (T1 : SetRows) (keys : List Question) (qs : List (List Pos × ℕ)) (B B1 : List Pos) (j : ℕ) (ts : List Move) (rs : List (Move × Reason Key)) → B1 ≡ B → 0 < j → is_nil B ≡ false → can (chess d) j B ≡ false → (In (B, j) qs → ⊥) → ts ≡ tries (chess d) B
      → WalksTries (chess d) qs (pairs_in T1 keys) B (j - 1) ts → rs ≡ map {B = Move × Reason Key} (λ t. (t, written.reason_at (chess d) (pairs_in T1 keys) j B t)) ts → IsNext d T1 keys B1 j rs
  next_is T1 keys qs B B1 j ts rs is some members lost new are w h = subst (λ (X : List Pos). IsNext d T1 keys X j rs) (sym is) (record {
    lost = record { some = members; number = some; lost = lost };
    fresh =
        subst (λ (i : ℕ). In (B, i) (pairs_in T1 keys) → ⊥) before
        (root_is_new (chess d) (chess_is_game d) qs (pairs_in T1 keys) B (j - 1) members (subst (λ (i : ℕ). can (chess d) i B ≡ false) (sym before) lost)
        (subst (λ (i : ℕ). In (B, i) qs → ⊥) (sym before) new) walked);
    blocks = λ t l. subst (λ (i : ℕ). IfSome (block_pair (chess d) i B t) (λ q. In q (pairs_in T1 keys))) before (walked.has t (legal_try (chess d) (chess_is_game d) B t l));
    reasons = h ∙ ap (map {B = Move × Reason Key} (λ t. (t, written.reason_at (chess d) (pairs_in T1 keys) j B t))) are;
  })
    where
      before : suc (j - 1) ≡ j
      before = omega arith

      walked : WalksTries (chess d) qs (pairs_in T1 keys) B (j - 1) (tries (chess d) B)
      walked = subst (WalksTries (chess d) qs (pairs_in T1 keys) B (j - 1)) are w
