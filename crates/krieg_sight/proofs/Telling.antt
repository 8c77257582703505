-- What is told of positions is right, and stays so.
use Rattle.std.proofs.Common.{◌≡◌, ℕ, zero, suc, ◌≤◌, ◌<◌, true, false, not, ◌⊎◌, inl, inr, [], ◌∷◌, Option, Some, None, refl, sym, ap, subst, ◌∙◌, arith, eq-or-lt_of_le}
use Rattle.std.specs.Prelude.{Result, Ok, Err, OnOk, OnErr}
use Rattle.std.specs.Map.{lookup}
use Rattle.std.proofs.lemmas.Bool.{cases_Bool, cond-true, cond-false, both_ways, false_from_ne_true, not-true}
use Rattle.indexmap.specs.IndexMap.{insert_entry}
use Rattle.krieg_sight.proofs.Common.{Pos, Wild16, position_eq, equal_position, In, chess, after, moves, Told, leaves_none, mates_within, Memo, IsRight, AreRight}
use Rattle.krieg_theory.proofs.Lists.{any_at, any_from}
use Rattle.krieg_theory.proofs.Seen.{more_moves_see}
use Rattle.krieg_sight.proofs.Theorems.{sees_is}

-- a mate within some moves is one within more
more : (j : ℕ) (p : Pos) → mates_within j p ≡ true → mates_within (suc j) p ≡ true
more j p e = sym (sees_is Wild16 (suc j) p) ∙ more_moves_see (chess Wild16) p j (sees_is Wild16 j p ∙ e)

more_all : (i n : ℕ) (p : Pos) → mates_within i p ≡ true → i ≤ n → mates_within n p ≡ true
more_all i zero p e l = subst (λ k. mates_within k p ≡ true) (let z : i ≡ zero = omega arith in z) e
more_all i (suc n) p e l = go (eq-or-lt_of_le l) (λ h. more_all i n p e h)
  where
    go : (i ≡ suc n) ⊎ (i < suc n) → (i ≤ n → mates_within n p ≡ true) → mates_within (suc n) p ≡ true
    go (inl q) r = subst (λ k. mates_within k p ≡ true) q e
    go (inr h) r = more n p (r (omega arith))

-- so no mate within some is none within fewer
pub none_within : (i n : ℕ) (p : Pos) → mates_within n p ≡ false → i ≤ n → mates_within i p ≡ false
none_within i n p e l = false_from_ne_true _ (λ h. both_ways _ e (more_all i n p h l))

-- and where some move leaves no mate within some, one leaves none within fewer
pub fled_within : (i n : ℕ) (q : Pos) → leaves_none n q ≡ true → i ≤ n → leaves_none i q ≡ true
fled_within i n q e l =
    let m = any_at (λ r. not (mates_within n (after q r))) (moves q) e in
    any_from (λ r. not (mates_within i (after q r))) (moves q) m.0 m.1 (ap not (none_within i n (after q m.0) (not-true _ m.2) l))

-- what is found of a position is right
pub found_right : (p : Pos) (m : Memo) (told : Told) → AreRight m → lookup (λ (q : Pos). position_eq p q) m ≡ Some told → IsRight p told
found_right p [] told a e = absurd (let k : ◌≡◌ {A = Option Told} None (Some told) = e in cc)
found_right p (x ∷ m) told a e = go (cases_Bool (position_eq p x.0)) (found_right p m told (λ y i. a y (inr i)))
  where
    go : (position_eq p x.0 ≡ true) ⊎ (position_eq p x.0 ≡ false) → (lookup (λ (q : Pos). position_eq p q) m ≡ Some told → IsRight p told) → IsRight p told
    go (inl t) r =
        let is : x.1 ≡ told = (let k : Some x.1 ≡ Some told = sym (cond-true (position_eq p x.0) (Some x.1) (lookup (λ (q : Pos). position_eq p q) m) t) ∙ e in cc) in
        subst (λ (y : Told). IsRight p y) is (subst (λ (q : Pos). IsRight q x.1) (sym (equal_position p x.0 t)) (a x (inl refl)))
    go (inr t) r = r (sym (cond-false (position_eq p x.0) (Some x.1) (lookup (λ (q : Pos). position_eq p q) m) t) ∙ e)

-- what is kept is right
inserted_right : (p : Pos) (m : Memo) (told : Told) → AreRight m → IsRight p told → AreRight (insert_entry position_eq m p told)
inserted_right p [] told a r y (inl e) = subst (λ (z : Pos × Told). IsRight z.0 z.1) e r
inserted_right p [] told a r y (inr i) = absurd i
inserted_right p (x ∷ m) told a r y i = go (cases_Bool (position_eq p x.0)) (inserted_right p m told (λ z k. a z (inr k)) r y)
  where
    here : p ≡ x.0 → In y ((x.0, told) ∷ m) → IsRight y.0 y.1
    here e (inl k) = subst (λ (z : Pos × Told). IsRight z.0 z.1) k (subst (λ (q : Pos). IsRight q told) e r)
    here e (inr k) = a y (inr k)

    later : In y (x ∷ insert_entry position_eq m p told) → (In y (insert_entry position_eq m p told) → IsRight y.0 y.1) → IsRight y.0 y.1
    later (inl k) f = a y (inl k)
    later (inr k) f = f k

    go : (position_eq p x.0 ≡ true) ⊎ (position_eq p x.0 ≡ false) → (In y (insert_entry position_eq m p told) → IsRight y.0 y.1) → IsRight y.0 y.1
    go (inl t) f = here (equal_position p x.0 t) (subst (In y) (cond-true (position_eq p x.0) ((x.0, told) ∷ m) (x ∷ insert_entry position_eq m p told) t) i)
    go (inr t) f = later (subst (In y) (cond-false (position_eq p x.0) ((x.0, told) ∷ m) (x ∷ insert_entry position_eq m p told) t) i) f

pub kept_right : {A X : Type 0} (r : Result A X) (p : Pos) (old new : Memo) (told : Told) → OnOk r (new ≡ insert_entry position_eq old p told) → OnErr r (new ≡ old) → AreRight old → IsRight p told → AreRight new
kept_right (Ok x) p old new told ok err a r = subst AreRight (sym ok) (inserted_right p old told a r)
kept_right (Err x) p old new told ok err a r = subst AreRight (sym err) a
