-- Writing nodes, edges and roots one after another.
use Rattle.std.proofs.Common.{◌≡◌, ℕ, zero, suc, ◌+◌, ◌<◌, List, [], ◌∷◌, ◌++◌, map, take, length, get_or, Some, Result, Ok, Err, sym, ap, subst, ◌∙◌, append_assoc, arith}
use Rattle.std.specs.Prelude.{slice_get}
use Rattle.std.specs.List.{All, flat_map}
use Rattle.std.proofs.lemmas.List.{append-nil}
use Rattle.std.proofs.lemmas.List.Elements.{All-head, All-tail}
use Rattle.krieg_strategyfile.proofs.Common.{HasLines, Pieces, PutsLines, Written, put_lines}
use Rattle.krieg_text.proofs.Writings.{lines_then}

-- lines and then more lines
pub puts_then : {E : Type 0} (r : Result (Unit {0}) E) (old mid new : Written) (xs ys : List Pieces) → HasLines old mid xs → PutsLines r mid new ys → PutsLines r old new (xs ++ ys)
puts_then (Ok u) old mid new xs ys a b = (b.0 ∙ a.0, b.1 ∙ ap (λ (t : List ℕ). put_lines t ys) a.1 ∙ sym (lines_then old.written xs ys))
puts_then (Err e) old mid new xs ys a b = (b.0 ∙ a.0, tt)

-- the same in a loop
pub has_then : (old mid new : Written) (xs ys : List Pieces) → HasLines old mid xs → HasLines mid new ys → HasLines old new (xs ++ ys)
has_then old mid new xs ys a b = (b.0 ∙ a.0, b.1 ∙ ap (λ (t : List ℕ). put_lines t ys) a.1 ∙ sym (lines_then old.written xs ys))

-- what holds of all that is made of a list holds of what is made of one of it
pub made_at : {A B : Type 0} (P : B → Type 0) (f : A → B) (xs : List A) (i : ℕ) (x : A) → i < length xs → get_or xs i x ≡ x → All P (map f xs) → P (f x)
made_at P f [] i x lt is all = absurd (omega (arith, lt))
made_at P f (y ∷ xs) zero x lt is all = subst (λ z. P (f z)) is (All-head P (f y) (map f xs) all)
made_at P f (y ∷ xs) (suc i) x lt is all = made_at P f xs i x (omega (arith, lt)) is (All-tail P (f y) (map f xs) all)

-- the lines of one more
pub one_more : {A B : Type 0} (f : A → List B) (xs : List A) (i : ℕ) (x : A) → slice_get xs i ≡ Some x → flat_map f (take (i + 1) xs) ≡ flat_map f (take i xs) ++ f x
one_more f [] i x at = absurd cc
one_more f (y ∷ xs) zero x at = let same : y ≡ x = cc in append-nil (f y) ∙ ap f same
one_more f (y ∷ xs) (suc i) x at =
    let next : suc i + 1 ≡ suc (i + 1) = omega arith in
    ap (λ (k : ℕ). flat_map f (take k (y ∷ xs))) next ∙ ap (λ (t : List _). f y ++ t) (one_more f xs i x at) ∙ sym (append_assoc (f y) (flat_map f (take i xs)) (f x))
