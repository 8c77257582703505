-- Lists that are gathered over the squares of a set, taken one square after another.
use Rattle.std.proofs.Common.{◌≡◌, ℕ, zero, suc, ◌<◌, Bool, true, false, not, ◌&&◌, ◌==◌, cond, List, [], ◌++◌, ◌⊎◌, inl, inr, refl, sym, ◌∙◌, ap, arith, append-nil, append_assoc, ◌≢◌}
use Rattle.std.proofs.Math.Bool.{and-true}
use Rattle.std.proofs.lemmas.Bool.{eq-eqb, ne_eqb, and_right}
use Rattle.krieg_board.proofs.Common.{gathered, has, IsLowest}
use Rattle.krieg_board.proofs.SetLemmas.{has_zero}

pub gathered_same : {A : Type 0} (g h : ℕ → List A) (n : ℕ) → ((k : ℕ) → k < n → g k ≡ h k) → gathered g n ≡ gathered h n
gathered_same g h zero e = refl
gathered_same g h (suc n) e = λ i. gathered_same g h n (λ k l. e k (omega arith)) i ++ e n (omega arith) i

gathered_none : {A : Type 0} (g : ℕ → List A) (n : ℕ) → ((k : ℕ) → k < n → g k ≡ []) → gathered g n ≡ []
gathered_none g zero e = refl
gathered_none g (suc n) e = λ i. gathered_none g n (λ k l. e k (omega arith)) i ++ e n (omega arith) i

-- the first list that is not empty comes first
gathered_first : {A : Type 0} (g h : ℕ → List A) (t n : ℕ) → t < n → ((k : ℕ) → k < t → g k ≡ []) → h t ≡ [] → ((k : ℕ) → k < n → k ≢ t → g k ≡ h k) →
    gathered g n ≡ g t ++ gathered h n
gathered_first g h t zero l below here other = absurd (omega arith)
gathered_first g h t (suc n) l below here other =
    by_place (last_or_before t n l) (λ m. gathered_first g h t n m below here (λ k q. other k (omega arith)))
  where
    last_or_before : (t n : ℕ) → t < suc n → (t ≡ n) ⊎ (t < n)
    last_or_before t n l = grind arith

    apart : (k : ℕ) → k < t → k ≢ t
    apart k m = omega arith

    apart' : t < n → n ≢ t
    apart' m = omega arith

    by_place : (t ≡ n) ⊎ (t < n) → (t < n → gathered g n ≡ g t ++ gathered h n) → gathered g n ++ g n ≡ g t ++ (gathered h n ++ h n)
    by_place (inl e) earlier =
        (λ i. gathered_none g n (λ k m. below k (omega arith)) i ++ g (sym e i))
        ∙ sym (append-nil (g t))
        ∙ sym (λ i. g t ++ (gathered_none h n (λ k m. sym (other k (omega arith) (apart k (omega arith))) ∙ below k (omega arith)) i ++ (ap h (sym e) ∙ here) i))
    by_place (inr m) earlier = (λ i. earlier m i ++ other n (omega arith) (apart' m) i) ∙ append_assoc (g t) (gathered h n) (h n)

-- the list of a square of the set
abbrev only : {A : Type 0} → ℕ → (ℕ → List A) → ℕ → List A
only set g k = cond (has set k) (g k) []

-- the lists of the squares of a set, one after another
unfoldable pub picked : {A : Type 0} → ℕ → (ℕ → List A) → List A
picked set g = gathered (only set g) 64

pub picked_zero : {A : Type 0} (g : ℕ → List A) → picked 0 g ≡ []
unfolding picked
picked_zero g = gathered_none (only 0 g) 64 (λ k l. ap (λ t. cond t (g k) []) (has_zero k))

-- the list of the lowest square comes first
pub picked_step : {A : Type 0} (g : ℕ → List A) (set t rest : ℕ) → IsLowest set t → ((k : ℕ) → k < 64 → has rest k ≡ (has set k && not (k == t))) →
    picked set g ≡ g t ++ picked rest g
unfolding picked
picked_step g set t rest l others =
    gathered_first (only set g) (only rest g) t 64 l.below
    (λ k m. ap (λ x. cond x (g k) []) (l.first k m))
    (ap (λ x. cond x (g t) []) (others t l.below ∙ ap (λ x. has set t && not x) (eq-eqb t t refl) ∙ and_right (has set t) false refl))
    (λ k m p. ap (λ x. cond x (g k) []) (sym (others k m ∙ ap (λ x. has set k && not x) (ne_eqb k t p) ∙ and-true (has set k))))
    ∙ ap (λ xs. xs ++ gathered (only rest g) 64) (ap (λ x. cond x (g t) []) l.member)

-- what is not in the set has no list
pub picked_all : {A : Type 0} (g : ℕ → List A) (set : ℕ) → ((k : ℕ) → k < 64 → has set k ≡ false → g k ≡ []) → picked set g ≡ gathered g 64
unfolding picked
picked_all g set none = gathered_same (only set g) g 64 (λ k l. by_test (has set k) (g k) (none k l))
  where
    by_test : {A : Type 0} (t : Bool) (xs : List A) → (t ≡ false → xs ≡ []) → cond t xs [] ≡ xs
    by_test true xs e = refl
    by_test false xs e = sym (e refl)

-- a loop takes the lowest square of what is left, and adds its list
pub picked_taken : {A : Type 0} (g : ℕ → List A) (items new : List A) (set t rest : ℕ) → IsLowest set t →
    ((k : ℕ) → k < 64 → has rest k ≡ (has set k && not (k == t))) → new ≡ items ++ g t → new ++ picked rest g ≡ items ++ picked set g
picked_taken g items new set t rest l others e =
    ap (λ xs. xs ++ picked rest g) e ∙ append_assoc items (g t) (picked rest g) ∙ ap (λ xs. items ++ xs) (sym (picked_step g set t rest l others))

-- the loop ends with all of the lists
pub picked_ended : {A : Type 0} (g : ℕ → List A) (items start : List A) (rest set : ℕ) → rest ≡ 0 → items ++ picked rest g ≡ start ++ picked set g → items ≡ start ++ picked set g
picked_ended g items start rest set z e =
    sym (ap (λ n. items ++ picked n g) z ∙ ap (λ xs. items ++ xs) (picked_zero g) ∙ append-nil items) ∙ e
