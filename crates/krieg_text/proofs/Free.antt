-- Pieces and separators: a text whose bytes are all above the separator is one piece.
use Rattle.std.proofs.Common.{◌≡◌, ℕ, ◌<◌, ◌≤◌, eq-eqb, List, [], ◌∷◌, ◌++◌, refl, ap, arith}
use Rattle.std.proofs.lemmas.Bool.{ne_eqb}
use Rattle.std.specs.List.{onto_first}
use Rattle.krieg_text.proofs.Common.{pieces}

-- every byte is above n
abbrev pub Above : ℕ → List ℕ → Type 0
Above n [] = Unit {0}
Above n (b ∷ bs) = (n < b) × Above n bs

pub above_append : (n : ℕ) (xs ys : List ℕ) → Above n xs → Above n ys → Above n (xs ++ ys)
above_append n [] ys p q = q
above_append n (x ∷ xs) ys p q = (p.0, above_append n xs ys p.1 q)

pub above_less : (m n : ℕ) (xs : List ℕ) → m ≤ n → Above n xs → Above m xs
above_less m n [] le p = tt
above_less m n (x ∷ xs) le p = (let h : n < x = p.0 in omega arith, above_less m n xs le p.1)

-- the first piece ends at the separator
pub pieces_first : (c : ℕ) (part rest : List ℕ) → Above c part → pieces c (part ++ (c ∷ rest)) ≡ part ∷ pieces c rest
pieces_first c [] rest free = rw (eq-eqb c c refl) refl
pieces_first c (b ∷ part) rest free =
    let above : c < b = free.0 in
    rw (ne_eqb b c (λ e. absurd (omega arith))) (ap (onto_first b) (pieces_first c part rest free.1))

-- the last piece is the whole rest
pub pieces_last : (c : ℕ) (part : List ℕ) → Above c part → pieces c part ≡ part ∷ []
pieces_last c [] free = refl
pieces_last c (b ∷ part) free =
    let above : c < b = free.0 in
    rw (ne_eqb b c (λ e. absurd (omega arith))) (ap (onto_first b) (pieces_last c part free.1))
