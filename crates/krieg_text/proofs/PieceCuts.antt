-- Where a piece is cut off.
use Rattle.std.proofs.Common.{◌≡◌, ℕ, zero, suc, ◌+◌, ◌-◌, ◌<◌, Bool, true, false, cond, eqb, List, [], ◌∷◌, length, get_or, take, drop, refl, ap, arith, add-one}
use Rattle.std.proofs.lemmas.List.{take_rest}
use Rattle.std.specs.List.{onto_first}
use Rattle.krieg_text.proofs.Common.{pieces}

pieces_cut_at : (c : ℕ) (bs : List ℕ) (i : ℕ) → i < length bs → eqb (get_or bs i 0) c ≡ true → ((k : ℕ) → k < i → eqb (get_or bs k 0) c ≡ false) → pieces c bs ≡ take i bs ∷ pieces c (drop (suc i) bs)
pieces_cut_at c [] i lt at before = absurd (omega arith)
pieces_cut_at c (b ∷ bs) zero lt at before = rw at refl
pieces_cut_at c (b ∷ bs) (suc i) lt at before =
    let here : eqb b c ≡ false = before 0 (omega arith) in
    rw here (ap (onto_first b) (pieces_cut_at c bs i (omega arith) at (λ k h. before (suc k) (omega arith))))

pub pieces_cut : (c : ℕ) (bs : List ℕ) (i : ℕ) → i < length bs → eqb (get_or bs i 0) c ≡ true → ((k : ℕ) → k < i → eqb (get_or bs k 0) c ≡ false) → pieces c bs ≡ take i bs ∷ pieces c (take (length bs - (i + 1)) (drop (i + 1) bs))
pieces_cut c bs i lt at before = rw (take_rest, add-one) (pieces_cut_at c bs i lt at before)

pub pieces_whole : (c : ℕ) (bs : List ℕ) → ((k : ℕ) → k < length bs → eqb (get_or bs k 0) c ≡ false) → pieces c bs ≡ bs ∷ []
pieces_whole c [] none = refl
pieces_whole c (b ∷ bs) none =
    let here : eqb b c ≡ false = none 0 (omega arith) in
    rw here (ap (onto_first b) (pieces_whole c bs (λ k h. none (suc k) (omega arith))))

onto_some : (b : ℕ) (t : Bool) (ls : List (List ℕ)) → (r : List ℕ) × (rs : List (List ℕ)) × (cond t ([] ∷ ls) (onto_first b ls) ≡ r ∷ rs)
onto_some b true ls = ([], ls, refl)
onto_some b false [] = (b ∷ [], [], refl)
onto_some b false (l ∷ ls) = (b ∷ l, ls, refl)

-- there is at least one piece
pub pieces_some : (c : ℕ) (bs : List ℕ) → (r : List ℕ) × (rs : List (List ℕ)) × (pieces c bs ≡ r ∷ rs)
pieces_some c [] = ([], [], refl)
pieces_some c (b ∷ bs) = onto_some b (eqb b c) (pieces c bs)

pub ruleset cuts = (pieces_cut, pieces_whole)
