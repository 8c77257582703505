-- A text that is written piece by piece is the written text of its lines.
use Rattle.std.proofs.Common.{◌≡◌, ℕ, ◌≤◌, List, [], ◌∷◌, ◌++◌, length, take, map, refl, sym, ap, ◌∙◌, append_assoc}
use Rattle.std.proofs.lemmas.List.{append-nil, take_all}
use Rattle.std.proofs.lemmas.Grind.{take_at_read}
use Rattle.krieg_text.proofs.Common.{ended_line, with_ends, Pieces, put, put_lines, joined, alone}

pub put_is : (old : List ℕ) (ps : Pieces) → put old ps ≡ old ++ joined ps
put_is old [] = sym (append-nil old)
put_is old (p ∷ []) = refl
put_is old (p ∷ q ∷ ps) = put_is (old ++ p) (q ∷ ps) ∙ append_assoc old p (joined (q ∷ ps))

pub put_lines_is : (old : List ℕ) (ls : List Pieces) → put_lines old ls ≡ old ++ with_ends (map joined ls)
put_lines_is old [] = sym (append-nil old)
put_lines_is old (l ∷ ls) =
    ap (λ (t : List ℕ). put_lines (t ++ (10 ∷ [])) ls) (put_is old l)
    ∙ put_lines_is ((old ++ joined l) ++ (10 ∷ [])) ls
    ∙ ap (λ (t : List ℕ). t ++ with_ends (map joined ls)) (append_assoc old (joined l) (10 ∷ []))
    ∙ append_assoc old (ended_line (joined l)) (with_ends (map joined ls))

-- the text of the lines, after the old text
pub lines_after : (old : List ℕ) (ls : List Pieces) → put_lines old ls ≡ old ++ put_lines [] ls
lines_after old ls = put_lines_is old ls ∙ ap (λ (t : List ℕ). old ++ t) (sym (put_lines_is [] ls))

-- lines of one piece
pub joined_alone : (ls : List (List ℕ)) (more : List Pieces) → map joined (map alone ls ++ more) ≡ ls ++ map joined more
joined_alone [] more = refl
joined_alone (l ∷ ls) more = ap (λ (t : List (List ℕ)). l ∷ t) (joined_alone ls more)

-- the same where each line is made of a thing
pub joined_each : {A : Type 0} (f : A → List ℕ) (xs : List A) (more : List Pieces) → map joined (map (λ x. alone (f x)) xs ++ more) ≡ map f xs ++ map joined more
joined_each f [] more = refl
joined_each f (x ∷ xs) more = ap (λ (t : List (List ℕ)). f x ∷ t) (joined_each f xs more)

pub put_alone : (old : List ℕ) (ls : List (List ℕ)) → put_lines old (map alone ls) ≡ old ++ with_ends ls
put_alone old [] = sym (append-nil old)
put_alone old (l ∷ ls) =
    put_alone ((old ++ l) ++ (10 ∷ [])) ls
    ∙ ap (λ (t : List ℕ). t ++ with_ends ls) (append_assoc old l (10 ∷ []))
    ∙ append_assoc old (ended_line l) (with_ends ls)

-- lines, and more lines
pub lines_then : (old : List ℕ) (xs ys : List Pieces) → put_lines old (xs ++ ys) ≡ put_lines (put_lines old xs) ys
lines_then old [] ys = refl
lines_then old (x ∷ xs) ys = lines_then (put old x ++ (10 ∷ [])) xs ys

pub map_last : {A B : Type 0} (f : A → B) (xs : List A) (x : A) → map f (xs ++ x ∷ []) ≡ map f xs ++ (f x ∷ [])
map_last f [] x = refl
map_last f (y ∷ xs) x = ap (λ (t : List _). f y ∷ t) (map_last f xs x)

pub all_taken : {A : Type 0} (xs : List A) (i : ℕ) → length xs ≤ i → take i xs ≡ xs
all_taken xs i past = take_all i xs past

pub ruleset writings = (lines_then, all_taken, map_last, take_at_read)
