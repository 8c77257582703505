-- A text that is cut behind a line feed has the lines of its parts.
use Rattle.std.proofs.Common.{eqb-true, ◌≡◌, ◌≢◌, ◌⊎◌, ℕ, zero, suc, ◌+◌, ◌-◌, ◌<◌, ◌≤◌, Bool, true, false, cond, eqb, List, [], ◌∷◌, ◌++◌, length, get_or, take, drop, Vec, refl, sym, ap, ◌∙◌, append_assoc, arith, add-one, length-take, length-drop, length-append}
use Rattle.std.proofs.lemmas.List.{append-nil, drop-drop, take_rest, take_all, drop_all}
use Rattle.std.specs.declared.alloc.Global.{Global}
use Rattle.krieg_text.proofs.Common.{lines, onto_line, place, lines_back, HaveBytes, behind_line}
use Rattle.krieg_text.proofs.LineCuts.{lines_cut, lines_whole, left_lines}

-- ---- two parts of a text

onto_append : (b : ℕ) (ls more : List (List ℕ)) → 0 < length ls → onto_line b (ls ++ more) ≡ onto_line b ls ++ more
onto_append b [] more some = absurd (omega arith)
onto_append b (l ∷ ls) more some = refl

-- a text of some bytes has some line
pub have_lines : (bs : List ℕ) → 0 < length bs → 0 < length (lines bs)
have_lines bs some = go (lines bs) refl
  where
    go : (ls : List (List ℕ)) → lines bs ≡ ls → 0 < length ls
    go [] is = let none : length bs ≡ 0 = eqb-true (length bs) 0 ((left_lines bs).1 is) in absurd (omega arith)
    go (l ∷ ls) is = omega arith

parts_at : (bs : List ℕ) (i : ℕ) → i < length bs → get_or bs i 0 ≡ 10 → lines bs ≡ lines (take (suc i) bs) ++ lines (drop (suc i) bs)
parts_at [] i lt feed = absurd (omega arith)
parts_at (b ∷ bs) zero lt feed = let e : b ≡ 10 = feed in rw e refl
parts_at (b ∷ bs) (suc i) lt feed = go (parts_at bs i (omega arith) feed) (eqb b 10)
  where
    some : 0 < length (lines (take (suc i) bs))
    some = have_lines (take (suc i) bs) (omega (arith, length-take (suc i) bs))

    go : lines bs ≡ lines (take (suc i) bs) ++ lines (drop (suc i) bs) → (t : Bool)
        → cond t ([] ∷ lines bs) (onto_line b (lines bs)) ≡ cond t ([] ∷ lines (take (suc i) bs)) (onto_line b (lines (take (suc i) bs))) ++ lines (drop (suc i) bs)
    go is true = ap (λ (t : List (List ℕ)). [] ∷ t) is
    go is false = ap (onto_line b) is ∙ onto_append b (lines (take (suc i) bs)) (lines (drop (suc i) bs)) some

-- a text that is cut behind a line feed
pub lines_parts : (bs : List ℕ) (i : ℕ) → i < length bs → get_or bs i 0 ≡ 10 → lines bs ≡ lines (take (i + 1) bs) ++ lines (drop (i + 1) bs)
lines_parts bs i lt feed = rw add-one (parts_at bs i lt feed)

-- ---- the first line

first_at : (bs : List ℕ) (i : ℕ) → i < length bs → eqb (get_or bs i 0) 10 ≡ true → ((k : ℕ) → k < i → eqb (get_or bs k 0) 10 ≡ false) → lines (take (suc i) bs) ≡ take i bs ∷ []
first_at [] i lt at before = absurd (omega arith)
first_at (b ∷ bs) zero lt at before = rw at refl
first_at (b ∷ bs) (suc i) lt at before =
    let here : eqb b 10 ≡ false = before 0 (omega arith) in
    rw here (ap (onto_line b) (first_at bs i (omega arith) at (λ k h. before (suc k) (omega arith))))

pub first_is : (bs : List ℕ) (i : ℕ) → i < length bs → eqb (get_or bs i 0) 10 ≡ true → ((k : ℕ) → k < i → eqb (get_or bs k 0) 10 ≡ false) → lines (take (i + 1) bs) ≡ take 1 (lines bs)
first_is bs i lt at before = rw add-one (first_at bs i lt at before) ∙ ap (take 1) (sym (lines_cut bs i lt at before))

pub rest_is : (bs : List ℕ) (i : ℕ) → i < length bs → eqb (get_or bs i 0) 10 ≡ true → ((k : ℕ) → k < i → eqb (get_or bs k 0) 10 ≡ false) → lines (drop (i + 1) bs) ≡ drop 1 (lines bs)
rest_is bs i lt at before = sym (ap (drop 1) (lines_cut bs i lt at before) ∙ ap lines (take_rest bs (i + 1)))

pub first_whole : (bs : List ℕ) → ((k : ℕ) → k < length bs → eqb (get_or bs k 0) 10 ≡ false) → lines (take (length bs) bs) ≡ take 1 (lines bs)
first_whole [] none = refl
first_whole (b ∷ bs) none = ap lines (take_all (length (b ∷ bs)) (b ∷ bs) (omega arith)) ∙ whole ∙ ap (take 1) (sym whole)
  where
    whole : lines (b ∷ bs) ≡ (b ∷ bs) ∷ []
    whole = lines_whole (b ∷ bs) (omega arith) none

pub rest_whole : (bs : List ℕ) → ((k : ℕ) → k < length bs → eqb (get_or bs k 0) 10 ≡ false) → lines (drop (length bs) bs) ≡ drop 1 (lines bs)
rest_whole [] none = refl
rest_whole (b ∷ bs) none = ap lines (drop_all (length (b ∷ bs)) (b ∷ bs) (omega arith)) ∙ ap (drop 1) (sym (lines_whole (b ∷ bs) (omega arith) none))

pub ruleset firsts = (first_is, rest_is, first_whole, rest_whole)

pub ruleset begins = (take_rest, drop-drop)

-- ---- a line of a text in pieces

pub take_front : (xs ys : List (List ℕ)) → 0 < length xs → take 1 (xs ++ ys) ≡ take 1 xs
take_front [] ys some = absurd (omega arith)
take_front (x ∷ xs) ys some = refl

drop_front : (xs ys : List (List ℕ)) → 0 < length xs → drop 1 (xs ++ ys) ≡ drop 1 xs ++ ys
drop_front [] ys some = absurd (omega arith)
drop_front (x ∷ xs) ys some = refl

-- a piece that stands first is the last of the list
pub back_last : (pieces : List (Vec ℕ Global)) (piece : Vec ℕ Global) → lines_back (pieces ++ piece ∷ []) ≡ lines piece.items ++ lines_back pieces
back_last [] piece = sym (append-nil (lines piece.items))
back_last (p ∷ pieces) piece = ap (λ (t : List (List ℕ)). t ++ lines p.items) (back_last pieces piece) ∙ append_assoc (lines piece.items) (lines_back pieces) (lines p.items)

pub bytes_last : (pieces : List (Vec ℕ Global)) (piece : Vec ℕ Global) → HaveBytes (pieces ++ piece ∷ []) → HaveBytes pieces × (0 < length piece.items)
bytes_last [] piece have = (tt, have.0)
bytes_last (p ∷ pieces) piece have = let more = bytes_last pieces piece have.1 in ((have.0, more.0), more.1)

pub bytes_more : (pieces : List (Vec ℕ Global)) (piece : Vec ℕ Global) → HaveBytes pieces → 0 < length piece.items → HaveBytes (pieces ++ piece ∷ [])
bytes_more [] piece have some = (some, tt)
bytes_more (p ∷ pieces) piece have some = (have.0, bytes_more pieces piece have.1 some)

-- the next of the lines ls, after which more lines stand
module _ (n : ℕ) (ls rest more : List (List ℕ)) (some : 0 < length ls) (is : rest ≡ drop 1 ls) where
  one : length (take 1 (ls ++ more)) ≡ 1
  one = omega (arith, some, length-take 1 (ls ++ more), length-append ls more)

  left : rest ++ more ≡ drop 1 (ls ++ more)
  left = ap (λ (t : List (List ℕ)). t ++ more) is ∙ sym (drop_front ls more some)

  pub behind : place (n + 1) (rest ++ more) ≡ behind_line (place n (ls ++ more))
  behind = ap (λ (m : ℕ). place (n + m) (rest ++ more)) (sym one) ∙ ap (place (n + length (take 1 (ls ++ more)))) left

  pub behind_number : n + 1 + length (rest ++ more) ≡ n + length (ls ++ more)
  behind_number = omega (arith, some, ap length left, length-drop 1 (ls ++ more), length-append ls more)

pub left_some : (bs : List ℕ) (more : List (List ℕ)) → 0 < length bs → lines bs ++ more ≢ []
left_some bs more some e = let have = have_lines bs some in absurd (omega (arith, have, ap length e, length-append (lines bs) more))
