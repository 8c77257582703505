-- A text that is read as a plan file has room in an input, however its positions are spelled.
use Rattle.std.proofs.Common.{◌≡◌, inl, inr, ℕ, zero, suc, ◌+◌, ◌-◌, ◌*◌, ◌<◌, ◌≤◌, Bool, true, false, List, [], ◌∷◌, ◌++◌, map, drop, replicate, length, Option, Some, None, Result, Ok, Err, refl, ap, arith, length-append, leb-true}
use Rattle.std.specs.Prelude.{◌==◌, ◌&&◌, codes, IfOk, nat_le, is_some, if◌then◌else◌}
use Rattle.std.specs.List.{join_with_byte, list_all}
use Rattle.std.specs.Char.{is_ascii_digit}
use Rattle.std.proofs.lemmas.Bool.{and_parts}
use Rattle.krieg_planfile.proofs.Common.{Board, Pos, Man, Side, lines, onto_line, Pieces, joined, Turn, is_clock, rank_at, side_text, rights_text, mark_text, man_of, SpellList, Row, squares_at, row_of, onto_row, SpellRanks, AreClocks, Spells, whole, Gives, TextFault, Dialect, PlanState, turn_in, plan_at, read_bound, IsVersion, claim_lines}
use Rattle.krieg_planfile.proofs.PlanSizes.{named_short, claim_short}
use Rattle.krieg_planfile.proofs.PlanSpellings.{whole_plan}
use Rattle.krieg_planfile.proofs.TextSizes.{dialect_short, side_line_short, taken_short, side_short, rights_short, mark_short, size}

-- ---- lines

-- the lines with their line feeds
abbrev bytes : List (List ℕ) → ℕ
bytes [] = 0
bytes (l ∷ ls) = length l + 1 + bytes ls

bytes_append : (xs ys : List (List ℕ)) → bytes (xs ++ ys) ≡ bytes xs + bytes ys
bytes_append [] ys = omega arith
bytes_append (x ∷ xs) ys = let more = bytes_append xs ys in omega (arith, more)

bytes_joined : (ls : List Pieces) → bytes (map joined ls) ≡ size ls
bytes_joined [] = refl
bytes_joined (l ∷ ls) = let more = bytes_joined ls in omega (arith, more)

text_within : (text : List ℕ) → length text ≤ bytes (lines text)
text_within [] = omega arith
text_within (b ∷ bs) = go (b == 10) (text_within bs)
  where
    onto : (ls : List (List ℕ)) → bytes ls + 1 ≤ bytes (onto_line b ls)
    onto [] = omega arith
    onto (l ∷ ls) = omega arith

    go : (ends : Bool) → length bs ≤ bytes (lines bs) → suc (length bs) ≤ bytes (if ends then ([] ∷ lines bs) else onto_line b (lines bs))
    go true more = omega (arith, more)
    go false more = omega (arith, more, onto (lines bs))

-- ---- positions

join_within : (c : ℕ) (ps : List (List ℕ)) → length (join_with_byte c ps) ≤ bytes ps
join_within c [] = omega arith
join_within c (p ∷ []) = omega arith
join_within c (p ∷ q ∷ ps) = let more = join_within c (q ∷ ps) in omega (arith, more, length-append p (c ∷ join_with_byte c (q ∷ ps)))

replicated : {A : Type 0} (n : ℕ) (x : A) → length (replicate n x) ≡ n
replicated zero x = refl
replicated (suc n) x = ap suc (replicated n x)

some_squares : (b : ℕ) (row : Row) → squares_at b ≡ Some row → 1 ≤ length row
some_squares b row e = go (nat_le 49 b && nat_le b 56) (is_some (man_of b)) refl e
  where
    go : (digit man : Bool) → (nat_le 49 b && nat_le b 56) ≡ digit → (if digit then Some (replicate (b - 48) None) else (if man then Some (man_of b ∷ []) else None)) ≡ Some row → 1 ≤ length row
    go true man d h =
        let above = leb-true 49 b (and_parts (nat_le 49 b) (nat_le b 56) d).0 in
        let is : replicate (b - 48) None ≡ row = cc in
        let nothing : Option Man = None in
        omega (arith, above, ap length is, replicated (b - 48) nothing)
    go false true d h = let is : man_of b ∷ [] ≡ row = cc in omega (arith, ap length is)
    go false false d h = absurd cc

row_within : (text : List ℕ) (row : Row) → row_of text ≡ Some row → length text ≤ length row
row_within [] row e = omega arith
row_within (b ∷ bs) row e = go (squares_at b) (row_of bs) refl (row_within bs) e
  where
    go : (front rest : Option Row) → squares_at b ≡ front → ((y : Row) → rest ≡ Some y → length bs ≤ length y) → onto_row front rest ≡ Some row → suc (length bs) ≤ length row
    go (Some x) (Some y) p more h = let all : x ++ y ≡ row = cc in omega (arith, some_squares b x p, more y refl, ap length all, length-append x y)
    go (Some x) None p more h = absurd cc
    go None rest p more h = absurd cc

ranks_within : (rs : List (List ℕ)) (n : ℕ) (board : Board) → SpellRanks rs n board → bytes rs ≤ 9 * n
ranks_within [] zero board s = omega arith
ranks_within [] (suc n) board s = absurd s
ranks_within (r ∷ rs) zero board s = absurd s
ranks_within (r ∷ rs) (suc n) board s =
    let row = row_within r (rank_at board n) s.0 in
    let few = taken_short 8 (drop (8 * n) board) in
    let more = ranks_within rs n board s.1 in
    omega (arith, row, few, more)

clock_within : (text : List ℕ) → is_clock text ≡ true → length text ≤ 10
clock_within text e = leb-true (length text) 10 (and_parts (nat_le 1 (length text)) _ (and_parts (list_all is_ascii_digit text) _ e).1).1

clocks_within : (cs : List (List ℕ)) → AreClocks cs → bytes cs ≤ 22
clocks_within [] s = omega arith
clocks_within (a ∷ []) s = absurd s
clocks_within (a ∷ b ∷ []) s = let one = clock_within a s.0 in let two = clock_within b s.1 in omega (arith, one, two)
clocks_within (a ∷ b ∷ c ∷ cs) s = absurd s

position_within : (l : List ℕ) (p : Pos) → Spells l p → length l ≤ 105
position_within l p s =
    let fields : List (List ℕ) = s.board ∷ side_text p.side ∷ rights_text p.rights ∷ mark_text p.mark ∷ s.clocks in
    let all = join_within 32 fields in
    let ranks = join_within 47 s.is_board.ranks in
    let board = ranks_within s.is_board.ranks 8 p.board s.is_board.spelled in
    let side = side_short p.side in
    let rights = rights_short p.rights in
    let mark = mark_short p.mark in
    let clocks = clocks_within s.clocks s.are_clocks in
    omega (arith, ap length s.joined, all, ap length s.is_board.joined, ranks, board, side, rights, mark, clocks)

listed_within : (turn : Turn) (who : Side) (first : Option Pos) (ls : List (List ℕ)) (ps : List Pos) → SpellList turn who first ls ps → bytes ls ≤ 106 * length ps
listed_within turn who first [] [] s = omega arith
listed_within turn who first [] (p ∷ ps) s = absurd s
listed_within turn who first (l ∷ ls) [] s = absurd s
listed_within turn who first (l ∷ ls) (p ∷ ps) s = let one = position_within l p s.0 in let more = listed_within turn who _ ls ps s.2 in omega (arith, one, more)

-- ---- the file

version_within : (version : ℕ) (d : Dialect) (ls : List (List ℕ)) → IsVersion version d ls → bytes ls ≤ 28
version_within version d ls (inl s) = omega (arith, ap bytes s.2)
version_within version d ls (inr s) = omega (arith, ap bytes s.1, dialect_short d)

-- the text of a plan file that is read
pub read_within : (text : List ℕ) (s : PlanState) → whole plan_at (lines text) ≡ Ok s → length text < read_bound
read_within text s read =
    let is = whole_plan (lines text) s read in
    let a = is.0.1 in
    let b = a.second in
    let listing = b.first in
    let listed : length s.list ≤ 200000 = listing.few in
    omega (
      arith,
      listed,
      text_within text,
      ap bytes a.is,
      bytes_append a.front a.back,
      version_within is.0.0 s.dialect a.front a.first,
      ap bytes b.is,
      bytes_append b.front b.back,
      ap bytes listing.is,
      side_line_short s.side,
      named_short (codes "list ") (length s.list) listed,
      listed_within (turn_in is.0.0) s.side None listing.positions s.list listing.spelled,
      ap bytes b.second,
      bytes_joined (claim_lines s),
      claim_short s is.1.written,
    )

pub read_fits : {X : Type 0} (view : X → PlanState) (answer : Result X TextFault) (text : List ℕ) → Gives view answer (whole plan_at (lines text)) → IfOk answer (λ x. length text < read_bound)
read_fits view (Ok x) text given = read_within text (view x) given
read_fits view (Err e) text given = tt
