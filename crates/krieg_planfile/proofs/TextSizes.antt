-- How many bytes positions, words, moves and numbers take, and a text of many lines.
use Rattle.std.proofs.Common.{◌≡◌, ℕ, zero, suc, ◌+◌, ◌*◌, ◌<◌, ◌≤◌, ◌^◌, lit≤, Bool, true, false, cond, List, [], ◌∷◌, ◌++◌, map, take, drop, length, Option, Some, None, refl, ap, ◌∙◌, arith, length-append}
use Rattle.std.specs.Prelude.{codes}
use Rattle.std.proofs.lemmas.Fmt.{length-decimal-le}
use Rattle.krieg_planfile.proofs.Common.{Board, Pos, Move, Promo, Queen, Rook, Bishop, Knight, Rights, Side, White, Black, number_text, ended_line, with_ends, put_lines, Pieces, joined, run, row_text, rank_text, rank_at, ranks_text, board_text, side_text, held_text, or_dash, rights_text, mark_text, state_text, position_text, side_line, letter, position_line, square_text, promo_text, move_text, Row, dialect_rules, Part, text_if, texts, joined_by, dialect_line, Said, took_text, kind_names, checks_text, tries_text, end_text, words_parts, spelled, words_text, ChecksTold, ByKind, Bare, Dialect, Wild16, Anytry, MenTold, Apart, Alike, TriesTold, Number, Untold, End, Goes, Mate, Stalemate, Took, Pawn, Piece}
use Rattle.krieg_board.specs.declared.men.Promo.TheVariants.{Plain}
use Rattle.krieg_text.proofs.Writings.{put_lines_is}
use Rattle.krieg_words.specs.declared.dialects.Dialect.TheVariants.{Plain as PlainDialect}
use Rattle.krieg_words.specs.declared.dialects.TriesTold.TheVariants.{Any}
use Rattle.krieg_words.specs.declared.words.Took.TheVariants.{Nothing}

pub append_short : (a b : List ℕ) (m n : ℕ) → length a ≤ m → length b ≤ n → length (a ++ b) ≤ m + n
append_short a b m n p q = omega (arith, p, q, length-append a b)

-- ---- positions

row_short : (n : ℕ) (row : Row) → length (row_text n row) ≤ length row + length (run n)
row_short n [] = omega arith
row_short zero (None ∷ row) = let more = row_short 1 row in omega (arith, more)
row_short (suc n) (None ∷ row) = let more = row_short (suc (suc n)) row in omega (arith, more)
row_short n (Some man ∷ row) = let more = row_short 0 row in omega (arith, more, length-append (run n) (letter man.side man.kind ∷ row_text 0 row))

pub taken_short : {A : Type 0} (n : ℕ) (xs : List A) → length (take n xs) ≤ n
taken_short zero xs = omega arith
taken_short (suc n) [] = omega arith
taken_short (suc n) (x ∷ xs) = let more = taken_short n xs in omega (arith, more)

rank_short : (board : Board) (n : ℕ) → length (rank_text (rank_at board n)) ≤ 8
rank_short board n = let row = row_short 0 (rank_at board n) in let few = taken_short 8 (drop (8 * n) board) in omega (arith, row, few)

ranks_short : (board : Board) (n : ℕ) → length (ranks_text n board) ≤ 9 * n
ranks_short board zero = omega arith
ranks_short board (suc zero) = let one = rank_short board 0 in omega (arith, one)
ranks_short board (suc (suc n)) =
    let one = rank_short board (suc n) in
    let more = ranks_short board (suc n) in
    omega (arith, one, more, length-append (rank_text (rank_at board (suc n))) (47 ∷ ranks_text (suc n) board))

one_if : (b : Bool) (x : ℕ) → length (cond b (x ∷ []) []) ≤ 1
one_if true x = omega arith
one_if false x = omega arith

dash_short : (text : List ℕ) → length text ≤ 4 → length (or_dash text) ≤ 4
dash_short [] few = omega arith
dash_short (b ∷ bs) few = few

pub rights_short : (r : Rights) → length (rights_text r) ≤ 4
unfolding rights_text
rights_short r =
    dash_short (held_text r)
    (append_short (cond r.white_short (75 ∷ []) []) _ 1 3 (one_if r.white_short 75)
    (append_short (cond r.white_long (81 ∷ []) []) _ 1 2 (one_if r.white_long 81) (append_short (cond r.black_short (107 ∷ []) []) (cond r.black_long (113 ∷ []) []) 1 1 (one_if r.black_short 107) (one_if r.black_long 113))))

pub side_short : (who : Side) → length (side_text who) ≤ 1
side_short White = omega arith
side_short Black = omega arith

pub mark_short : (mark : Option ℕ) → length (mark_text mark) ≤ 2
mark_short None = omega arith
mark_short (Some s) = omega arith

position_short : (p : Pos) → length (position_text p) ≤ 82
unfolding position_text board_text state_text
position_short p =
    append_short (ranks_text 8 p.board) (32 ∷ (side_text p.side ++ (32 ∷ (rights_text p.rights ++ (32 ∷ mark_text p.mark))))) 72 10 (ranks_short p.board 8)
    (append_short (32 ∷ []) _ 1 9 (omega arith) (append_short (side_text p.side) _ 1 8 (side_short p.side)
    (append_short (32 ∷ []) _ 1 7 (omega arith) (append_short (rights_text p.rights) _ 4 3 (rights_short p.rights) (append_short (32 ∷ []) (mark_text p.mark) 1 2 (omega arith) (mark_short p.mark))))))

-- ---- words

-- the texts, and a separator for each
abbrev bytes : List ℕ → List (List ℕ) → ℕ
bytes separator [] = 0
bytes separator (p ∷ ps) = length p + length separator + bytes separator ps

joined_short : (separator : List ℕ) (ps : List (List ℕ)) → length (joined_by separator ps) ≤ bytes separator ps
joined_short s [] = omega arith
joined_short s (p ∷ []) = omega arith
joined_short s (p ∷ q ∷ ps) = let more = joined_short s (q ∷ ps) in omega (arith, more, length-append p (s ++ joined_by s (q ∷ ps)), length-append s (joined_by s (q ∷ ps)))

-- the same of parts, whether they are there or not
abbrev part_bytes : List ℕ → List Part → ℕ
part_bytes separator [] = 0
part_bytes separator (p ∷ ps) = length p.1 + length separator + part_bytes separator ps

texts_short : (separator : List ℕ) (ps : List Part) → bytes separator (texts ps) ≤ part_bytes separator ps
texts_short s [] = omega arith
texts_short s (p ∷ ps) = go p.0 (texts_short s ps)
  where
    go : (there : Bool) → bytes s (texts ps) ≤ part_bytes s ps → bytes s (text_if there p.1 ++ texts ps) ≤ length p.1 + length s + part_bytes s ps
    go true more = omega (arith, more)
    go false more = omega (arith, more)

checks_short : (checks : ChecksTold) (w : Said) → length (checks_text checks w.checks) ≤ 34
checks_short Bare w = lit≤ tt
checks_short ByKind w =
    let k = w.checks in
    let names = joined_short (codes "+") (kind_names k) in
    let few = texts_short (codes "+") ((k.file, codes "file") ∷ (k.rank, codes "rank") ∷ (k.long, codes "long") ∷ (k.short, codes "short") ∷ (k.knight, codes "knight") ∷ []) in
    append_short (codes "check ") (joined_by (codes "+") (kind_names k)) 6 28 (lit≤ tt) (omega (arith, names, few))

took_short : (men : MenTold) (t : Took) → length (took_text men t) ≤ 8
took_short men Nothing = omega arith
took_short Apart (Pawn s) = lit≤ tt
took_short Alike (Pawn s) = lit≤ tt
took_short Apart (Piece s) = lit≤ tt
took_short Alike (Piece s) = lit≤ tt

tries_short : (tries : TriesTold) (n : ℕ) → n ≤ 16 → length (tries_text tries n) ≤ 10
tries_short Number n few = let digits = length-decimal-le 2 n (omega arith) (omega arith) (omega arith) in append_short (codes "tries ") (number_text n) 6 4 (lit≤ tt) (omega (arith, digits))
tries_short Any n few = lit≤ tt
tries_short Untold n few = omega arith

end_short : (e : End) → length (end_text e) ≤ 9
end_short Goes = omega arith
end_short Mate = lit≤ tt
end_short Stalemate = lit≤ tt

spelled_short : (ps : List (List ℕ)) (n : ℕ) → 6 ≤ n → length (joined_by (codes ", ") ps) ≤ n → length (spelled ps) ≤ n
spelled_short [] n some few = omega (arith, some)
spelled_short (p ∷ ps) n some few = few

pub words_short : (d : Dialect) (w : Said) → w.tries ≤ 16 → length (words_text d w) ≤ 69
unfolding words_text
words_short d w few =
    let rules = dialect_rules d in
    let all = joined_short (codes ", ") (texts (words_parts d w)) in
    let parts = texts_short (codes ", ") (words_parts d w) in
    let took = took_short rules.men w.took in
    let checks = checks_short rules.checks w in
    let tries = tries_short rules.tries w.tries few in
    let end = end_short w.end in
    spelled_short (texts (words_parts d w)) 69 (omega arith) (omega (arith, all, parts, took, checks, tries, end))

-- ---- numbers, moves and the lines before a list

pub number_short : (k n : ℕ) → 0 < k → n < 10 ^ k → n ≤ 200000 → length (number_text n) ≤ k
number_short k n some few small = length-decimal-le k n some few (omega (arith, small))

promo_short : (p : Promo) → length (promo_text p) ≤ 1
promo_short Plain = omega arith
promo_short Queen = omega arith
promo_short Rook = omega arith
promo_short Bishop = omega arith
promo_short Knight = omega arith

pub move_short : (m : Move) → length (move_text m) ≤ 5
unfolding move_text
move_short m = append_short (square_text m.from) (square_text m.to ++ promo_text m.promo) 2 3 (omega arith) (append_short (square_text m.to) (promo_text m.promo) 2 1 (omega arith) (promo_short m.promo))

pub dialect_short : (d : Dialect) → length (dialect_line d) ≤ 14
dialect_short Wild16 = lit≤ tt
dialect_short Anytry = lit≤ tt
dialect_short PlainDialect = lit≤ tt

pub side_line_short : (who : Side) → length (side_line who) ≤ 6
side_line_short White = lit≤ tt
side_line_short Black = lit≤ tt

-- ---- texts of many lines

-- the lines with their line feeds
abbrev pub size : List Pieces → ℕ
size [] = 0
size (l ∷ ls) = length (joined l) + 1 + size ls

size_is : (ls : List Pieces) → length (with_ends (map joined ls)) ≡ size ls
size_is [] = refl
size_is (l ∷ ls) = let more = size_is ls in omega (arith, more, length-append (ended_line (joined l)) (with_ends (map joined ls)), length-append (joined l) (10 ∷ []))

pub size_append : (xs ys : List Pieces) → size (xs ++ ys) ≡ size xs + size ys
size_append [] ys = omega arith
size_append (x ∷ xs) ys = let more = size_append xs ys in omega (arith, more)

pub positions_short : (ps : List Pos) → size (map position_line ps) ≤ 83 * length ps
positions_short [] = omega arith
positions_short (p ∷ ps) = let one = position_short p in let more = positions_short ps in omega (arith, one, more)

-- the bytes of a text that is written line by line
pub text_size : (ls : List Pieces) → length (put_lines [] ls) ≡ size ls
text_size ls = ap length (put_lines_is [] ls) ∙ size_is ls
