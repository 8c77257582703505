-- Reading a rank and a board.
use Rattle.std.proofs.Common.{◌≡◌, ◌≢◌, ℕ, zero, suc, ◌+◌, ◌-◌, ◌*◌, ◌<◌, ◌≤◌, true, false, ◌&&◌, ◌==◌, leb, List, [], ◌∷◌, ◌++◌, length, get_or, take, drop, set, replicate, Option, Some, None, refl, sym, ap, ◌∙◌, subst, arith, append_assoc, take-add}
use Rattle.std.proofs.Math.ListN.{length-set}
use Rattle.std.proofs.Math.Seq.{take-set-lt}
use Rattle.std.proofs.lemmas.Bool.{ne_eqb, leb-true, and_parts}
use Rattle.std.proofs.lemmas.List.{drop_more, take_all, drop-replicate, take-replicate, drop-drop, drop-take, take-take, take-append-drop, drop-set-lt, drop-set-add, take-set-le, take_more_set, get_or-drop, get_or-replicate, length-drop, length-replicate, length-append, append-nil, length-take-le}
use Rattle.krieg_fen.proofs.Common.{Man, Board, man_at, empty_board, pieces, man_of, Row, squares_at, row_of, onto_row, eight, ranks_of, AddsSquares, FailsAbove, KeepsOthers, rank_at}
use Rattle.std.specs.List.{onto_first}
use Rattle.krieg_text.proofs.PieceCuts.{pieces_some}
use Rattle.krieg_fen.proofs.RankTexts.{rank_man, rank_long}

pub digit_put : (b file : ℕ) (row : Row) → drop file row ≡ replicate (8 - file) None → (leb 49 b && leb b 56) ≡ true → file + (b - 48) ≤ 8 →
    (drop (file + (b - 48)) row ≡ replicate (8 - (file + (b - 48))) None) × AddsSquares (squares_at b) (take file row) (take (file + (b - 48)) row)
digit_put b file row free t room =
    let low : 49 ≤ b = leb-true 49 b (and_parts (leb 49 b) (leb b 56) t).0 in
    let less : (8 - file) - (b - 48) ≡ 8 - (file + (b - 48)) = omega arith in
    let rest : drop (file + (b - 48)) row ≡ replicate (8 - (file + (b - 48))) None =
    sym (drop-drop (b - 48) file row) ∙ ap (drop (b - 48)) free ∙ drop-replicate (b - 48) (8 - file) None ∙ ap (λ (n : ℕ). replicate n None) less in
    let front : take (file + (b - 48)) row ≡ take file row ++ replicate (b - 48) None =
    take-add file (b - 48) row ∙ ap (λ (x : Row). take file row ++ x) (ap (take (b - 48)) free ∙ take-replicate (b - 48) (8 - file) None (omega arith)) in
    (rest, rw t front)

pub man_put : (b file : ℕ) (row : Row) (man : Man) → drop file row ≡ replicate (8 - file) None → (leb 49 b && leb b 56) ≡ false → file < 8 → man_of b ≡ Some man →
    (drop (file + 1) (set row file (Some man)) ≡ replicate (8 - (file + 1)) None) × AddsSquares (squares_at b) (take file row) (take (file + 1) (set row file (Some man)))
man_put b file row man free t room is =
    let long : length row - file ≡ 8 - file = sym (length-drop file row) ∙ ap length free ∙ length-replicate (8 - file) None in
    let rest : drop (file + 1) row ≡ replicate (8 - (file + 1)) None =
    sym (drop-drop 1 file row) ∙ ap (drop 1) free ∙ drop-replicate 1 (8 - file) None ∙ ap (λ (n : ℕ). replicate n None) (omega arith) in
    (drop-set-lt (file + 1) row file (Some man) (omega arith) ∙ rest, rw (t, is) (take_more_set row file (Some man) (omega arith)))

-- a square of a rank, on the board
rank_set : (b : Board) (r file : ℕ) (x : Option Man) → file < 8 → rank_at (set b (8 * r + file) x) r ≡ set (rank_at b r) file x
rank_set b r file x lt = ap (take 8) (drop-set-add (8 * r) b file x) ∙ take-set-lt 8 (drop (8 * r) b) file x lt

pub kept_set : (b : Board) (r file : ℕ) (x : Option Man) → file < 8 → KeepsOthers b (set b (8 * r + file) x) r
kept_set b r file x lt = record {
  size = length-set b (8 * r + file) x;
  below = take-set-le (8 * r) b (8 * r + file) x (omega arith);
  above = drop-set-lt (8 * r + 8) b (8 * r + file) x (omega arith);
}

pub kept_same : (b : Board) (r : ℕ) → KeepsOthers b b r
kept_same b r = record { size = refl; below = refl; above = refl }

pub free_square : (b : Board) (r file : ℕ) → file < 8 → drop file (rank_at b r) ≡ replicate (8 - file) None → man_at b (8 * r + file) ≡ None
free_square b r file lt free =
    sym (rank_man b r file lt)
    ∙ ap (λ (n : ℕ). get_or (rank_at b r) n None) (omega arith) ∙ sym (get_or-drop file (rank_at b r) 0 None)
    ∙ ap (λ (x : Row). get_or x 0 None) free ∙ get_or-replicate (8 - file) 0 None None (omega arith)

pub rank_put : (b file r : ℕ) (board : Board) (man : Man) → drop file (rank_at board r) ≡ replicate (8 - file) None → (leb 49 b && leb b 56) ≡ false → file < 8 → man_of b ≡ Some man →
    (drop (file + 1) (rank_at (set board (8 * r + file) (Some man)) r) ≡ replicate (8 - (file + 1)) None)
    × AddsSquares (squares_at b) (take file (rank_at board r)) (take (file + 1) (rank_at (set board (8 * r + file) (Some man)) r))
rank_put b file r board man free t room is =
    let p = man_put b file (rank_at board r) man free t room is in
    let e = rank_set board r file (Some man) room in
    (ap (drop (file + 1)) e ∙ p.0, subst (λ (x : Row). AddsSquares (squares_at b) (take file (rank_at board r)) (take (file + 1) x)) (sym e) p.1)

onto_assoc : (a b : Row) (r : Option Row) → onto_row (Some a) (onto_row (Some b) r) ≡ onto_row (Some (a ++ b)) r
onto_assoc a b None = refl
onto_assoc a b (Some r) = ap Some (sym (append_assoc a b r))

step_by : (o : Option Row) (front next : Row) (r : Option Row) → AddsSquares o front next → onto_row (Some front) (onto_row o r) ≡ onto_row (Some next) r
step_by None front next r adds = absurd adds
step_by (Some more) front next r adds = onto_assoc front more r ∙ ap (λ (x : Row). onto_row (Some x) r) (sym adds)

long_row : (row : Row) → length row ≢ 8 → eight (Some row) ≡ None
long_row row other = rw (ne_eqb (length row) 8 other) refl

stuck_by : (o : Option Row) (front : Row) (r : Option Row) → length front ≤ 8 → FailsAbove (8 - length front) o → eight (onto_row (Some front) (onto_row o r)) ≡ None
stuck_by None front r le fails = refl
stuck_by (Some more) front None le fails = refl
stuck_by (Some more) front (Some r) le fails = long_row (front ++ (more ++ r)) (λ e. absurd (omega (arith, length-append front (more ++ r), length-append more r)))

onto_right : (x : Option Row) (a b : Row) → onto_row (onto_row x (Some a)) (Some b) ≡ onto_row x (Some (a ++ b))
onto_right None a b = refl
onto_right (Some x) a b = ap Some (append_assoc x a b)

onto_none : (x : Option Row) → onto_row x None ≡ None
onto_none None = refl
onto_none (Some x) = refl

onto_nothing : (x : Option Row) → onto_row x (Some []) ≡ x
onto_nothing None = refl
onto_nothing (Some x) = ap Some (append-nil x)

after_nothing : (x : Option Row) → onto_row (Some []) x ≡ x
after_nothing None = refl
after_nothing (Some x) = refl

-- the board of what is read, what is left of the rank and of the ranks below it: `front` is read of the rank, and `above` are the ranks above
abbrev pub joined : ℕ → Row → List (List ℕ) → Row → Option Row
joined rank front [] above = None
joined rank front (r ∷ rs) above = onto_row (onto_row (ranks_of rank rs) (eight (onto_row (Some front) (row_of r)))) (Some above)

-- a rank with too few or too many squares
joined_none : (rank : ℕ) (front : Row) (rs : List (List ℕ)) (text : List ℕ) (above : Row) → eight (onto_row (Some front) (row_of text)) ≡ None → joined rank front (text ∷ rs) above ≡ None
joined_none rank front rs text above e = ap (λ (x : Option Row). onto_row (onto_row (ranks_of rank rs) x) (Some above)) e ∙ ap (λ (x : Option Row). onto_row x (Some above)) (onto_none (ranks_of rank rs))

-- how far a board is read: the rest of the rank and the ranks below are empty
pub record Reads (b : Board) (rank file : ℕ) (text : List ℕ) (whole : Option Row) : Type 0 where
  pub size : length b ≡ 64
  pub rank_below : rank < 8
  pub file_below : file ≤ 8
  pub lower : take (8 * rank) b ≡ replicate (8 * rank) None
  pub free : drop file (rank_at b rank) ≡ replicate (8 - file) None
  pub so : joined rank (take file (rank_at b rank)) (pieces 47 text) (drop (8 * rank + 8) b) ≡ whole

pub reads_at : (b : Board) (rank file : ℕ) (text : List ℕ) (i byte : ℕ) (whole : Option Row) → i < length text → get_or text i 0 ≡ byte →
    Reads b rank file (drop i text) whole → Reads b rank file (byte ∷ drop (i + 1) text) whole
reads_at b rank file text i byte whole lt e u = subst (λ (t : List ℕ). Reads b rank file t whole) (drop_more text i 0 lt ∙ ap (λ (x : ℕ). x ∷ drop (i + 1) text) e) u

pub reads_start : (b : Board) (text : List ℕ) → b ≡ empty_board → Reads b 7 0 text (ranks_of 8 (pieces 47 text))
unfolding empty_board
reads_start b text e =
    rw e (record { size = length-replicate {A = Option Man} 64 None; rank_below = omega arith; file_below = omega arith; lower = refl; free = refl; so = start (pieces 47 text) })
  where
    start : (ps : List (List ℕ)) → joined 7 [] ps [] ≡ ranks_of 8 ps
    start [] = refl
    start (r ∷ rs) = onto_nothing (onto_row (ranks_of 7 rs) (eight (onto_row (Some []) (row_of r)))) ∙ ap (λ (x : Option Row). onto_row (ranks_of 7 rs) (eight x)) (after_nothing (row_of r))

-- a byte that is no `/` is the first of its rank's text
pieces_byte : (byte : ℕ) (text : List ℕ) → (byte == 47) ≡ false → (r : List ℕ) × (rs : List (List ℕ)) × (pieces 47 text ≡ r ∷ rs) × (pieces 47 (byte ∷ text) ≡ (byte ∷ r) ∷ rs)
pieces_byte byte text other =
    let (r, rs, e) = pieces_some 47 text in
    (r, rs, e, rw other (ap (onto_first byte) e))

-- its squares are put after those that are read
pub reads_byte : (b new : Board) (rank file next byte : ℕ) (text : List ℕ) (whole : Option Row) → (byte == 47) ≡ false → KeepsOthers b new rank → next ≤ 8 →
    drop next (rank_at new rank) ≡ replicate (8 - next) None → AddsSquares (squares_at byte) (take file (rank_at b rank)) (take next (rank_at new rank)) →
    Reads b rank file (byte ∷ text) whole → Reads new rank next text whole
reads_byte b new rank file next byte text whole other kept le free adds u =
    let front = take file (rank_at b rank) in
    let above = drop (8 * rank + 8) b in
    let (r, rs, e, more) = pieces_byte byte text other in
    record {
      size = kept.size ∙ u.size;
      rank_below = u.rank_below;
      file_below = le;
      lower = kept.below ∙ u.lower;
      free = free;
      so = (λ i. joined rank (take next (rank_at new rank)) (e i) (kept.above i))
          ∙ sym (ap (λ (x : Option Row). onto_row (onto_row (ranks_of rank rs) (eight x)) (Some above)) (step_by (squares_at byte) front (take next (rank_at new rank)) (row_of r) adds))
          ∙ sym (ap (λ (ps : List (List ℕ)). joined rank front ps above) more) ∙ u.so;
    }

front_long : (b : Board) (rank file : ℕ) (text : List ℕ) (whole : Option Row) → Reads b rank file text whole → length (take file (rank_at b rank)) ≡ file
front_long b rank file text whole u =
    let long = rank_long rank b (omega (arith, u.size, u.rank_below)) in
    length-take-le file (rank_at b rank) (omega (arith, long, u.file_below))

pub reads_stuck : (b : Board) (rank file byte : ℕ) (text : List ℕ) (whole : Option Row) → (byte == 47) ≡ false → FailsAbove (8 - file) (squares_at byte) →
    Reads b rank file (byte ∷ text) whole → None ≡ whole
reads_stuck b rank file byte text whole other fails u =
    let front = take file (rank_at b rank) in
    let above = drop (8 * rank + 8) b in
    let size = front_long b rank file (byte ∷ text) whole u in
    let (r, rs, e, more) = pieces_byte byte text other in
    let there : FailsAbove (8 - length front) (squares_at byte) = rw size fails in
    sym (ap (λ (ps : List (List ℕ)). joined rank front ps above) more
    ∙ joined_none rank front rs (byte ∷ r) above (stuck_by (squares_at byte) front (row_of r) (omega (arith, size, u.file_below)) there)) ∙ u.so

-- a rank that ends with eight squares, and one that does not
closed : (row : Row) → length row ≡ 8 → eight (onto_row (Some row) (Some [])) ≡ Some row
closed row e = ap (λ (x : Row). eight (Some x)) (append-nil row) ∙ rw e refl

unclosed : (row : Row) → length row ≢ 8 → eight (onto_row (Some row) (Some [])) ≡ None
unclosed row other = ap (λ (x : Row). eight (Some x)) (append-nil row) ∙ long_row row other

-- a rank ends, at a `/` or with the text, that has not eight squares
pub reads_short : (b : Board) (rank file : ℕ) (text : List ℕ) (rs : List (List ℕ)) (whole : Option Row) → pieces 47 text ≡ [] ∷ rs → file ≢ 8 → Reads b rank file text whole → None ≡ whole
reads_short b rank file text rs whole ends other u =
    let front = take file (rank_at b rank) in
    let above = drop (8 * rank + 8) b in
    sym (ap (λ (ps : List (List ℕ)). joined rank front ps above) ends ∙ joined_none rank front rs [] above (unclosed front (λ e. other (sym (front_long b rank file text whole u) ∙ e)))) ∙ u.so

-- a rank ends below which there are not as many as there must be
pub reads_wrong : (b : Board) (rank file : ℕ) (text : List ℕ) (rs : List (List ℕ)) (whole : Option Row) → pieces 47 text ≡ [] ∷ rs → ranks_of rank rs ≡ None → Reads b rank file text whole → None ≡ whole
reads_wrong b rank file text rs whole ends none u =
    let front = take file (rank_at b rank) in
    let above = drop (8 * rank + 8) b in
    sym (ap (λ (ps : List (List ℕ)). joined rank front ps above) ends ∙ ap (λ (x : Option Row). onto_row (onto_row x (eight (onto_row (Some front) (Some [])))) (Some above)) none) ∙ u.so

pub no_rank_below : (rank : ℕ) (text : List ℕ) → rank ≡ 0 → ranks_of rank (pieces 47 text) ≡ None
no_rank_below rank text z = let (r, rs, e) = pieces_some 47 text in λ i. ranks_of (z i) (e i)

pub ranks_missing : (rank : ℕ) → rank ≢ 0 → ranks_of rank [] ≡ None
ranks_missing zero other = absurd (other refl)
ranks_missing (suc n) other = refl

full : (row : Row) (file : ℕ) → file ≡ 8 → length row ≡ 8 → take file row ≡ row
full row file e long = take_all file row (omega arith)

-- the next rank is begun below one that is full
pub reads_down : (b : Board) (rank file : ℕ) (text : List ℕ) (whole : Option Row) → file ≡ 8 → 0 < rank → Reads b rank file (47 ∷ text) whole → Reads b (rank - 1) 0 text whole
reads_down b zero file text whole e some u = absurd (omega arith)
reads_down b (suc r) file text whole e some u = subst (λ (n : ℕ). Reads b n 0 text whole) (omega arith) (record {
  size = u.size;
  rank_below = omega (arith, u.rank_below);
  file_below = omega arith;
  lower = sym (take-take (8 * r) (8 * suc r) b (omega arith)) ∙ ap (take (8 * r)) u.lower ∙ take-replicate (8 * r) (8 * suc r) None (omega arith);
  free = sym (drop-take (8 * r) 8 b) ∙ ap (λ (n : ℕ). drop (8 * r) (take n b)) next ∙ ap (drop (8 * r)) u.lower ∙ drop-replicate (8 * r) (8 * suc r) None ∙ ap (λ (n : ℕ). replicate n None) eight_more;
  so = below (pieces_some 47 text);
})
  where
    next : 8 * r + 8 ≡ 8 * suc r
    next = omega arith

    eight_more : 8 * suc r - 8 * r ≡ 8
    eight_more = omega arith

    row : Row
    row = rank_at b (suc r)

    long : length row ≡ 8
    long = rank_long (suc r) b (omega (arith, u.size, u.rank_below))

    upper : drop (8 * r + 8) b ≡ row ++ drop (8 * suc r + 8) b
    upper = ap (λ (n : ℕ). drop n b) next ∙ sym (take-append-drop 8 (drop (8 * suc r) b)) ∙ ap (λ (x : Row). row ++ x) (drop-drop 8 (8 * suc r) b)

    below : (r' : List ℕ) × (rs : List (List ℕ)) × (pieces 47 text ≡ r' ∷ rs) → joined r [] (pieces 47 text) (drop (8 * r + 8) b) ≡ whole
    below (p, ps, is) =
        (λ i. joined r [] (is i) (upper i))
        ∙ ap (λ (x : Option Row). onto_row (onto_row (ranks_of r ps) (eight x)) (Some (row ++ drop (8 * suc r + 8) b))) (after_nothing (row_of p))
        ∙ sym (onto_right (ranks_of (suc r) (p ∷ ps)) row (drop (8 * suc r + 8) b))
        ∙ (λ i. onto_row (onto_row (ranks_of (suc r) (sym is i)) (sym (ap (λ (x : Row). eight (onto_row (Some x) (Some []))) (full row file e long) ∙ closed row long) i)) (Some (drop (8 * suc r + 8) b)))
        ∙ u.so

pub reads_whole : (b : Board) (rank file : ℕ) (text : List ℕ) (whole : Option Row) → text ≡ [] → rank ≡ 0 → file ≡ 8 → Reads b rank file text whole → Some b ≡ whole
reads_whole b rank file text whole none z e u =
    let long = rank_long rank b (omega (arith, u.size, u.rank_below)) in
    sym (ap (λ (t : List ℕ). joined rank (take file (rank_at b rank)) (pieces 47 t) (drop (8 * rank + 8) b)) none
    ∙ ap (λ (x : Option Row). onto_row (onto_row (ranks_of rank []) x) (Some (drop (8 * rank + 8) b))) (ap (λ (x : Row). eight (onto_row (Some x) (Some []))) (full (rank_at b rank) file e long) ∙ closed (rank_at b rank) long)
    ∙ ap (λ (n : ℕ). onto_row (onto_row (ranks_of n []) (Some (rank_at b n))) (Some (drop (8 * n + 8) b))) z
    ∙ ap Some (take-append-drop 8 b))
    ∙ u.so
