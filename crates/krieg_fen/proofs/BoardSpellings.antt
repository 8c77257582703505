-- The first field of a position is read exactly where it spells a board.
use Rattle.std.proofs.Common.{◌≡◌, inl, inr, ℕ, zero, suc, ◌+◌, ◌*◌, ◌<◌, ◌≤◌, Bool, false, cond, eqb, eq-eqb, eqb-true, List, [], ◌∷◌, ◌++◌, length, take, drop, Option, Some, None, refl, sym, subst, ap, ◌∙◌, append_assoc, arith, length-append, take-add}
use Rattle.std.specs.List.{join_with_byte}
use Rattle.std.proofs.lemmas.Bool.{ne_eqb, lt-leb, cases_lt}
use Rattle.std.proofs.lemmas.Option.{cond_some}
use Rattle.std.proofs.lemmas.List.{append-nil, take_at, drop_at, take_all}
use Rattle.std.proofs.lemmas.List.Splits.{join_with_byte-slice_split}
use Rattle.krieg_fen.proofs.Common.{Kind, Pawn, King, Board, pieces, capital, small_letter, kind_by, man_of, Row, squares_at, row_of, onto_row, eight, ranks_of, board_of, rank_at, SpellRanks, SpellsBoard}
use Rattle.krieg_board.specs.declared.men.Kind.TheVariants.{Knight, Bishop, Rook, Queen}
use Rattle.krieg_text.proofs.Free.{Above, above_append, above_less, pieces_first, pieces_last}
use Rattle.krieg_fen.proofs.RankTexts.{rank_long}

onto_parts : (a b : Option Row) (w : Row) → onto_row a b ≡ Some w → (x : Row) × (y : Row) × (a ≡ Some x) × (b ≡ Some y) × (x ++ y ≡ w)
onto_parts (Some x) (Some y) w e = (x, y, refl, refl, cc)
onto_parts (Some x) None w e = absurd cc
onto_parts None b w e = absurd cc

eight_parts : (o : Option Row) (y : Row) → eight o ≡ Some y → (o ≡ Some y) × (length y ≡ 8)
eight_parts None y e = absurd cc
eight_parts (Some row) y e =
    let p = cond_some (eqb (length row) 8) row y e in
    (ap Some p.1, ap length (sym p.1) ∙ eqb-true (length row) 8 p.0)

-- the rank after the ranks below it
rank_there : (low row more : Row) (board : Board) (n : ℕ) → length low ≡ 8 * n → length row ≡ 8 → board ≡ low ++ (row ++ more) → row ≡ rank_at board n
rank_there low row more board n size long is =
    sym (ap (λ (t : Row). take 8 (drop (8 * n) t)) is ∙ ap (take 8) (drop_at low (row ++ more) (8 * n) size) ∙ take_at row more 8 long)

ranks_spell : (n : ℕ) (rs : List (List ℕ)) (low : Row) → ranks_of n rs ≡ Some low → (length low ≡ 8 * n) × ((more : Row) → SpellRanks rs n (low ++ more))
ranks_spell zero [] low e = let same : [] ≡ low = cc in (sym (ap length same), λ more. tt)
ranks_spell zero (r ∷ rs) low e = absurd cc
ranks_spell (suc n) [] low e = absurd cc
ranks_spell (suc n) (r ∷ rs) low e =
    let p = onto_parts (ranks_of n rs) (eight (row_of r)) low e in
    let q = eight_parts (row_of r) p.1 p.3 in
    let m = ranks_spell n rs p.0 p.2 in (
      omega (arith, ap length p.4, length-append p.0 p.1, m.0, q.1),
      λ more.
          let all : low ++ more ≡ p.0 ++ (p.1 ++ more) = ap (λ (t : Row). t ++ more) (sym p.4) ∙ append_assoc p.0 p.1 more in
          (q.0 ∙ ap Some (rank_there p.0 p.1 more (low ++ more) n m.0 q.1 all), subst (SpellRanks rs n) (sym all) (m.1 (p.1 ++ more))),
    )

pub board_spells : (field : List ℕ) (board : Board) → board_of field ≡ Some board → SpellsBoard field board
board_spells field board e =
    let p = ranks_spell 8 (pieces 47 field) board e in
    record { ranks = pieces 47 field; joined = sym (join_with_byte-slice_split 47 field); spelled = subst (SpellRanks (pieces 47 field) 8) (append-nil board) (p.1 []) }

-- a board that is read has 64 squares
pub board_long : (field : List ℕ) (board : Board) → board_of field ≡ Some board → length board ≡ 64
board_long field board e = let p = ranks_spell 8 (pieces 47 field) board e in omega (arith, p.0)

no_kind : (alphabet : Kind → ℕ) (b : ℕ) → ((k : Kind) → b < alphabet k) → kind_by alphabet b ≡ None
no_kind alphabet b low = rw (no Pawn, no Knight, no Bishop, no Rook, no Queen, no King) refl
  where
    no : (k : Kind) → eqb b (alphabet k) ≡ false
    no k = let h : b < alphabet k = low k in ne_eqb b (alphabet k) (λ e. absurd (omega arith))

low_capital : (b : ℕ) → b ≤ 47 → (k : Kind) → b < capital k
low_capital b le Pawn = omega arith
low_capital b le Knight = omega arith
low_capital b le Bishop = omega arith
low_capital b le Rook = omega arith
low_capital b le Queen = omega arith
low_capital b le King = omega arith

low_letter : (b : ℕ) → b ≤ 47 → (k : Kind) → b < small_letter k
low_letter b le Pawn = omega arith
low_letter b le Knight = omega arith
low_letter b le Bishop = omega arith
low_letter b le Rook = omega arith
low_letter b le Queen = omega arith
low_letter b le King = omega arith

no_man : (b : ℕ) → b ≤ 47 → man_of b ≡ None
no_man b le = rw (no_kind capital b (low_capital b le), no_kind small_letter b (low_letter b le)) refl

no_squares : (b : ℕ) → b ≤ 47 → squares_at b ≡ None
no_squares b le = rw (lt-leb 49 b (omega arith), no_man b le) refl

square_high : (b : ℕ) (x : Row) → squares_at b ≡ Some x → 47 < b
square_high b x e = elim (cases_lt 47 b) [
  | inl high ↦ high
  | inr low ↦ absurd (let none : squares_at b ≡ None = no_squares b low in cc)
]

row_high : (r : List ℕ) (row : Row) → row_of r ≡ Some row → Above 47 r
row_high [] row e = tt
row_high (b ∷ bs) row e =
    let p = onto_parts (squares_at b) (row_of bs) row e in
    (square_high b p.0 p.2, row_high bs p.1 p.3)

-- each part has bytes above n alone
abbrev pub AllAbove : ℕ → List (List ℕ) → Type 0
AllAbove n [] = Unit {0}
AllAbove n (p ∷ ps) = Above n p × AllAbove n ps

pub all_less : (m n : ℕ) (ps : List (List ℕ)) → m ≤ n → AllAbove n ps → AllAbove m ps
all_less m n [] le a = tt
all_less m n (p ∷ ps) le a = (above_less m n p le a.0, all_less m n ps le a.1)

-- joined parts are cut again
pub pieces_join : (c : ℕ) (p : List ℕ) (ps : List (List ℕ)) → Above c p → AllAbove c ps → pieces c (join_with_byte c (p ∷ ps)) ≡ p ∷ ps
pieces_join c p [] a all = pieces_last c p a
pieces_join c p (q ∷ ps) a all = pieces_first c p (join_with_byte c (q ∷ ps)) a ∙ ap (λ (t : List (List ℕ)). p ∷ t) (pieces_join c q ps all.0 all.1)

join_above : (n c : ℕ) (ps : List (List ℕ)) → n < c → AllAbove n ps → Above n (join_with_byte c ps)
join_above n c [] lt all = tt
join_above n c (p ∷ []) lt all = all.0
join_above n c (p ∷ q ∷ ps) lt all = above_append n p (c ∷ join_with_byte c (q ∷ ps)) all.0 (lt, join_above n c (q ∷ ps) lt all.1)

ranks_high : (n : ℕ) (rs : List (List ℕ)) (board : Board) → SpellRanks rs n board → AllAbove 47 rs
ranks_high zero [] board s = tt
ranks_high zero (r ∷ rs) board s = absurd s
ranks_high (suc n) [] board s = absurd s
ranks_high (suc n) (r ∷ rs) board s = (row_high r (rank_at board n) s.0, ranks_high n rs board s.1)

pub board_high : (field : List ℕ) (board : Board) → SpellsBoard field board → Above 32 field
board_high field board s = subst (Above 32) (sym s.joined) (join_above 32 47 s.ranks (omega arith) (all_less 32 47 s.ranks (omega arith) (ranks_high 8 s.ranks board s.spelled)))

ranks_read : (n : ℕ) (rs : List (List ℕ)) (board : Board) → 8 * n ≤ length board → SpellRanks rs n board → ranks_of n rs ≡ Some (take (8 * n) board)
ranks_read zero [] board le s = refl
ranks_read zero (r ∷ rs) board le s = absurd s
ranks_read (suc n) [] board le s = absurd s
ranks_read (suc n) (r ∷ rs) board le s =
    let long : length (rank_at board n) ≡ 8 = rank_long n board (omega arith) in
    let here : eight (row_of r) ≡ Some (rank_at board n) = ap eight s.0 ∙ ap (λ (t : Bool). cond t (Some (rank_at board n)) None) (eq-eqb (length (rank_at board n)) 8 long) in
    let size : 8 * n + 8 ≡ 8 * suc n = omega arith in
    ap (λ (o : Option Row). onto_row o (eight (row_of r))) (ranks_read n rs board (omega arith) s.1)
    ∙ ap (onto_row (Some (take (8 * n) board))) here
    ∙ ap Some (sym (take-add (8 * n) 8 board)) ∙ ap (λ (k : ℕ). Some (take k board)) size

ranks_joined : (rs : List (List ℕ)) (board : Board) → length board ≡ 64 → SpellRanks rs 8 board → ranks_of 8 (pieces 47 (join_with_byte 47 rs)) ≡ Some board
ranks_joined [] board long s = absurd s
ranks_joined (r ∷ rs) board long s =
    let high = ranks_high 8 (r ∷ rs) board s in
    ap (ranks_of 8) (pieces_join 47 r rs high.0 high.1) ∙ ranks_read 8 (r ∷ rs) board (omega arith) s ∙ ap Some (take_all 64 board (omega arith))

pub board_reads : (field : List ℕ) (board : Board) → length board ≡ 64 → SpellsBoard field board → board_of field ≡ Some board
board_reads field board long s = ap (λ (t : List ℕ). ranks_of 8 (pieces 47 t)) s.joined ∙ ranks_joined s.ranks board long s.spelled
