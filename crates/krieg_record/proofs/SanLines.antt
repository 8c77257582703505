-- The text of a move has no line feed.
use Rattle.std.proofs.Common.{◌≡◌, ℕ, ◌+◌, ◌<◌, Bool, true, false, [], ◌∷◌, ◌++◌, Option, Some, None, refl, arith}
use Rattle.std.proofs.lemmas.Bool.{ne_eqb}
use Rattle.krieg_record.proofs.Common.{Pos, Move, Promo, Short, Long, is_line, square_text, Officer, King, Queen, Rook, Bishop, Knight, Movement, Castles, ByOfficer, ByPawn, CheckSuffix, Nothing, Check, Mate, letter, file_text, rank_text, capture_text, promotion_text, pawn_capture_text, movement_text, ending_text, notation_text, san, san_text}
use Rattle.krieg_board.specs.declared.men.Promo.TheVariants as promo
use Rattle.krieg_fen.proofs.CleanTexts.{square_above}
use Rattle.krieg_text.proofs.LineTexts.{line_above, line_append}

byte_line : (k n : ℕ) → 10 < k → is_line ((k + n) ∷ []) ≡ true
byte_line k n l = rw (ne_eqb (k + n) 10 (λ e. omega arith)) refl

file_line : (f : Option ℕ) → is_line (file_text f) ≡ true
file_line None = refl
file_line (Some f) = byte_line 97 f (omega arith)

rank_line : (r : Option ℕ) → is_line (rank_text r) ≡ true
rank_line None = refl
rank_line (Some r) = byte_line 49 r (omega arith)

capture_line : (c : Bool) → is_line (capture_text c) ≡ true
capture_line true = refl
capture_line false = refl

square_line : (s : ℕ) → is_line (square_text s) ≡ true
square_line s = line_above 48 (square_text s) (omega arith) (square_above s)

promotion_line : (r : Promo) → is_line (promotion_text r) ≡ true
promotion_line promo.Plain = refl
promotion_line promo.Queen = refl
promotion_line promo.Rook = refl
promotion_line promo.Bishop = refl
promotion_line promo.Knight = refl

letter_line : (o : Officer) → is_line (letter o ∷ []) ≡ true
letter_line King = refl
letter_line Queen = refl
letter_line Rook = refl
letter_line Bishop = refl
letter_line Knight = refl

pawn_line : (f : Option ℕ) → is_line (pawn_capture_text f) ≡ true
pawn_line None = refl
pawn_line (Some f) = line_append ((97 + f) ∷ []) (120 ∷ []) (byte_line 97 f (omega arith)) refl

movement_line : (x : Movement) → is_line (movement_text x) ≡ true
movement_line (Castles Short) = refl
movement_line (Castles Long) = refl
movement_line (ByOfficer o) =
    line_append (letter o.officer ∷ []) (file_text o.origin.file ++ (rank_text o.origin.rank ++ (capture_text o.captures ++ square_text o.to))) (letter_line o.officer)
    (line_append (file_text o.origin.file) (rank_text o.origin.rank ++ (capture_text o.captures ++ square_text o.to)) (file_line o.origin.file)
    (line_append (rank_text o.origin.rank) (capture_text o.captures ++ square_text o.to) (rank_line o.origin.rank)
    (line_append (capture_text o.captures) (square_text o.to) (capture_line o.captures) (square_line o.to))))
movement_line (ByPawn w) =
    line_append (pawn_capture_text w.file) (square_text w.to ++ promotion_text w.promo) (pawn_line w.file) (line_append (square_text w.to) (promotion_text w.promo) (square_line w.to) (promotion_line w.promo))

ending_line : (e : CheckSuffix) → is_line (ending_text e) ≡ true
ending_line Nothing = refl
ending_line Check = refl
ending_line Mate = refl

pub san_line : (p : Pos) (m : Move) → is_line (san_text p m) ≡ true
unfolding san_text notation_text
san_line p m = line_append (movement_text (san p m).movement) (ending_text (san p m).ending) (movement_line (san p m).movement) (ending_line (san p m).ending)
