-- The words of a move and of a start can be said: at most 16 tries, and a capture on a square of the board.
use Rattle.std.proofs.Common.{◌≡◌, ℕ, ◌<◌, Bool, true, false, cond, Option, Some, None, arith}
use Rattle.krieg_words.proofs.Common.{Pos, man_at, IsValid, is_pawn, Man, Move, after, is_en_passant, passed_square, is_legal, Took, Piece, IsSaid, IsTaken, took_by, opening, words}
use Rattle.krieg_moves.proofs.LegalMoves.{legal_squares}
use Rattle.krieg_moves.proofs.KeepsValid.{valid_after}
use Rattle.krieg_words.specs.declared.words.Took.TheVariants.{Pawn}
use Rattle.krieg_words.specs.WordsOfMoves.{taken}
use Rattle.krieg_words.proofs.TriesBound.{tries_le}

either_taken : (t : Bool) (a b : Took) → IsTaken a → IsTaken b → IsTaken (cond t a b)
either_taken true a b h k = h
either_taken false a b h k = k

taken_inside : (x : Option Man) (s : ℕ) → s < 64 → IsTaken (taken x s)
taken_inside None s h = tt
taken_inside (Some man) s h = either_taken (is_pawn (Some man)) (Pawn s) (Piece s) h h

passed_inside : (m : Move) → m.from < 64 → passed_square m < 64
passed_inside m h = omega arith

took_inside : (p : Pos) (x : Option Man) (m : Move) → m.from < 64 → m.to < 64 → IsTaken (took_by p x m)
took_inside p None m from to = tt
took_inside p (Some man) m from to =
    either_taken (is_en_passant p.mark man m) (Pawn (passed_square m)) (taken (man_at p.board m.to) m.to) (passed_inside m from) (taken_inside (man_at p.board m.to) m.to to)

pub opening_said : (p : Pos) → IsValid p → IsSaid (opening p)
unfolding opening
opening_said p valid = (tries_le p valid, tt)

pub words_said : (p : Pos) (m : Move) → IsValid p → is_legal p m ≡ true → IsSaid (words p m)
unfolding words
words_said p m valid h =
    let s = legal_squares p m h in
    (tries_le (after p m) (valid_after p m valid h), took_inside p (man_at p.board m.from) m s.0 s.1)

pub ruleset said = (opening_said, words_said)
