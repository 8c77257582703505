-- Words as contracts see them, and their order.
use Rattle.std.specs.Prelude.{ℕ, ◌<◌, ◌≤◌, List, [], ◌∷◌}
use Rattle.std.specs.Ordering.{nat_cmp}
use Rattle.std.specs.Cmp.Lexicographic.{slice_cmp}
use Rattle.std.specs.declared.cmp.Ordering.{Ordering}
use Rattle.krieg_words.specs.Kinds.{bits_of}
use Rattle.krieg_words.specs.declared.kinds.Kinds.{Kinds}
use Rattle.krieg_words.specs.declared.words.End.{End}
use Rattle.krieg_words.specs.declared.words.End.TheVariants.{Goes, Mate, Stalemate}
use Rattle.krieg_words.specs.declared.words.Took.{Took}
use Rattle.krieg_words.specs.declared.words.Took.TheVariants.{Nothing, Pawn, Piece}
use Rattle.krieg_words.specs.declared.words.TheConstants.{MOST_TRIES}

-- how the game stands, what was captured, the kinds of check and the number of pawn tries
pub record Said : Type 0 where
  pub end : End
  pub took : Took
  pub checks : Kinds
  pub tries : ℕ

-- the square is one of the board
abbrev pub IsTaken : Took → Type 0
IsTaken Nothing = Unit {0}
IsTaken (Pawn s) = s < 64
IsTaken (Piece s) = s < 64

-- words that can be said
abbrev pub IsSaid : Said → Type 0
IsSaid w = (w.tries ≤ MOST_TRIES) × IsTaken w.took

-- ends in order: the game goes on, mate, stalemate
abbrev pub end_rank : End → ℕ
end_rank Goes = 0
end_rank Mate = 1
end_rank Stalemate = 2

-- captures in order: nothing, a pawn, a piece
abbrev pub took_rank : Took → ℕ
took_rank Nothing = 0
took_rank (Pawn s) = 1
took_rank (Piece s) = 2

-- the square of the capture, or 0
abbrev pub took_square : Took → ℕ
took_square Nothing = 0
took_square (Pawn s) = s
took_square (Piece s) = s

-- what words are compared by, one number after another: the end, what was taken, its square, the kinds of check, the tries
abbrev pub ranks : Said → List ℕ
ranks w = end_rank w.end ∷ took_rank w.took ∷ took_square w.took ∷ bits_of w.checks ∷ w.tries ∷ []

-- the order of words: by the first of these numbers that differs
unfoldable pub words_cmp : Said → Said → Ordering
words_cmp a b = slice_cmp nat_cmp (ranks a) (ranks b)
