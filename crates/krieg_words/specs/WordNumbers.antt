-- Words as numbers, which are ordered as they are.
use Rattle.std.specs.Prelude.{ℕ, ◌+◌, ◌*◌, ◌/◌, ◌%◌, ◌==◌, if◌then◌else◌}
use Rattle.krieg_words.specs.Kinds.{bits_of}
use Rattle.krieg_words.specs.declared.kinds.Kinds.{Kinds}
use Rattle.krieg_words.specs.declared.words.End.{End}
use Rattle.krieg_words.specs.declared.words.End.TheVariants.{Goes, Mate, Stalemate}
use Rattle.krieg_words.specs.declared.words.Took.{Took}
use Rattle.krieg_words.specs.declared.words.Took.TheVariants.{Nothing, Pawn, Piece}
use Rattle.krieg_words.specs.Words.{Said, end_rank, took_rank, took_square}

-- The digits are what words are compared by: the end, what was taken (3 cases) and on which of 64 squares, the
-- kinds of check (32 sets) and the pawn tries (fewer than 32).
unfoldable pub words_number : Said → ℕ
words_number w = (((end_rank w.end * 3 + took_rank w.took) * 64 + took_square w.took) * 32 + bits_of w.checks) * 32 + w.tries

-- the end of that number
abbrev pub end_at : ℕ → End
end_at n = if n == 0 then Goes else if n == 1 then Mate else Stalemate

-- the capture of that number, on that square
abbrev pub took_at : ℕ → ℕ → Took
took_at n s = if n == 0 then Nothing else if n == 1 then Pawn s else Piece s

-- the kinds of check of that number, a bit each
abbrev pub kinds_at : ℕ → Kinds
kinds_at n = record {
  knight = n / 16 == 1;
  short = n / 8 % 2 == 1;
  long = n / 4 % 2 == 1;
  rank = n / 2 % 2 == 1;
  file = n % 2 == 1;
}

-- the words of a number
unfoldable pub words_at : ℕ → Said
words_at n = record {
  end = end_at (n / 32 / 32 / 64 / 3);
  took = took_at (n / 32 / 32 / 64 % 3) (n / 32 / 32 % 64);
  checks = kinds_at (n / 32 % 32);
  tries = n % 32;
}
