-- What is said after a legal move, and at the start of a game.
use Rattle.std.specs.Prelude.{ℕ, Option, Some, None, if◌then◌else◌}
use Rattle.krieg_board.specs.Pos.{Pos}
use Rattle.krieg_board.specs.Board.{man_at}
use Rattle.krieg_board.specs.Validity.{is_pawn}
use Rattle.krieg_board.specs.declared.men.Man.{Man}
use Rattle.krieg_board.specs.declared.men.Move.{Move}
use Rattle.krieg_moves.specs.After.{after, is_en_passant, passed_square}
use Rattle.krieg_moves.specs.Moves.{is_mate, is_stalemate}
use Rattle.krieg_words.specs.Kinds.{kinds}
use Rattle.krieg_words.specs.PawnTries.{tries}
use Rattle.krieg_words.specs.declared.words.End.{End}
use Rattle.krieg_words.specs.declared.words.End.TheVariants.{Goes, Mate, Stalemate}
use Rattle.krieg_words.specs.declared.words.Took.{Took}
use Rattle.krieg_words.specs.declared.words.Took.TheVariants.{Nothing, Pawn, Piece}
use Rattle.krieg_words.specs.Words.{Said}

-- mate, stalemate, or the game goes on
abbrev pub end_of : Pos → End
end_of p = if is_mate p then Mate else if is_stalemate p then Stalemate else Goes

-- the man on s is captured; one that a pawn was promoted to is a piece
abbrev pub taken : Option Man → ℕ → Took
taken None s = Nothing
taken (Some man) s = if is_pawn (Some man) then Pawn s else Piece s

-- what the move of this man captures: in passing a pawn beside it, and otherwise the man on the to-square
abbrev pub took_by : Pos → Option Man → Move → Took
took_by p None m = Nothing
took_by p (Some man) m = if is_en_passant p.mark man m then Pawn (passed_square m) else taken (man_at p.board m.to) m.to

-- what is said of a position before which that was captured
abbrev pub said : Took → Pos → Said
said took p = record { end = end_of p; took = took; checks = kinds p; tries = tries p }

-- the opening words: nothing was captured
unfoldable pub opening : Pos → Said
opening p = said Nothing p

-- the words of a legal move: what it captured, and what holds in the position after it
unfoldable pub words : Pos → Move → Said
words p m = said (took_by p (man_at p.board m.from) m) (after p m)
