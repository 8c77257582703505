use Rattle.std.proofs.Common.{◌≡◌, ℕ, ◌<◌, ◌∙◌, ap, sym, length, true, bit_and, w64}
use Rattle.std.specs.Int.{trailing_zeros}
use Rattle.krieg_board.proofs.Common.{Sets, Side, King, has, Board, man_at, is_of, is_man, AreExact, board_of, count_kind}
use Rattle.krieg_board.proofs.BoardSets.{shows, kings_small}
use Rattle.krieg_board.proofs.Writing.{length_board_of}
use Rattle.krieg_board.proofs.OneKing.{king_there}
use Rattle.krieg_board.proofs.bits.king_of.Goals as goal

-- the king's square, by the sets of the board
there : (s : Sets) (b : Board) (side : Side) (own : ℕ) → AreExact s → board_of s ≡ b → count_kind b side King ≡ 1 → ((k : ℕ) → k < 64 → has own k ≡ is_of side (man_at b k)) →
    (trailing_zeros w64 (bit_and s.kings own) < 64) × (is_man side King (man_at b (trailing_zeros w64 (bit_and s.kings own))) ≡ true)
there s b side own exact e one ho =
    king_there b side s.kings own (ap length (sym e) ∙ length_board_of s) one (kings_small s exact) (shows s b exact e).kings ho

pub returns-clause-below : goal.returns-clause-below
returns-clause-below c = (there c.b.inside.sets c.args.b.now c.args.side c.men_of.result c.b.invariant c.b.view_is c.requires c.men_of.ensures).0

pub returns-clause-king : goal.returns-clause-king
returns-clause-king c = (there c.b.inside.sets c.args.b.now c.args.side c.men_of.result c.b.invariant c.b.view_is c.requires c.men_of.ensures).1
