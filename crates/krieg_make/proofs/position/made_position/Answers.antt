use Rattle.std.proofs.Common.{◌≡◌, ℕ, ◌<◌, ◌/◌, ◌%◌, false, length, None, ◌∙◌, ap}
use Rattle.krieg_make.proofs.Common.{Board, first_fault, White, made_position, made_board, pair_at, POSITION_COUNT}
use Rattle.krieg_make.proofs.ValidPositions.{made_valid}
use Rattle.krieg_make.proofs.position.made_position.Goals as goal

has_squares : (i : ℕ) (b : Board) → i < POSITION_COUNT → b ≡ made_board (i % 5) (pair_at (i / 5)) → length b ≡ 64
unfolding made_position
has_squares i b h is = ap length is ∙ (made_valid i h).squares

has_no_fault : (i : ℕ) (b : Board) → i < POSITION_COUNT → b ≡ made_board (i % 5) (pair_at (i / 5)) →
    first_fault (record {
      board = b;
      side = White;
      rights = record { white_short = false; white_long = false; black_short = false; black_long = false };
      mark = None;
    }) ≡ None
unfolding made_position
has_no_fault i b h is = ap (λ b. first_fault (record {
  board = b;
  side = White;
  rights = record { white_short = false; white_long = false; black_short = false; black_long = false };
  mark = None;
})) is ∙ (made_valid i h).no_fault

pub from_valid-requires-clause-size : goal.from_valid-requires-clause-size
from_valid-requires-clause-size c = has_squares c.args.i c.made_board-board.result c.requires (cc)

pub from_valid-requires-clause-fault : goal.from_valid-requires-clause-fault
from_valid-requires-clause-fault c = has_no_fault c.args.i c.made_board-board.result c.requires (cc)

pub returns : goal.returns
unfolding made_position
returns c = cc
