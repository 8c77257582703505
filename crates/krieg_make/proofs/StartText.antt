-- The text from which the start position is read.
use Rattle.std.proofs.Common.{◌≡◌, refl}
use Rattle.std.specs.Prelude.{Ok, codes}
use Rattle.krieg_make.proofs.Common.{attacks, is_attacked, is_clear, is_king_attacked, is_between, squares, every_square, some_square, first_fault, has_pawns_inside, position_of, start_position}

pub start_read : position_of (codes "rnbqkbnr/pppppppp/8/8/8/8/PPPPPPPP/RNBQKBNR w KQkq -") ≡ Ok start_position
unfolding position_of start_position first_fault has_pawns_inside is_king_attacked attacks is_attacked is_clear is_between every_square some_square squares
start_read = refl

pub ruleset reading = (start_read)
