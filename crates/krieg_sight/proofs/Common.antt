-- The words of specs/, of this crate and of those below it, that its proofs cite: passed on from one place.
pub use Rattle.krieg_board.specs.Pos.{Pos}
pub use Rattle.krieg_board.specs.declared.men.Move.{Move}
unfoldable pub use Rattle.krieg_moves.specs.After.{after}
unfoldable pub use Rattle.krieg_moves.specs.Legal.{is_legal}
unfoldable pub use Rattle.krieg_moves.specs.Moves.{all_moves, in_check, is_ended, is_mate, is_stalemate, moves}
pub use Rattle.krieg_moves.specs.Moves.{is_nil}
unfoldable pub use Rattle.krieg_words.specs.WordsOfMoves.{words}
pub use Rattle.krieg_words.specs.declared.dialects.Dialect.{Dialect}
pub use Rattle.krieg_words.specs.declared.dialects.Dialect.TheVariants.{Wild16}
pub use Rattle.krieg_theory.specs.Seen.{escapes, escapes_in_some, mates_with, sees}
pub use Rattle.krieg_theory.specs.Sets.{In}
pub use Rattle.krieg_pack.specs.Order.{position_eq}
pub use Rattle.krieg_pack.specs.SameNumbers.{equal_position}
unfoldable pub use Rattle.krieg_game.specs.Chess.{outcomes, stalemates}
pub use Rattle.krieg_game.specs.Chess.{chess, outcome}
pub use Rattle.krieg_game.specs.Keys.{Key}
pub use Rattle.krieg_sight.specs.Laws.{EscapesIsFlees, SeesIsMates}
pub use Rattle.krieg_sight.specs.Memo.{AreRight, IsRight, Memo}
pub use Rattle.krieg_nets.specs.Seen.{flees, is_met, leaves_none, mates_within}
pub use Rattle.krieg_sight.specs.declared.told.Told.{Told}
