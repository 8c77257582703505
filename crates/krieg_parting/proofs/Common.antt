-- The words of specs/, of this crate and of those below it, that its proofs cite: passed on from one place.
pub use Rattle.krieg_board.specs.Men.{is_same_side}
pub use Rattle.krieg_board.specs.Pos.{Pos}
pub use Rattle.krieg_board.specs.declared.men.Move.{Move}
pub use Rattle.krieg_board.specs.declared.men.Side.{Side}
unfoldable pub use Rattle.krieg_moves.specs.After.{after}
unfoldable pub use Rattle.krieg_moves.specs.Legal.{is_legal}
unfoldable pub use Rattle.krieg_moves.specs.Moves.{is_ended, is_mate, moves}
unfoldable pub use Rattle.krieg_words.specs.WordsOfMoves.{opening}
pub use Rattle.krieg_words.specs.ToldWords.{silent}
pub use Rattle.krieg_words.specs.declared.dialects.Dialect.{Dialect}
pub use Rattle.krieg_theory.specs.Plans.{is_over}
pub use Rattle.krieg_theory.specs.Split.{all_outcomes, given, mates_at, refused, stale_in_some}
pub use Rattle.krieg_costs.specs.Block.{lives_in_some}
pub use Rattle.krieg_costs.specs.Cost.{made}
pub use Rattle.krieg_costs.specs.Sums.{total}
unfoldable pub use Rattle.krieg_pack.specs.Members.{set_of}
pub use Rattle.krieg_game.specs.Buckets.{Holds}
unfoldable pub use Rattle.krieg_game.specs.Chess.{outcomes, stalemates}
pub use Rattle.krieg_game.specs.Chess.{chess, outcome}
pub use Rattle.krieg_game.specs.ClassLaws.{first_outcomes, opened}
unfoldable pub use Rattle.krieg_game.specs.Classes.{outcome_set}
unfoldable pub use Rattle.krieg_game.specs.Outset.{starts, waits}
pub use Rattle.krieg_game.specs.Outset.{first_move, outset}
pub use Rattle.krieg_parting.specs.Charges.{Charges}
pub use Rattle.krieg_parting.specs.FirstMoves.{AreFirstMoves, IsAdvanced}
pub use Rattle.krieg_parting.specs.Gathering.{IsAdded, IsGathered}
pub use Rattle.krieg_parting.specs.Mating.{AreTried, IsMating, IsTried, lives, looked_at, refuses, replies}
pub use Rattle.krieg_parting.specs.Turns.{IsOthersTurn}
pub use Rattle.krieg_parting.specs.Wants.{is_wanted}
pub use Rattle.krieg_parting.specs.declared.firsts.FirstMoves.{FirstMoves}
pub use Rattle.krieg_parting.specs.declared.last_move.Mating.{Mating}
pub use Rattle.krieg_parting.specs.declared.parts.Attempt.{Attempt}
pub use Rattle.krieg_parting.specs.declared.parts.UnsortedParts.{UnsortedParts}
pub use Rattle.krieg_parting.specs.declared.stop.PartStop.{PartStop}
pub use Rattle.krieg_parting.specs.declared.stop.PartStop.TheVariants.{NoMemory, Spent}
