-- Whose turn it is in the members of a set.
pub use Rattle.krieg_parting.specs.Turns.{IsOwnTurn, IsOthersTurn}
