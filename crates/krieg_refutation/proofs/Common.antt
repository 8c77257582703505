-- The words of specs/, of this crate and of those below it, that its proofs cite: passed on from one place.
pub use Rattle.krieg_board.specs.Men.{is_same_side}
pub use Rattle.krieg_board.specs.Order.{move_cmp, move_lt}
pub use Rattle.krieg_board.specs.Pos.{Pos}
pub use Rattle.krieg_board.specs.declared.men.Move.{Move}
pub use Rattle.krieg_board.specs.declared.men.Side.{Side}
unfoldable pub use Rattle.krieg_moves.specs.Legal.{is_legal}
pub use Rattle.krieg_words.specs.ToldWords.{told}
unfoldable pub use Rattle.krieg_words.specs.Words.{words_cmp}
unfoldable pub use Rattle.krieg_words.specs.WordsOfMoves.{opening}
pub use Rattle.krieg_words.specs.declared.dialects.Dialect.{Dialect}
pub use Rattle.krieg_theory.specs.Game.{Game, IsGame}
pub use Rattle.krieg_theory.specs.Plans.{opening_set, openings}
pub use Rattle.krieg_theory.specs.Sets.{is_nil, same}
pub use Rattle.krieg_theory.specs.Split.{class, keys, legal_in_some, mates_at, refused, stale_in_some, tries}
pub use Rattle.krieg_costs.specs.Block.{lives_in_some}
pub use Rattle.krieg_costs.specs.Cost.{made}
pub use Rattle.krieg_costs.specs.Refutation.{are_reasons, cited, claim_holds, claims_hold, holds, is_within, last_of}
pub use Rattle.krieg_costs.specs.Sums.{total}
unfoldable pub use Rattle.krieg_pack.specs.Members.{set_of}
pub use Rattle.krieg_pack.specs.Members.{IsAscending, IsSetOf}
pub use Rattle.krieg_pack.specs.Order.{position_lt}
unfoldable pub use Rattle.krieg_game.specs.Chess.{stalemates}
pub use Rattle.krieg_game.specs.Chess.{chess}
pub use Rattle.krieg_game.specs.Classes.{class_pair}
pub use Rattle.krieg_game.specs.Keys.{Key, RootKey, key_lt}
pub use Rattle.krieg_game.specs.Outset.{outset}
pub use Rattle.krieg_parting.specs.Mating.{refuses}
pub use Rattle.krieg_parting.specs.declared.parts.Parted.{Parted}
pub use Rattle.krieg_parting.specs.declared.stop.PartStop.{PartStop}
pub use Rattle.krieg_split.specs.Parts.{IsParted}
pub use Rattle.krieg_split.specs.Tallies.{tally_of}
pub use Rattle.krieg_parting.specs.Turns.{IsOwnTurn}
pub use Rattle.krieg_split.specs.Units.{Charges}
pub use Rattle.krieg_split.specs.declared.tallies.Tally.{Tally}
pub use Rattle.krieg_refutation.specs.Exclusion.{NoneMates}
pub use Rattle.krieg_refutation.specs.Reasons.{AreLast, class_in, holds_at, holds_if_own, opens_with, price_at, try_holds, within_opening}
pub use Rattle.krieg_refutation.specs.Refutations.{claim_of, claims_of, claims_price, is_own_turn, reason_of, why_of}
unfoldable pub use Rattle.krieg_refutation.specs.TryResults.{IsTryResult}
pub use Rattle.krieg_refutation.specs.declared.denial.PlacedClaim.{PlacedClaim}
pub use Rattle.krieg_refutation.specs.declared.refutation.Refutation.{Refutation}
pub use Rattle.krieg_refutation.specs.declared.refutation.Why.{Why}
