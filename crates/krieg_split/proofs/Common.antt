-- The words of specs/, of this crate and of those below it, that its proofs cite: passed on from one place.
pub use Rattle.krieg_board.specs.Men.{is_same_side}
pub use Rattle.krieg_board.specs.Order.{move_cmp, move_lt}
pub use Rattle.krieg_board.specs.Pos.{Pos}
pub use Rattle.krieg_board.specs.declared.men.Move.{Move}
pub use Rattle.krieg_board.specs.declared.men.Side.{Side}
unfoldable pub use Rattle.krieg_moves.specs.After.{after}
unfoldable pub use Rattle.krieg_moves.specs.Legal.{is_legal}
unfoldable pub use Rattle.krieg_moves.specs.Moves.{all_moves, is_mate, moves}
unfoldable pub use Rattle.krieg_words.specs.WordNumbers.{words_number}
pub use Rattle.krieg_words.specs.Words.{IsSaid, Said}
pub use Rattle.krieg_words.specs.ToldWords.{silent}
pub use Rattle.krieg_words.specs.declared.dialects.Dialect.{Dialect}
pub use Rattle.krieg_words.specs.declared.dialects.Dialect.TheVariants.{Wild16}
pub use Rattle.krieg_words.specs.declared.word_numbers.TheConstants.{WORDS_LIMIT}
pub use Rattle.krieg_theory.specs.Can.{begins, can}
pub use Rattle.krieg_theory.specs.Sets.{Ascending, In, as_set, at_key, insert_once, is_nil, same}
pub use Rattle.krieg_theory.specs.Split.{all_outcomes, class, given, keys, legal_in_some, refused, stale_in_some}
pub use Rattle.krieg_costs.specs.Block.{lives_in_some}
pub use Rattle.krieg_costs.specs.Cost.{first_made, made}
pub use Rattle.krieg_costs.specs.Refutation.{is_within}
pub use Rattle.krieg_costs.specs.Sums.{total}
unfoldable pub use Rattle.krieg_pack.specs.Members.{set_of}
pub use Rattle.krieg_pack.specs.Members.{IsAscending}
pub use Rattle.krieg_pack.specs.Order.{position_lt}
pub use Rattle.krieg_game.specs.Chess.{chess}
pub use Rattle.krieg_game.specs.ClassLaws.{both_heard, first_outcomes, opened, opening_sets}
pub use Rattle.krieg_game.specs.Classes.{class_pair, classes_in}
unfoldable pub use Rattle.krieg_game.specs.KeyNumbers.{key_at, key_number}
pub use Rattle.krieg_game.specs.KeyNumbers.{AreSaid}
pub use Rattle.krieg_game.specs.Keys.{Key, RootKey, key_lt}
pub use Rattle.krieg_game.specs.Outcomes.{KeyedPosition}
unfoldable pub use Rattle.krieg_game.specs.Outset.{starts, waits}
pub use Rattle.krieg_game.specs.Outset.{outset}
pub use Rattle.krieg_game.specs.declared.classes.Class.{Class}
pub use Rattle.krieg_parting.specs.FirstMoves.{AreFirstMoves}
pub use Rattle.krieg_parting.specs.Gathering.{IsGathered, whole_try}
pub use Rattle.krieg_parting.specs.Mating.{AreTried, IsMating, lives, refuses, replies}
pub use Rattle.krieg_parting.specs.declared.firsts.FirstMoves.{FirstMoves}
pub use Rattle.krieg_parting.specs.declared.last_move.Mating.{Mating}
pub use Rattle.krieg_parting.specs.declared.stop.PartStop.{PartStop}
pub use Rattle.krieg_parting.specs.declared.stop.PartStop.TheVariants.{NoMemory, Spent}
pub use Rattle.krieg_split.specs.Firsts.{AreFirsts, AreOpeningSets, first_cost, first_pair}
pub use Rattle.krieg_split.specs.LastMove.{AllMate, IsLastMove}
pub use Rattle.krieg_split.specs.Laws.{ClassesAreSets, RefusedIsSet}
unfoldable pub use Rattle.krieg_split.specs.MoveSets.{move_set}
pub use Rattle.krieg_split.specs.MoveSets.{AllBefore, IsPut}
pub use Rattle.krieg_split.specs.Openings.{heard_first, opened_pair, opened_set}
pub use Rattle.krieg_split.specs.PackedKey.{IsPacked, bytes_of, number_of, unpacked}
pub use Rattle.krieg_split.specs.Tallies.{AreTallies, tally_of, tally_with}
pub use Rattle.krieg_parting.specs.Turns.{IsOthersTurn, IsOwnTurn}
pub use Rattle.krieg_split.specs.Units.{Charges, IsPaid}
pub use Rattle.krieg_split.specs.declared.firsts.Firsts.{Firsts}
pub use Rattle.krieg_split.specs.declared.large.TheConstants.{MOST_COUNTED}
pub use Rattle.krieg_split.specs.declared.member_moves.MemberMoves.{MemberMoves}
pub use Rattle.krieg_split.specs.declared.opening_sets.OpeningSet.{OpeningSet}
pub use Rattle.krieg_split.specs.declared.tallies.Tally.{Tally}
