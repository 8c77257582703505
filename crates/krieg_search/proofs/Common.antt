-- The words of specs/, of this crate and of those below it, that its proofs cite: passed on from one place.
pub use Rattle.krieg_board.specs.Men.{is_same_side}
pub use Rattle.krieg_board.specs.Pos.{Pos}
pub use Rattle.krieg_board.specs.declared.men.Move.{Move}
pub use Rattle.krieg_board.specs.declared.men.Side.{Side}
pub use Rattle.krieg_words.specs.declared.dialects.Dialect.{Dialect}
pub use Rattle.krieg_words.specs.declared.dialects.Dialect.TheVariants.{Wild16}
pub use Rattle.krieg_theory.specs.Can.{begins, can, first_try}
pub use Rattle.krieg_theory.specs.Laws.{BeginsIsWon, CanBegins, CanIsWon, CanPlanIsMated, CanonPlanIsComputed, CanonPlanIsLeast, CanonPlanIsOne, CanonPlanIsThere}
pub use Rattle.krieg_theory.specs.Plans.{can_plan, is_over, opening_set, openings}
pub use Rattle.krieg_theory.specs.Sets.{In, is_nil}
pub use Rattle.krieg_theory.specs.Split.{class, keys, legal_in_some, refused, stale_in_some, tries}
pub use Rattle.krieg_costs.specs.Backing.{floor_price}
pub use Rattle.krieg_costs.specs.Block.{Lives, LostRefused, NoBlock, Stale, block, by_class, lives_in_some, pair_of}
pub use Rattle.krieg_costs.specs.Cost.{first_made, made, price}
pub use Rattle.krieg_costs.specs.Laws.{BackingIsLeast, FloorIsAtMostFresh, FreshIsAtMostCost, ReachIsLeast, RefutationExcludes}
pub use Rattle.krieg_costs.specs.Reach.{fresh, reach_of}
pub use Rattle.krieg_costs.specs.Sums.{IsOnce, once, total}
pub use Rattle.krieg_accounts.specs.Answers.{AnswersSets, LostBelow, classes, opening_sets}
pub use Rattle.krieg_accounts.specs.Charges.{charged}
pub use Rattle.krieg_accounts.specs.Sound.{IsBacked, IsSound, StoredLost, StoredWon, known}
pub use Rattle.krieg_accounts.specs.Stored.{AddsResult, Entries, pairs, stored}
pub use Rattle.krieg_accounts.specs.Stretch.{CoversPair, CoversSet, CoversSets, CoversTries, CoversTry, FallsShort, IsStretch}
pub use Rattle.krieg_pack.specs.Order.{position_lt}
pub use Rattle.krieg_game.specs.Chess.{chess}
pub use Rattle.krieg_game.specs.Classes.{class_pair}
pub use Rattle.krieg_game.specs.Keys.{Key, RootKey}
unfoldable pub use Rattle.krieg_game.specs.Outset.{starts, waits}
pub use Rattle.krieg_game.specs.Outset.{outset}
pub use Rattle.krieg_nets.specs.Seen.{flees, mates_within}
pub use Rattle.krieg_parting.specs.declared.stop.PartStop.{PartStop}
unfoldable pub use Rattle.krieg_table.specs.Entries.{entries}
pub use Rattle.krieg_table.specs.Entries.{try_of}
pub use Rattle.krieg_table.specs.SetRows.{SetRows, set_at, sets}
pub use Rattle.krieg_table.specs.Table.{IsMore, IsNext, IsNoted}
pub use Rattle.krieg_table.specs.declared.set_result.SetResult.{SetResult}
pub use Rattle.krieg_table.specs.declared.set_result.SetResult.TheVariants.{Loses, Wins}
pub use Rattle.krieg_split.specs.Firsts.{first_cost, first_set}
pub use Rattle.krieg_split.specs.LastMove.{SomeLives}
pub use Rattle.krieg_split.specs.Openings.{opened_set}
pub use Rattle.krieg_split.specs.Tallies.{AreTallies, tally_of}
pub use Rattle.krieg_parting.specs.Turns.{IsOthersTurn, IsOwnTurn}
pub use Rattle.krieg_split.specs.Units.{Charges, IsPaid}
pub use Rattle.krieg_split.specs.declared.firsts.Firsts.{Firsts}
pub use Rattle.krieg_search.specs.Blocks.{TellsBlock, TellsFirst}
pub use Rattle.krieg_search.specs.WonSets.{IsPaidFor, WinsAreBelow, WonBy}
pub use Rattle.krieg_search.specs.Decision.{IsAccount, IsAsked, IsAsking, IsBetween, IsDecision, IsFound, IsLost, IsWon, sets_in}
pub use Rattle.krieg_search.specs.Laws.{AccountIsBetween}
pub use Rattle.krieg_search.specs.Remainders.{FailsAtOnce, IsRemainder, Leaves}
pub use Rattle.krieg_search.specs.LostParts.{HasLostPart}
pub use Rattle.krieg_search.specs.Notes.{AreNotes, IsBlock, IsLostPart, IsRow, NoteState, Rows, items_of, notes_in, same_asked}
pub use Rattle.krieg_search.specs.Openings.{AddsSets, AreAdded, AreNumbered, IsAdded, IsOpened, opening_in}
pub use Rattle.krieg_search.specs.Stretches.{AreCounted, IsAtWork, IsNumbered, IsReady, IsSearched, Stretches, TellsSet, TellsSets, TellsTry, sets_of}
pub use Rattle.krieg_search.specs.Stops.{stop_of}
pub use Rattle.krieg_search.specs.Tries.{IsTold, move_of}
pub use Rattle.krieg_search.specs.declared.decide.Outlook.{Outlook}
pub use Rattle.krieg_search.specs.declared.decide.Decision.{Decision}
pub use Rattle.krieg_search.specs.declared.decide.Decision.TheVariants.{Over}
pub use Rattle.krieg_search.specs.declared.decide.Findings.{Findings}
pub use Rattle.krieg_search.specs.declared.remainder.Remainder.{Remainder}
pub use Rattle.krieg_search.specs.declared.notes.Question.{Question}
pub use Rattle.krieg_search.specs.declared.notes.Block.{Block}
pub use Rattle.krieg_search.specs.declared.notes.Block.TheVariants.{AtOnce, Refused}
pub use Rattle.krieg_search.specs.declared.notes.Note.{Note}
pub use Rattle.krieg_search.specs.declared.openings.Opening.{Opening}
pub use Rattle.krieg_search.specs.declared.stop.SearchStop.{SearchStop}
pub use Rattle.krieg_search.specs.declared.stop.SearchStop.TheVariants.{Large}
pub use Rattle.krieg_search.specs.declared.try_list.Try.TheVariants.{Counted, Plain}
