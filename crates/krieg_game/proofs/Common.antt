-- The words of specs/, of this crate and of those below it, that its proofs cite: passed on from one place.
pub use Rattle.krieg_board.specs.Men.{is_same_side}
pub use Rattle.krieg_board.specs.Order.{move_cmp, move_lt}
pub use Rattle.krieg_board.specs.Pos.{Pos}
pub use Rattle.krieg_board.specs.declared.men.Move.{Move}
pub use Rattle.krieg_board.specs.declared.men.Side.{Side}
unfoldable pub use Rattle.krieg_moves.specs.After.{after}
unfoldable pub use Rattle.krieg_moves.specs.Legal.{is_legal}
unfoldable pub use Rattle.krieg_moves.specs.Moves.{all_moves, in_check, is_ended, is_mate, is_stalemate, moves}
pub use Rattle.krieg_words.specs.ToldWords.{told}
unfoldable pub use Rattle.krieg_words.specs.WordNumbers.{words_at, words_number}
unfoldable pub use Rattle.krieg_words.specs.Words.{words_cmp}
pub use Rattle.krieg_words.specs.Words.{IsSaid, Said}
unfoldable pub use Rattle.krieg_words.specs.WordsOfMoves.{opening, words}
pub use Rattle.krieg_words.specs.declared.dialects.Dialect.{Dialect}
pub use Rattle.krieg_words.specs.declared.word_numbers.TheConstants.{WORDS_LIMIT}
pub use Rattle.krieg_theory.specs.Game.{IsGame}
pub use Rattle.krieg_theory.specs.Laws.{ComesBy, MoreMovesMate, MoreMovesWin, WorstIsThere}
pub use Rattle.krieg_theory.specs.Plans.{IsOutset, Plan, all_starts, opening_set, openings, wins_root}
pub use Rattle.krieg_theory.specs.Sets.{Ascending, In, IsOrder, at_key, insert_once, is_nil, keys_in, same}
pub use Rattle.krieg_theory.specs.Tree.{Try}
pub use Rattle.krieg_theory.specs.Wins.{wins_at}
unfoldable pub use Rattle.krieg_pack.specs.Members.{set_of}
pub use Rattle.krieg_pack.specs.Members.{IsAscending}
pub use Rattle.krieg_pack.specs.Order.{position_cmp, position_eq, position_lt}
pub use Rattle.krieg_pack.specs.OrderLaws.{position_total}
pub use Rattle.krieg_pack.specs.SameNumbers.{same_position}
pub use Rattle.krieg_game.specs.Buckets.{AreBuckets, Gains, Holds, IsAsBefore, IsPlace, IsTrimmed, bucket_class, outcomes_in, outcomes_of}
unfoldable pub use Rattle.krieg_game.specs.Chess.{outcomes, stalemates}
pub use Rattle.krieg_game.specs.Chess.{chess, outcome}
pub use Rattle.krieg_game.specs.ClassLaws.{FirstMovesAreClassed, OpeningsAreClassed, OutcomesAreClassed, SetsHaveTheClasses, SetsMayGrow, first_heard, first_outcomes}
unfoldable pub use Rattle.krieg_game.specs.Classes.{outcome_set}
pub use Rattle.krieg_game.specs.Classes.{class_at, class_pair, classes_in, outcome_lt}
unfoldable pub use Rattle.krieg_game.specs.KeyNumbers.{key_at, key_number}
pub use Rattle.krieg_game.specs.KeyNumbers.{AreSaid}
pub use Rattle.krieg_game.specs.Keys.{Key, RootKey, heard_cmp, key_cmp, key_lt, root_cmp, root_lt}
pub use Rattle.krieg_game.specs.Laws.{ClassesComeAbout, ComesAbout, IllegalTryGoesOn, IsStrict, LegalTryWins, MatesAtOnce, NothingWinsInNone, OutcomesAreReplies, RefusedAscends, is_answered, told_of}
pub use Rattle.krieg_game.specs.Outcomes.{KeyedPosition, outcome_cmp}
unfoldable pub use Rattle.krieg_game.specs.Outset.{starts, waits}
pub use Rattle.krieg_game.specs.Outset.{first_move, outset}
pub use Rattle.krieg_game.specs.OutsetLaws.{ComesFirst, MatesFromEach, OpeningsAreMembers, OpeningsComeFirst, OpeningsOccur, OverIsEnded, mates_from}
pub use Rattle.krieg_game.specs.PackedKey.{IsPacked, unpacked_key}
pub use Rattle.krieg_game.specs.declared.bucket.Bucket.{Bucket}
pub use Rattle.krieg_game.specs.declared.heard.Heard.TheInside.{Inside}
