-- The words of specs/, of this crate and of those below it, that its proofs cite: passed on from one place.
pub use Rattle.krieg_theory.specs.Can.{begins, can, first_try, least}
pub use Rattle.krieg_theory.specs.Computed.{canon, edges_of, node_of}
pub use Rattle.krieg_theory.specs.Game.{Game, IsGame}
pub use Rattle.krieg_theory.specs.Plans.{IsOutset, Outset, can_plan, is_over, opening_set, openings}
pub use Rattle.krieg_theory.specs.Sets.{Ascending, In, IsOrder, is_nil}
pub use Rattle.krieg_theory.specs.Split.{class, keys, legal_in_some, refused, stale_in_some, tries}
pub use Rattle.krieg_theory.specs.Toy.{toy, toy_start}
pub use Rattle.krieg_theory.specs.ToyLawful.{lawful, nat_order}
pub use Rattle.krieg_theory.specs.Tree.{Just, Try}
pub use Rattle.krieg_costs.specs.Backing.{first_lost, floor_price}
pub use Rattle.krieg_costs.specs.BackingRules.{HasWon, IsBacking}
pub use Rattle.krieg_costs.specs.Block.{Block, Lives, LostClass, LostRefused, NoBlock, Stale, block, block_pair, by_class, lives_in_some, pair_of}
pub use Rattle.krieg_costs.specs.Cost.{made, price}
pub use Rattle.krieg_costs.specs.Reach.{HasParts, LeadsOn, reach, reach_of}
pub use Rattle.krieg_costs.specs.Sums.{Pair, once, same_pair, total, up_to}
pub use Rattle.krieg_accounts.specs.Answers.{AnswersPlan, AnswersSet, AnswersSets, AnswersTry, LostBelow, classes, opening_sets}
pub use Rattle.krieg_accounts.specs.Charges.{all_owed, charged, owed}
pub use Rattle.krieg_accounts.specs.Laws.{FloorIsCharged, FloorIsTaken, FreshIsEnough, LostIsStretch, NotedIsStretch, PartCan, ResultIsCan, SetsAnswerPlan, ShortIsBelowFresh, ShortOfPair, StoredIsBacking, StoredIsCanon, StretchesJoin, WonIsLeast}
pub use Rattle.krieg_accounts.specs.Sound.{IsBacked, IsEarlier, IsSound, StoredLost, StoredWon, Table, known}
pub use Rattle.krieg_accounts.specs.Stored.{AddsResult, Entries, PairOf, pairs, same_entry, stored}
pub use Rattle.krieg_accounts.specs.Stretch.{CoversPair, CoversSet, CoversSets, CoversTries, CoversTry, FallsShort, IsStretch}
pub use Rattle.krieg_accounts.specs.Toy.{lost_within, of_nought_and_five, of_two, won_within}
