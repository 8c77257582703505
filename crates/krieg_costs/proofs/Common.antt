-- The words of specs/, of this crate and of those below it, that its proofs cite: passed on from one place.
pub use Rattle.krieg_theory.specs.Can.{begins, can, first_try, least}
pub use Rattle.krieg_theory.specs.Game.{Game, IsGame}
pub use Rattle.krieg_theory.specs.Plans.{IsOutset, Outset, can_plan, is_over, mates, opening_set, openings}
pub use Rattle.krieg_theory.specs.Sets.{Ascending, In, IsOrder, as_set, is_nil, same}
pub use Rattle.krieg_theory.specs.Split.{all_outcomes, class, given, keys, legal_in_some, mates_at, refused, stale_in_some, tries}
pub use Rattle.krieg_costs.specs.Backing.{backing, behind, first_lost, floor, floor_price, lost, lost_opening, lost_within, refused_won, won, won_by, won_within}
pub use Rattle.krieg_costs.specs.BackingRules.{HasWon, IsBacking, KeepsLost, KeepsWon}
pub use Rattle.krieg_costs.specs.Block.{Block, Lives, LostClass, LostRefused, NoBlock, Stale, block, block_pair, by_class, lives_in_some, pair_of}
pub use Rattle.krieg_costs.specs.Cost.{cost, cost_within, first_made, made, price, round}
pub use Rattle.krieg_costs.specs.Laws.{BackingIsLeast, BackingIsReached, BlockIsLost, BlockIsThere, CostIsSum, FloorIsAtMostFresh, FreshIsAtMostCost, OnceIsOnce, ReachIsLeast, ReachIsOfSets, RefutationExcludes}
pub use Rattle.krieg_costs.specs.Reach.{HasParts, IsReach, reach, reach_of, reach_within}
pub use Rattle.krieg_costs.specs.Refutation.{ByClass, ByLife, ByRefused, ByStalemate, Claim, Reason, are_reasons, cited, claim_holds, claims_hold, denies, holds, is_shown, is_within, last_of}
pub use Rattle.krieg_costs.specs.Sums.{IsOnce, Pair, once, same_list, same_pair, total, up_to}
