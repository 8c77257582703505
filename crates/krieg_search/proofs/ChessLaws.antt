-- The theorems on plans, costs and refutations, for chess.
use Rattle.krieg_search.proofs.Common.{Side, Dialect, CanBegins, CanIsWon, BeginsIsWon, CanPlanIsMated, CanonPlanIsOne, CanonPlanIsThere, CanonPlanIsLeast, CanonPlanIsComputed, ReachIsLeast, FreshIsAtMostCost, BackingIsLeast, FloorIsAtMostFresh, RefutationExcludes, chess, outset}
use Rattle.krieg_theory.proofs.Theorems as theory
use Rattle.krieg_costs.proofs.Costs as costs
use Rattle.krieg_costs.proofs.Reached as reached
use Rattle.krieg_costs.proofs.Backed as backed
use Rattle.krieg_costs.proofs.Refuted as refuted
use Rattle.krieg_game.proofs.ChessLaws.{chess_is_game, outset_is_lawful}

module _ (d : Dialect) where
  pub can_begins : CanBegins (chess d)
  can_begins = theory.can_begins (chess d) (chess_is_game d)

  pub can_is_won : CanIsWon (chess d)
  can_is_won = theory.can_is_won (chess d) (chess_is_game d)

  pub begins_is_won : BeginsIsWon (chess d)
  begins_is_won = theory.begins_is_won (chess d) (chess_is_game d)

module _ (d : Dialect) (who : Side) where
  pub can_plan_is_mated : CanPlanIsMated (chess d) (outset d who)
  can_plan_is_mated = theory.can_plan_is_mated (chess d) (chess_is_game d) (outset d who) (outset_is_lawful d who)

  pub canon_plan_is_one : CanonPlanIsOne (chess d) (outset d who)
  canon_plan_is_one = theory.canon_plan_is_one (chess d) (chess_is_game d) (outset d who) (outset_is_lawful d who)

  pub canon_plan_is_there : CanonPlanIsThere (chess d) (outset d who)
  canon_plan_is_there = theory.canon_plan_is_there (chess d) (chess_is_game d) (outset d who) (outset_is_lawful d who)

  pub canon_plan_is_least : CanonPlanIsLeast (chess d) (outset d who)
  canon_plan_is_least = theory.canon_plan_is_least (chess d) (chess_is_game d) (outset d who) (outset_is_lawful d who)

  pub canon_plan_is_computed : CanonPlanIsComputed (chess d) (outset d who)
  canon_plan_is_computed = theory.canon_plan_is_computed (chess d) (chess_is_game d) (outset d who) (outset_is_lawful d who)

  pub reach_is_least : ReachIsLeast (chess d) (outset d who)
  reach_is_least = reached.reach_is_least (chess d) (chess_is_game d) (outset d who) (outset_is_lawful d who)

  pub backing_is_least : BackingIsLeast (chess d) (outset d who)
  backing_is_least = backed.backing_is_least (chess d) (chess_is_game d) (outset d who) (outset_is_lawful d who)

  pub floor_is_at_most_fresh : FloorIsAtMostFresh (chess d) (outset d who)
  floor_is_at_most_fresh = backed.floor_is_at_most_fresh (chess d) (chess_is_game d) (outset d who) (outset_is_lawful d who)

  pub fresh_is_at_most_cost : FreshIsAtMostCost (chess d) (outset d who)
  fresh_is_at_most_cost = costs.fresh_is_at_most_cost (chess d) (chess_is_game d) (outset d who)

  pub refutation_excludes : RefutationExcludes (chess d) (outset d who)
  refutation_excludes = refuted.refutation_excludes (chess d) (chess_is_game d) (outset d who) (outset_is_lawful d who)
