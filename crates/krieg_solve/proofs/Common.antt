-- The words of specs/, of this crate and of those below it, that its proofs cite: passed on from one place.
pub use Rattle.krieg_board.specs.Pos.{Pos}
pub use Rattle.krieg_board.specs.declared.men.Move.{Move}
pub use Rattle.krieg_board.specs.declared.men.Side.{Side}
pub use Rattle.krieg_words.specs.declared.dialects.Dialect.{Dialect}
pub use Rattle.krieg_theory.specs.Can.{begins, can, least}
pub use Rattle.krieg_theory.specs.Canonical.{AreCanon, IsCanon, IsCanonOther}
pub use Rattle.krieg_theory.specs.Computed.{canon, edge_with, edges_of}
pub use Rattle.krieg_theory.specs.Plans.{AreCanonRoots, IsCanonPlan, all_starts, can_plan, canon_plan, canon_worst, greatest, opening_set, openings, root_with, roots_of}
pub use Rattle.krieg_theory.specs.Sets.{Ascending, In, is_nil}
pub use Rattle.krieg_theory.specs.Split.{all_outcomes, class, keys, legal_in_some, refused, tries}
pub use Rattle.krieg_theory.specs.Tree.{Edges, Just, Maybe, NoEdges, Nothing, depth, depth_edges, depth_other, size, size_edges, size_other}
pub use Rattle.krieg_costs.specs.Backing.{floor_price}
pub use Rattle.krieg_costs.specs.Cost.{cost_of, first_made, made, price}
pub use Rattle.krieg_costs.specs.Reach.{reach_of}
pub use Rattle.krieg_costs.specs.Sums.{IsOnce, once, total}
pub use Rattle.krieg_accounts.specs.Answers.{opening_sets}
pub use Rattle.krieg_accounts.specs.Charges.{all_owed, charged, owed}
pub use Rattle.krieg_accounts.specs.Laws.{refused_canon}
pub use Rattle.krieg_accounts.specs.Sound.{known}
pub use Rattle.krieg_accounts.specs.Stored.{Entries, pairs, stored}
pub use Rattle.krieg_accounts.specs.Stretch.{CoversSets, CoversTries, CoversTry}
pub use Rattle.krieg_pack.specs.Order.{position_lt}
pub use Rattle.krieg_game.specs.Chess.{chess}
pub use Rattle.krieg_game.specs.Classes.{class_pair}
pub use Rattle.krieg_game.specs.Keys.{Key, RootKey, key_lt, root_lt}
pub use Rattle.krieg_game.specs.Outset.{outset}
pub use Rattle.krieg_plan.specs.Nodes.{as_edges, as_other, edge_of, tree_of}
pub use Rattle.krieg_plan.specs.Order.{are_ordered, are_ordered_roots, is_ascending, is_ordered, is_ordered_other, is_ordered_plan}
pub use Rattle.krieg_plan.specs.Plans.{plan_of}
pub use Rattle.krieg_plan.specs.Roots.{root_of}
pub use Rattle.krieg_plan.specs.Trees.{NodeTree, PlanTrees, plan_depth, plan_size}
pub use Rattle.krieg_plan.specs.declared.limits.TheConstants.{MOST_ON_PATH}
pub use Rattle.krieg_plan.specs.declared.node.Edge.TheOpen.{Edge-F}
pub use Rattle.krieg_plan.specs.declared.node.Edge.TheViews.{roll-Edge}
pub use Rattle.krieg_plan.specs.declared.node.Node.{Node}
pub use Rattle.krieg_plan.specs.declared.plan.Root.{Root}
pub use Rattle.krieg_parting.specs.declared.parts.Parted.{Parted}
pub use Rattle.krieg_table.specs.Entries.{entries}
pub use Rattle.krieg_table.specs.SetRows.{SetRows, set_at, sets}
pub use Rattle.krieg_table.specs.declared.set_result.Win.{Win}
pub use Rattle.krieg_split.specs.Parts.{IsParted}
pub use Rattle.krieg_search.specs.WonSets.{IsPaidFor, WonBy}
pub use Rattle.krieg_search.specs.Decision.{IsAccount, IsAsked, IsDecision, IsWon, sets_in}
pub use Rattle.krieg_search.specs.Openings.{AddsSets, AreNumbered, opening_in}
pub use Rattle.krieg_search.specs.Stretches.{IsAtWork, IsReady, IsSearched, Stretches, TellsTry, sets_of}
pub use Rattle.krieg_search.specs.declared.decide.Outlook.{Outlook}
pub use Rattle.krieg_search.specs.declared.decide.Findings.{Findings}
pub use Rattle.krieg_search.specs.declared.openings.Opening.{Opening}
pub use Rattle.krieg_search.specs.declared.stop.SearchStop.{SearchStop}
pub use Rattle.krieg_search.specs.declared.stop.SearchStop.TheVariants.{Large}
pub use Rattle.krieg_solve.specs.Building.{Builds, edges_for, roots_for, with_root}
pub use Rattle.krieg_solve.specs.Laws.{KeysAreWon}
pub use Rattle.krieg_solve.specs.BuiltPlan.{IsPlan, IsPlanned, IsUnfit}
pub use Rattle.krieg_solve.specs.KeyTries.{AreKeys, IsKeyAnswer, IsTaken, IsWithinFresh, key_tries, key_try, keys_of, told_of}
pub use Rattle.krieg_solve.specs.SetKeys.{AreKeysAt, AreSetKeys, behind, later_price, look_price, least_pair, numbers_of, set_keys, told_set}
pub use Rattle.krieg_solve.specs.Solutions.{HasAccount, IsAnswer, IsBest, IsCharged, IsChargedAtMost, IsLarge, NoneMates, Takes}
pub use Rattle.krieg_solve.specs.declared.best_plan.Answer.{Answer}
pub use Rattle.krieg_solve.specs.declared.best_plan.Answer.TheVariants.{Mates, None}
pub use Rattle.krieg_solve.specs.declared.keys.KeyTry.{KeyTry}
pub use Rattle.krieg_solve.specs.declared.keys.KeysAt.{KeysAt}
pub use Rattle.krieg_solve.specs.declared.keys.Keys.{Keys}
pub use Rattle.krieg_solve.specs.declared.keys.KeyAnswer.{KeyAnswer}
pub use Rattle.krieg_solve.specs.declared.set_keys.SetKeys.{SetKeys}
