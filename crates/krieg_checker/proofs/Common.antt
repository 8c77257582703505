-- The words of specs/, of this crate and of those below it, that its proofs cite: passed on from one place.
pub use Rattle.krieg_board.specs.Men.{is_same_side}
pub use Rattle.krieg_board.specs.Pos.{Pos}
pub use Rattle.krieg_board.specs.declared.men.Move.{Move}
pub use Rattle.krieg_board.specs.declared.men.Side.{Side}
unfoldable pub use Rattle.krieg_moves.specs.Moves.{is_ended, moves}
pub use Rattle.krieg_words.specs.ToldWords.{silent}
pub use Rattle.krieg_words.specs.declared.dialects.Dialect.{Dialect}
pub use Rattle.krieg_theory.specs.Game.{Game, IsGame}
pub use Rattle.krieg_theory.specs.Plans.{IsOutset, IsWorst, Outset, Plan, all_starts, is_over, mates, opening_set, openings, wins_root}
pub use Rattle.krieg_theory.specs.Sets.{In, IsOrder, as_set, at_key, is_nil, keys_in, same}
pub use Rattle.krieg_theory.specs.Split.{all_outcomes, class, given, keys, refused, stale_in_some}
pub use Rattle.krieg_theory.specs.Tree.{Edge, Edges, Just, Maybe, NoEdges, Nothing, Tree, Try, first_edge, first_root, size, size_edges, size_other}
pub use Rattle.krieg_theory.specs.Wins.{wins, wins_at, wins_other}
pub use Rattle.krieg_costs.specs.Block.{lives_in_some}
pub use Rattle.krieg_costs.specs.Cost.{made}
pub use Rattle.krieg_costs.specs.Sums.{IsOnce, total}
unfoldable pub use Rattle.krieg_pack.specs.Members.{set_of}
pub use Rattle.krieg_pack.specs.Members.{IsAscending}
pub use Rattle.krieg_pack.specs.Order.{position_lt}
pub use Rattle.krieg_game.specs.Chess.{chess}
pub use Rattle.krieg_game.specs.ClassLaws.{first_outcomes, opened}
pub use Rattle.krieg_game.specs.Classes.{class_pair, classes_in}
pub use Rattle.krieg_game.specs.Keys.{Key, RootKey, key_lt}
unfoldable pub use Rattle.krieg_game.specs.Outset.{starts, waits}
pub use Rattle.krieg_game.specs.Outset.{outset}
pub use Rattle.krieg_plan.specs.Nodes.{as_edges, as_other, edge_of, tree_of}
pub use Rattle.krieg_plan.specs.Order.{is_ordered, is_ordered_other}
pub use Rattle.krieg_plan.specs.Plans.{plan_of}
pub use Rattle.krieg_plan.specs.Trees.{NodeTree, PlanTrees, edges_in, first_root_in}
pub use Rattle.krieg_plan.specs.declared.node.Edge.TheViews.{out-Node}
pub use Rattle.krieg_plan.specs.declared.node.Node.{Node}
pub use Rattle.krieg_plan.specs.declared.plan.PlanFile.{PlanFile}
pub use Rattle.krieg_parting.specs.Charges.{Charges}
pub use Rattle.krieg_parting.specs.FirstMoves.{AreFirstMoves}
pub use Rattle.krieg_parting.specs.Gathering.{IsGathered, whole_try}
pub use Rattle.krieg_parting.specs.Mating.{IsMating}
pub use Rattle.krieg_parting.specs.Parts.{IsParted}
pub use Rattle.krieg_parting.specs.Turns.{IsOthersTurn, IsOwnTurn}
pub use Rattle.krieg_parting.specs.declared.parts.Parted.{Parted}
pub use Rattle.krieg_parting.specs.declared.stop.PartStop.{PartStop}
pub use Rattle.krieg_checker.specs.CheckCost.{check_cost, first_cost, pair_cost}
pub use Rattle.krieg_checker.specs.Needs.{Tells, all_won, all_won_other, one_more, own_need, within, worse}
pub use Rattle.krieg_checker.specs.Laws.{ReachedIsLeast, ReachedIsOnce}
pub use Rattle.krieg_checker.specs.Reach.{From, IsClosed, No, On, Pair, Path, Step, first_pairs, next_at, next_pairs, pair_at, reached, reached_at, reached_from, reached_other}
pub use Rattle.krieg_checker.specs.Starting.{IsFirstTurn, heard_of, roots_cost, roots_won}
pub use Rattle.krieg_checker.specs.NodeTries.{IsEnd, IsNodeTry}
pub use Rattle.krieg_checker.specs.Verdict.{IsVerdict, verdict}
pub use Rattle.krieg_checker.specs.Walk.{classes_cost, classes_won, edge_cost, node_cost, other_cost, other_in, try_in}
pub use Rattle.krieg_checker.specs.declared.plan_check.PlanVerdict.TheVariants.{Fails, Mates}
pub use Rattle.krieg_checker.specs.declared.start.FirstTurn.{FirstTurn}
pub use Rattle.krieg_checker.specs.declared.node_try.NodeTry.{NodeTry}
pub use Rattle.krieg_checker.specs.declared.walk.TheConstants.{MOST_COUNTED}
