-- The words of specs/, of this crate and of those below it, that its proofs cite: passed on from one place.
pub use Rattle.krieg_board.specs.Pos.{Pos}
pub use Rattle.krieg_board.specs.declared.men.Move.{Move}
pub use Rattle.krieg_words.specs.declared.dialects.Dialect.{Dialect}
pub use Rattle.krieg_theory.specs.Game.{Game, IsGame}
pub use Rattle.krieg_theory.specs.Plans.{IsOutset, IsWorst, Outset, Plan, is_over, mates, wins_root}
pub use Rattle.krieg_theory.specs.Sets.{In, IsOrder, as_set, is_nil, same}
pub use Rattle.krieg_theory.specs.Split.{given}
pub use Rattle.krieg_theory.specs.Tree.{Edge, Edges, Just, Maybe, NoEdges, Nothing, Tree, Try, first_edge, first_root}
pub use Rattle.krieg_theory.specs.Wins.{wins, wins_at, wins_other}
pub use Rattle.krieg_costs.specs.Sums.{IsOnce, total}
pub use Rattle.krieg_pack.specs.Order.{position_cmp, position_lt}
pub use Rattle.krieg_game.specs.Chess.{chess}
pub use Rattle.krieg_game.specs.Keys.{Key, RootKey, key_lt, root_lt}
pub use Rattle.krieg_game.specs.Outset.{outset}
pub use Rattle.krieg_plan.specs.Trees.{NodeTree, PlanTrees}
pub use Rattle.krieg_checker.specs.CheckCost.{first_cost}
pub use Rattle.krieg_checker.specs.Needs.{within, worse}
pub use Rattle.krieg_strategy.specs.Nodes.{Node, first_to}
pub use Rattle.krieg_strategy.specs.Unfolded.{edges_on, led_to, tree_on}
pub use Rattle.krieg_strategy.specs.WellFormed.{AreBelow, IsBelow}
pub use Rattle.krieg_strategy.specs.declared.limits.TheConstants.{MOST_WORST}
pub use Rattle.krieg_judge.specs.Demands.{Adds, enough, held, latest, waiting}
pub use Rattle.krieg_judge.specs.JudgeCost.{cost_at, judge_cost, node_cost, pair_cost}
pub use Rattle.krieg_judge.specs.Laws.{ReachedIsClosed, ReachedIsLeast, ReachedIsOnce}
pub use Rattle.krieg_judge.specs.Reach.{IsClosed, Pair, first_at, first_pairs, next_at, next_of, next_pairs, pair_at, pair_lt, reached_within}
unfoldable pub use Rattle.krieg_judge.specs.Reach.{reached}
pub use Rattle.krieg_judge.specs.Steps.{LinksAdd, NodeAdds, heard_after, link_held}
pub use Rattle.krieg_judge.specs.declared.findings.Findings.{Findings}
pub use Rattle.krieg_strategy.specs.Edges.{edge_of}
pub use Rattle.krieg_strategy.specs.Roots.{root_of}
pub use Rattle.krieg_strategy.specs.Seen.{node_of}
pub use Rattle.krieg_moves.specs.Legal.{is_legal}
unfoldable pub use Rattle.krieg_game.specs.Chess.{outcomes, stalemates}
pub use Rattle.krieg_moves.specs.After.{after}
pub use Rattle.krieg_moves.specs.Moves.{moves}
pub use Rattle.krieg_words.specs.ToldWords.{told}
pub use Rattle.krieg_board.specs.Men.{is_same_side}
unfoldable pub use Rattle.krieg_game.specs.Outset.{starts, waits}
pub use Rattle.krieg_game.specs.Outset.{first_move}
pub use Rattle.krieg_words.specs.WordsOfMoves.{opening, words}
pub use Rattle.krieg_judge.specs.Started.{AreStarted, StartAdds, root_links, start_cost, starts_held}
pub use Rattle.krieg_judge.specs.Walked.{PairAdds}
pub use Rattle.krieg_strategy.specs.declared.strategy.Strategy.{Strategy}
unfoldable pub use Rattle.krieg_moves.specs.Moves.{is_ended}
pub use Rattle.krieg_strategy.specs.Unfolded.{trees_of}
unfoldable pub use Rattle.krieg_pack.specs.Members.{set_of}
pub use Rattle.krieg_strategy.specs.Values.{plan_in}
pub use Rattle.krieg_judge.specs.Judgement.{IsJudgement, judged}
pub use Rattle.krieg_judge.specs.declared.judging.Judgement.TheVariants.{Fails, Mates}
