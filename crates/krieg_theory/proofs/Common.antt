-- The words of specs/, of this crate and of those below it, that its proofs cite: passed on from one place.
pub use Rattle.krieg_theory.specs.Can.{begins, begins_with, can, first_try, least, within}
pub use Rattle.krieg_theory.specs.Canonical.{AreCanon, IsCanon, IsCanonOther, IsFirst, IsLeast, edge_keys}
pub use Rattle.krieg_theory.specs.Computed.{canon, edge_with, edges_of, newly, node_of, other_of}
pub use Rattle.krieg_theory.specs.Game.{Game, IsGame}
pub use Rattle.krieg_theory.specs.Laws.{BeginsIsWon, CanBegins, CanIsWon, CanPlanIsMated, CanonIsComputed, CanonIsOne, CanonPlanIsComputed, CanonPlanIsLeast, CanonPlanIsOne, CanonPlanIsThere, ClassesAreSplit, ComesBy, FirstEdgeWins, LeastIsLeast, MoreMovesMate, MoreMovesWin, SetsAreEqual, WorstIsThere}
pub use Rattle.krieg_theory.specs.Plans.{AreCanonRoots, IsCanonPlan, IsOutset, IsWorst, Outset, Plan, all_starts, can_plan, canon_plan, canon_worst, greatest, is_over, mates, opening_set, openings, root_with, roots_of, wins_root}
pub use Rattle.krieg_theory.specs.Seen.{escapes, mates_with, sees}
pub use Rattle.krieg_theory.specs.SeenLaws.{CanIsSeen, EscapeFails, MoreMovesSee, WinsIsSeen}
pub use Rattle.krieg_theory.specs.Sets.{Ascending, In, IsOrder, as_set, at_key, insert_once, is_nil, keys_in, same}
pub use Rattle.krieg_theory.specs.Split.{all_outcomes, class, given, keys, legal_in_some, refused, stale_in_some}
pub use Rattle.krieg_theory.specs.Toy.{Node, by_ear, only, or_else, toy}
pub use Rattle.krieg_theory.specs.ToyLawful.{lawful}
pub use Rattle.krieg_theory.specs.Tree.{Edge, Edges, Just, Maybe, NoEdges, Nothing, Tree, Try, first_edge}
pub use Rattle.krieg_theory.specs.Wins.{WinsAll, wins, wins_at, wins_other}
