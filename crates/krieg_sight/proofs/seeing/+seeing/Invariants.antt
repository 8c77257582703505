use Rattle.std.proofs.Common.{◌≡◌, ◌+◌, ◌*◌, ◌≤◌, drop}
use Rattle.std.specs.List.{list_any}
use Rattle.krieg_moves.specs.After as change
use Rattle.krieg_sight.proofs.Common.{is_met, mates_within}
use Rattle.krieg_sight.proofs.seeing.+seeing.Given as goal

abbrev pub decreases-may_mate_anew : goal.decreases-may_mate_anew
decreases-may_mate_anew l = 8 * l.moves

abbrev pub decreases-may_mate : goal.decreases-may_mate
decreases-may_mate l = 8 * l.moves + 2

abbrev pub decreases-may_mate_at_once : goal.decreases-may_mate_at_once
decreases-may_mate_at_once l = 9

abbrev pub decreases-each_may_mate : goal.decreases-each_may_mate
decreases-each_may_mate l = 8 * l.moves + 3

abbrev pub decreases-all_may_mate_anew : goal.decreases-all_may_mate_anew
decreases-all_may_mate_anew l = 8 * l.moves + 4

abbrev pub decreases-all_may_mate : goal.decreases-all_may_mate
decreases-all_may_mate l = 8 * l.moves + 5

abbrev pub decreases-may_follow : goal.decreases-may_follow
decreases-may_follow l = 8 * l.moves + 6

abbrev pub decreases-one_may_mate : goal.decreases-one_may_mate
decreases-one_may_mate l = 8 * l.fewer + 7

abbrev pub invariant-each_may_mate-loop-mv : goal.invariant-each_may_mate-loop-mv
invariant-each_may_mate-loop-mv l = l.sight.left ≤ l.fn.sight.left

abbrev pub invariant-one_may_mate-loop-mv : goal.invariant-one_may_mate-loop-mv
invariant-one_may_mate-loop-mv l = record {
  rest : list_any (λ t. is_met (mates_within l.fewer) (change.after l.p t)) l.tries ≡ list_any (λ t. is_met (mates_within l.fewer) (change.after l.p t)) (drop l.mv-index l.tries);
  no_more : l.sight.left ≤ l.fn.sight.left;
}
