use Rattle.std.proofs.Common.{◌≡◌, length, map, List, ◌+◌, ◌*◌}
use Rattle.std.specs.Vec.Iter.{into_iter_items, into_iter_len}
use Rattle.krieg_board.specs.Pos.{Pos}
use Rattle.krieg_theory.specs.Sets.{In}
use Rattle.krieg_game.specs.Chess.{chess}
use Rattle.krieg_game.specs.Classes.{class_pair}
use Rattle.krieg_game.proofs.ChessLaws.{chess_is_game}
use Rattle.krieg_strategy.specs.Edges.{edge_of}
use Rattle.krieg_search.specs.Openings.{AddsSets}
use Rattle.krieg_search.specs.Stretches.{sets_of}
use Rattle.krieg_share.specs.Sharers.{shared_by, IsSharing}
use Rattle.krieg_share.proofs.Parts.{AreSharing}
use Rattle.krieg_share.proofs.sharer.Sharer.+share.Given as goal

abbrev pub decreases-share : goal.decreases-share
decreases-share l = 2 * l.deep

abbrev pub decreases-share_classes : goal.decreases-share_classes
decreases-share_classes l = 2 * l.deep + 1

abbrev pub decreases-share_refused : goal.decreases-share_refused
decreases-share_refused l = 2 * l.deep + 1

abbrev pub invariant-share_classes-loop-class : goal.invariant-share_classes-loop-class
invariant-share_classes-loop-class l = record {
  sharing : AreSharing (chess l.way.d) (chess_is_game l.way.d) l.moves (shared_by l.way.d l.initial.self) (shared_by l.way.d l.self) (map edge_of l.edges.items) (map class_pair (into_iter_items l.class-iterator)) (map class_pair l.fn.classes.items);
  work : IsSharing l.way.d l.self;
  sets : AddsSets l.initial.self.table l.self.table;
  inside : (C : List Pos) → In C (sets_of (into_iter_items l.class-iterator)) → In C (sets_of l.fn.classes.items);
  counted : into_iter_len l.class-iterator ≡ length (into_iter_items l.class-iterator);
}
