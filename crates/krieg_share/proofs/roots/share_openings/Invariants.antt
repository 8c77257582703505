use Rattle.std.proofs.Common.{◌≡◌, length, map}
use Rattle.std.specs.Vec.Iter.{into_iter_items, into_iter_len}
use Rattle.krieg_theory.specs.Sets.{In}
use Rattle.krieg_game.specs.Chess.{chess}
use Rattle.krieg_game.proofs.ChessLaws.{chess_is_game}
use Rattle.krieg_strategy.specs.Roots.{root_of}
use Rattle.krieg_search.specs.declared.openings.Opening.{Opening}
use Rattle.krieg_search.specs.Openings.{AddsSets, opening_in}
use Rattle.krieg_share.specs.Sharers.{shared_by, IsSharing}
use Rattle.krieg_share.proofs.Parts.{AreSharing}
use Rattle.krieg_share.proofs.roots.share_openings.Given as goal

abbrev pub invariant-loop-o : goal.invariant-loop-o
invariant-loop-o l = record {
  sharing : AreSharing (chess l.way.d) (chess_is_game l.way.d) l.moves (shared_by l.way.d l.initial.sharer) (shared_by l.way.d l.sharer) (map root_of l.roots.items) (map (opening_in l.initial.sharer.table) (into_iter_items l.o-iterator)) (map (opening_in l.initial.sharer.table) l.fn.openings.items);
  work : IsSharing l.way.d l.sharer;
  sets : AddsSets l.initial.sharer.table l.sharer.table;
  inside : (o : Opening) → In o (into_iter_items l.o-iterator) → In o l.fn.openings.items;
  counted : into_iter_len l.o-iterator ≡ length (into_iter_items l.o-iterator);
}
