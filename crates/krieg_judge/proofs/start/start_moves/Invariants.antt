use Rattle.std.proofs.Common.{map, take}
use Rattle.krieg_judge.proofs.Common.{LinksAdd, first_move, root_links, root_lt}
use Rattle.krieg_judge.proofs.start.start_moves.Given as goal

abbrev pub invariant-loop-mv : goal.invariant-loop-mv
invariant-loop-mv l = LinksAdd l.s.dialect root_lt (root_links l.s) 0 l.initial.found l.found (map (first_move l.s.dialect l.p) (take l.mv-index l.moves))
