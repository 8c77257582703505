use Rattle.std.proofs.Common.{◌≡◌, List, drop, map, max, true}
use Rattle.krieg_board.specs.Pos.{Pos}
use Rattle.krieg_words.specs.declared.dialects.Dialect.{Dialect}
use Rattle.krieg_theory.specs.Can.{least}
use Rattle.krieg_theory.specs.Plans.{greatest}
use Rattle.krieg_game.specs.Keys.{RootKey}
use Rattle.krieg_game.specs.Chess.{chess}
use Rattle.krieg_search.specs.Stretches.{IsReady}
use Rattle.krieg_search.specs.Openings.{opening_in}
use Rattle.krieg_share.proofs.roots.worst_of.Given as goal

abbrev pub invariant-loop-o : goal.invariant-loop-o
invariant-loop-o l =
    (d : Dialect) → IsReady d true l.table → max l.worst (greatest (λ (c : RootKey × List Pos). least (chess d) l.moves c.1) (map (opening_in l.table) (drop l.o-index l.openings)))
    ≡ greatest (λ (c : RootKey × List Pos). least (chess d) l.moves c.1) (map (opening_in l.table) l.openings)
