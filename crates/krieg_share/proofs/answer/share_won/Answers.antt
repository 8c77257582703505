use Rattle.std.proofs.Common.{arith, ◌∙◌, ◌<◌, List, length, map, sym, ap, subst}
use Rattle.krieg_board.specs.Pos.{Pos}
use Rattle.krieg_theory.specs.Sets.{In}
use Rattle.krieg_theory.specs.Can.{least}
use Rattle.krieg_theory.specs.Plans.{greatest}
use Rattle.krieg_game.specs.Keys.{RootKey}
use Rattle.krieg_game.specs.Chess.{chess}
use Rattle.krieg_table.specs.SetRows.{SetRows}
use Rattle.krieg_search.specs.declared.openings.Opening.{Opening}
use Rattle.krieg_search.specs.Openings.{opening_in}
use Rattle.krieg_search.specs.Decision.{sets_in}
use Rattle.krieg_search.specs.WonSets.{WonBy}
use Rattle.krieg_share.proofs.Answering.{as_shared}
use Rattle.krieg_share.proofs.answer.share_won.Goals as goal

pub worst_of-worst-requires-clause-numbered : goal.worst_of-worst-requires-clause-numbered
worst_of-worst-requires-clause-numbered c = λ o i. c.requires.numbered o (subst (λ (os : List Opening). In o os) c.deref.ensures.value i)

pub share_openings-requires-clause-numbered : goal.share_openings-requires-clause-numbered
share_openings-requires-clause-numbered c = λ o i. subst (λ (T : SetRows). o.set < length T) (sym c.new-sharer.ensures.table) (c.requires.numbered o i)

pub share_openings-requires-clause-won : goal.share_openings-requires-clause-won
share_openings-requires-clause-won c = λ C i.
    subst (λ (T : SetRows). WonBy T C c.args.moves) (sym c.new-sharer.ensures.table)
    (c.requires.won C (subst (λ (T : SetRows). In C (sets_in T c.args.won.openings.items)) c.new-sharer.ensures.table i))

pub returns : goal.returns
returns c =
    let d = c.args.way.d in
    let j = c.args.moves in
    let T = c.args.won.table in
    let os = c.args.won.openings.items in
    let new = c.new-sharer.ensures in
    let e = c.in_ok-roots.ensures in
    as_shared d j T os c.new-sharer.result c.share_openings.new.sharer new.table new.placed new.nodes c.worst_of-worst.result _
    (c.worst_of-worst.ensures d c.requires.paid.ready ∙ ap (λ (xs : List Opening). greatest (λ (x : RootKey × List Pos). least (chess d) j x.1) (map (opening_in T) xs)) c.deref.ensures.value)
    e.0 e.3 e.1 (let l = c.if-len-gt-MOST_ROOTS.false in let m = c.len.ensures in omega arith)
