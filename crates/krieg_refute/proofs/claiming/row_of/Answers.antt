use Rattle.std.proofs.Common.{◌≡◌, true, false, List, None, Some, sym, ap, subst, ◌∙◌}
use Rattle.krieg_refute.proofs.Common.{Pos, legal_in_some, chess, entries, set_at, IsBlock, Note}
use Rattle.krieg_accounts.proofs.Tables.{result_can}
use Rattle.krieg_accounts.proofs.TryWalk.{legal_at}
use Rattle.krieg_game.proofs.ChessLaws.{chess_is_game}
use Rattle.krieg_search.proofs.Adding.{adds_nothing, adds_then}
use Rattle.krieg_search.proofs.Searching.{more_itself}
use Rattle.krieg_search.proofs.Noted.{no_notes, one_noted, all_noted}
use Rattle.krieg_refute.proofs.claiming.row_of.Goals as goal

pub loop-mv-init : goal.loop-mv-init
loop-mv-init c =
    let T = c.args.table.now in
    record {
      sets = adds_nothing T c.requires.paid.ready.counted;
      row = no_notes c.args.way.d false T (set_at T c.args.asked.set) c.args.asked.moves c.deref-mv-items.result.now (Some c.in_ok-row.row.items) c.in_ok-row.ensures.items;
    }

pub add_note-requires-clause-legal : goal.add_note-requires-clause-legal
add_note-requires-clause-legal c =
    let d = c.args.way.d in
    let B = set_at c.args.table.now c.args.asked.set in
    let are = c.deref-mv-items.ensures.value ∙ c.in_ok-tries.ensures d in
    let same = c.loop-mv.invariant.sets.more.same c.args.asked.set c.requires.within in
    subst (λ (X : List Pos). legal_in_some (chess d) X c.mv-item.result ≡ true) (sym same)
    (legal_at (chess d) (chess_is_game d) B c.args.asked.moves c.deref-mv-items.result.now are c.loop-mv.mv-index c.mv-item.result c.loop-mv-test.true c.mv-item.is)

pub loop-mv-preserved : goal.loop-mv-preserved
loop-mv-preserved c =
    let d = c.args.way.d in
    let T1 = c.loop-mv.table in
    let T2 = c.add_note.new.table in
    let B = set_at c.args.table.now c.args.asked.set in
    let j = c.args.asked.moves in
    let inv = c.loop-mv.invariant in
    let h = c.in_ok-add_note.ensures in
    let same = inv.sets.more.same c.args.asked.set c.requires.within in
    let mv = c.mv-item.result in
    let new : Note = record { mv = mv; block = h.block } in
    let here = subst (λ (X : List Pos). IsBlock d false T2 X j mv h.block) same h.has.1 in
    record {
      sets = adds_then c.args.table.now T1 T2 inv.sets h.has.0;
      row = one_noted d false T1 B j c.deref-mv-items.result.now {T' = T2} c.loop-mv.mv-index (Some c.loop-mv.row.items) (Some c.add_note.new.row.items) new h.has.0.more c.loop-mv-test.true c.mv-item.is here (ap Some h.noted) inv.row;
    }

pub returns : goal.returns
returns c =
    let d = c.args.way.d in
    let T = c.args.table.now in
    let B = set_at T c.args.asked.set in
    let inv = c.loop-mv.invariant in
    let are = c.deref-mv-items.ensures.value ∙ c.in_ok-tries.ensures d in
    let longer = inv.sets.more.longer in
    let within = c.requires.within in
    let lost = result_can (chess d) (chess_is_game d) false (entries T) c.requires.paid.ready.sound B c.args.asked.moves None c.requires.lost in
    (inv.sets, all_noted d false c.loop-mv.table B c.args.asked.moves c.deref-mv-items.result.now {T' = c.loop-mv.table} c.loop-mv.mv-index c.args.asked.set (Some c.loop-mv.row.items) (more_itself c.loop-mv.table) (omega Rattle.std.proofs.Common.arith) (inv.sets.more.same c.args.asked.set within) are lost c.loop-mv-test.false inv.row)
