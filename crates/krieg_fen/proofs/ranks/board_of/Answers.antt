use Rattle.std.proofs.Common.{◌∙◌, ◌+◌, ◌∷◌, refl, arith, drop, get_or, ap, []}
use Rattle.std.proofs.lemmas.Bool.{ne_eqb}
use Rattle.std.proofs.lemmas.List.{drop_all}
use Rattle.krieg_fen.proofs.Common.{pieces}
use Rattle.krieg_fen.proofs.RankReading.{reads_at, reads_start, reads_byte, reads_stuck, reads_short, reads_wrong, no_rank_below, ranks_missing, reads_down, reads_whole}
use Rattle.krieg_fen.proofs.ranks.board_of.Goals as goal
use Rattle.krieg_fen.proofs.ranks.board_of.Goals.{then-b-ne47+in_ok-file, else-b-ne47+then-file-eq8+then-rank-gt0, else-file-eq8-via-then-file-eq8+else-rank-gt0, else-file-eq8-via-else-file-eq8, else-rank-eq0-via-then-rank-eq0+else-file-eq8-2, else-rank-eq0-via-else-rank-eq0}

pub loop-b-init : goal.loop-b-init
loop-b-init c = reads_start c.empty-bits.result c.args.field.now c.empty-bits.ensures

pub loop-b-preserved : goal.loop-b-preserved
loop-b-preserved c =
    let text = c.args.field.now in
    let i = c.loop-b.b-index in
    elim c.if-b-ne47.branch [
      | then-b-ne47+in_ok-file w ↦ rw (w.bits-is, w.rank-is, w.file-is)
          (reads_byte c.loop-b.bits w.put.new.bits c.loop-b.rank c.loop-b.file w.in_ok-file.file (get_or text i 0) (drop (i + 1) text) _ (ne_eqb (get_or text i 0) 47 w.if-b-ne47.true)
          w.in_ok-file.ensures.others w.in_ok-file.ensures.some.0 w.in_ok-file.ensures.some.1 w.in_ok-file.ensures.some.2
          (reads_at c.loop-b.bits c.loop-b.rank c.loop-b.file text i (get_or text i 0) _ c.loop-b-test.true refl c.loop-b.invariant))
      | else-b-ne47+then-file-eq8+then-rank-gt0 w ↦ rw (w.bits-is, w.rank-is, w.file-is)
          (reads_down c.loop-b.bits c.loop-b.rank c.loop-b.file (drop (i + 1) text) _ w.if-file-eq8.true w.if-rank-gt0.true
          (reads_at c.loop-b.bits c.loop-b.rank c.loop-b.file text i 47 _ c.loop-b-test.true w.if-b-ne47.false c.loop-b.invariant))
    ]

pub returns-in_err-file : goal.returns-in_err-file
returns-in_err-file c =
    let text = c.args.field.now in
    let i = c.loop-b.b-index in
    c.from_residual.ensures
    ∙ reads_stuck c.loop-b.bits c.loop-b.rank c.loop-b.file (get_or text i 0) (drop (i + 1) text) _ (ne_eqb (get_or text i 0) 47 c.if-b-ne47.true) c.in_err-file.ensures.none
    (reads_at c.loop-b.bits c.loop-b.rank c.loop-b.file text i (get_or text i 0) _ c.loop-b-test.true refl c.loop-b.invariant)

pub returns-else-file-eq8 : goal.returns-else-file-eq8
returns-else-file-eq8 c =
    let text = c.args.field.now in
    let i = c.loop-b.b-index in
    let here = reads_at c.loop-b.bits c.loop-b.rank c.loop-b.file text i 47 _ c.loop-b-test.true c.if-b-ne47.false c.loop-b.invariant in
    elim c.else-file-eq8.branch [
      | else-file-eq8-via-then-file-eq8+else-rank-gt0 w ↦ reads_wrong c.loop-b.bits c.loop-b.rank c.loop-b.file (47 ∷ drop (i + 1) text) _ _ refl (no_rank_below c.loop-b.rank (drop (i + 1) text) (omega (arith, w.if-rank-gt0.false))) here
      | else-file-eq8-via-else-file-eq8 w ↦ reads_short c.loop-b.bits c.loop-b.rank c.loop-b.file (47 ∷ drop (i + 1) text) _ _ refl w.if-file-eq8.false here
    ]

pub returns-then-file-eq8-2 : goal.returns-then-file-eq8-2
returns-then-file-eq8-2 c =
    reads_whole c.loop-b.bits c.loop-b.rank c.loop-b.file (drop c.loop-b.b-index c.args.field.now) _ (drop_all c.loop-b.b-index c.args.field.now c.loop-b-test.false)
    c.if-rank-eq0.true c.if-file-eq8-2.true c.loop-b.invariant

pub returns-else-rank-eq0 : goal.returns-else-rank-eq0
returns-else-rank-eq0 c =
    let text = drop c.loop-b.b-index c.args.field.now in
    let ended = ap (pieces 47) (drop_all c.loop-b.b-index c.args.field.now c.loop-b-test.false) in
    elim c.else-rank-eq0.branch [
      | else-rank-eq0-via-then-rank-eq0+else-file-eq8-2 w ↦ reads_short c.loop-b.bits c.loop-b.rank c.loop-b.file text [] _ ended w.if-file-eq8-2.false c.loop-b.invariant
      | else-rank-eq0-via-else-rank-eq0 w ↦ reads_wrong c.loop-b.bits c.loop-b.rank c.loop-b.file text [] _ ended (ranks_missing c.loop-b.rank w.if-rank-eq0.false) c.loop-b.invariant
    ]
