use Rattle.std.proofs.Common.{◌+◌, ◌++◌, [], drop, sym, subst, ap, ◌∙◌, arith, append_assoc}
use Rattle.std.proofs.lemmas.List.{append-nil}
use Rattle.krieg_fen.proofs.Common.{IsLowest, row_text, rank_at}
use Rattle.krieg_fen.proofs.RankTexts.{rank_long}
use Rattle.krieg_fen.proofs.RankWriting.{next_inside, row_next, row_end, row_room, men_next}
use Rattle.krieg_fen.proofs.rank_text.rank_text.Goals as goal

pub add_man-requires-clause-room : goal.add_man-requires-clause-room
add_man-requires-clause-room c =
    let row = rank_at c.args.bits.now c.args.rank in
    let size = rank_long c.args.rank c.args.bits.now (omega arith) in
    let low = subst (IsLowest c.loop-left.left) (sym c.number-next.ensures.value) c.lowest.ensures in
    let next = row_next c.args.bits.now c.args.rank c.loop-left.left c.loop-left.file c.number-next.result c.letter_on.result c.requires.squares c.requires.rank c.loop-left.invariant.men low c.letter_on.ensures in
    row_room row c.loop-left.text _ _ _ size c.loop-left.invariant.wrote next

pub loop-left-preserved : goal.loop-left-preserved
loop-left-preserved c =
    let size = rank_long c.args.rank c.args.bits.now (omega arith) in
    let low = subst (IsLowest c.loop-left.left) (sym c.number-next.ensures.value) c.lowest.ensures in
    let next = row_next c.args.bits.now c.args.rank c.loop-left.left c.loop-left.file c.number-next.result c.letter_on.result c.requires.squares c.requires.rank c.loop-left.invariant.men low c.letter_on.ensures in
    let rest = row_text 0 (drop (c.number-next.result + 1) (rank_at c.args.bits.now c.args.rank)) in
    record {
      men = men_next _ _ _ c.number-next.result _ size c.loop-left.invariant.men low (c.without_lowest-left.ensures.others c.number-next.result low);
      wrote = ap (λ x. x ++ rest) c.add_man.ensures ∙ append_assoc c.loop-left.text _ rest ∙ ap (λ x. c.loop-left.text ++ x) (sym next) ∙ c.loop-left.invariant.wrote;
    }

pub add_run-requires-clause-room : goal.add_run-requires-clause-room
add_run-requires-clause-room c =
    let row = rank_at c.args.bits.now c.args.rank in
    let size = rank_long c.args.rank c.args.bits.now (omega arith) in
    row_room row c.loop-left.text _ [] _ size c.loop-left.invariant.wrote (row_end row c.loop-left.left c.loop-left.file (omega (arith, c.loop-left-test.false)) size c.loop-left.invariant.men ∙ sym (append-nil _))

pub loop-left-init : goal.loop-left-init
loop-left-init c = record {
  men = record { within = omega arith; gone = λ k h. absurd (omega arith); there = λ k h g. c.men_on-left.ensures k h };
  wrote = ap (λ x. x ++ row_text 0 (rank_at c.args.bits.now c.args.rank)) c.new-text.ensures;
}

pub overflow_sub-next : goal.overflow_sub-next
overflow_sub-next c =
    (next_inside c.args.bits.now c.args.rank c.loop-left.left c.loop-left.file c.number-next.result c.lowest.result c.requires.squares c.requires.rank c.loop-left.invariant.men c.lowest.ensures c.number-next.ensures.value).0

pub overflow_add-rank : goal.overflow_add-rank
overflow_add-rank c =
    let there = next_inside c.args.bits.now c.args.rank c.loop-left.left c.loop-left.file c.number-next.result c.lowest.result c.requires.squares c.requires.rank c.loop-left.invariant.men c.lowest.ensures c.number-next.ensures.value in
    omega (arith, there.1)

pub letter_on-requires : goal.letter_on-requires
letter_on-requires c =
    let there = next_inside c.args.bits.now c.args.rank c.loop-left.left c.loop-left.file c.number-next.result c.lowest.result c.requires.squares c.requires.rank c.loop-left.invariant.men c.lowest.ensures c.number-next.ensures.value in
    omega (arith, there.1)

pub add_man-requires-clause-few : goal.add_man-requires-clause-few
add_man-requires-clause-few c =
    let there = next_inside c.args.bits.now c.args.rank c.loop-left.left c.loop-left.file c.number-next.result c.lowest.result c.requires.squares c.requires.rank c.loop-left.invariant.men c.lowest.ensures c.number-next.ensures.value in
    omega (arith, there.1)

pub overflow_mul-rank : goal.overflow_mul-rank
overflow_mul-rank c = omega arith

pub overflow_add-file : goal.overflow_add-file
overflow_add-file c = omega arith

pub loop-left-smaller : goal.loop-left-smaller
loop-left-smaller c = c.without_lowest-left.ensures.less

pub returns : goal.returns
returns c =
    let row = rank_at c.args.bits.now c.args.rank in
    let size = rank_long c.args.rank c.args.bits.now (omega arith) in
    c.add_run.ensures ∙ ap (λ x. c.loop-left.text ++ x) (sym (row_end row c.loop-left.left c.loop-left.file c.loop-left-test.false size c.loop-left.invariant.men)) ∙ c.loop-left.invariant.wrote
