use Rattle.std.proofs.Common.{◌∙◌, not, ◌==◌, sym, arith, count_ones}
use Rattle.std.proofs.lemmas.Bool.{and_parts}
use Rattle.krieg_words.proofs.Common.{has}
use Rattle.krieg_words.proofs.TriesCount.{tries_are, tries_of_pawn, counted_step, counted_below, counted_end}
use Rattle.krieg_words.proofs.TriesBound.{tries_le}
use Rattle.krieg_words.proofs.pawn_tries.count_tries.Goals as goal

pub loop-rest-init : goal.loop-rest-init
loop-rest-init c = (omega (arith, tries_are c.args.p.now c.own_pawns-rest.result c.own_pawns-rest.ensures), λ k h m. sym (c.own_pawns-rest.ensures k h) ∙ m)

pub pawn_captures-captures-requires-clause-pawn : goal.pawn_captures-captures-requires-clause-pawn
pawn_captures-captures-requires-clause-pawn c = c.loop-rest.invariant.1 c.lowest-from.result c.lowest-from.ensures.below c.lowest-from.ensures.member

pub overflow_add-n : goal.overflow_add-n
overflow_add-n c =
    let others = c.without_lowest-rest.ensures.others c.lowest-from.result c.lowest-from.ensures in
    let own = c.loop-rest.invariant.1 c.lowest-from.result c.lowest-from.ensures.below c.lowest-from.ensures.member in
    omega (
      arith,
      counted_below c.args.p.now c.loop-rest.n (count_ones c.pawn_captures-captures.result) c.loop-rest.rest c.lowest-from.result c.without_lowest-rest.result c.know_valid.ensures c.lowest-from.ensures others
          (tries_of_pawn c.args.p.now c.lowest-from.result c.pawn_captures-captures.result c.pawn_captures-captures.type_inv own c.pawn_captures-captures.ensures) c.loop-rest.invariant.0,
    )

pub loop-rest-preserved : goal.loop-rest-preserved
loop-rest-preserved c =
    let others = c.without_lowest-rest.ensures.others c.lowest-from.result c.lowest-from.ensures in
    let own = c.loop-rest.invariant.1 c.lowest-from.result c.lowest-from.ensures.below c.lowest-from.ensures.member in (
      counted_step c.args.p.now c.loop-rest.n (count_ones c.pawn_captures-captures.result) c.loop-rest.rest c.lowest-from.result c.without_lowest-rest.result c.lowest-from.ensures others
          (tries_of_pawn c.args.p.now c.lowest-from.result c.pawn_captures-captures.result c.pawn_captures-captures.type_inv own c.pawn_captures-captures.ensures) c.loop-rest.invariant.0,
      λ k h m. c.loop-rest.invariant.1 k h (and_parts (has c.loop-rest.rest k) (not (k == c.lowest-from.result)) (sym (others k h) ∙ m)).0,
    )

pub returns-clause-value : goal.returns-clause-value
returns-clause-value c = counted_end c.args.p.now c.loop-rest.n c.loop-rest.rest (omega (arith, c.loop-rest-test.false)) c.loop-rest.invariant.0

pub returns-clause-few : goal.returns-clause-few
returns-clause-few c =
    omega (arith, counted_end c.args.p.now c.loop-rest.n c.loop-rest.rest (omega (arith, c.loop-rest-test.false)) c.loop-rest.invariant.0, tries_le c.args.p.now c.know_valid.ensures)
