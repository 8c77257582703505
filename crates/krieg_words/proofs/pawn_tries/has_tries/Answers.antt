use Rattle.std.proofs.Common.{◌∙◌, not, ◌==◌, sym, ap, arith}
use Rattle.std.proofs.lemmas.Bool.{and_parts, eq-eqb}
use Rattle.krieg_words.proofs.Common.{has, tries}
use Rattle.krieg_words.proofs.TriesCount.{tries_are, tries_of_pawn, passed_pawn, some_tries, sum_over_none}
use Rattle.krieg_words.proofs.pawn_tries.has_tries.Goals as goal

pub loop-rest-init : goal.loop-rest-init
loop-rest-init c = (tries_are c.args.p.now c.own_pawns-rest.result c.own_pawns-rest.ensures, λ k h m. sym (c.own_pawns-rest.ensures k h) ∙ m)

pub pawn_captures-captures-requires-clause-pawn : goal.pawn_captures-captures-requires-clause-pawn
pawn_captures-captures-requires-clause-pawn c = c.loop-rest.invariant.1 c.lowest-from.result c.lowest-from.ensures.below c.lowest-from.ensures.member

pub returns-then-captures-ne0 : goal.returns-then-captures-ne0
returns-then-captures-ne0 c =
    let others = c.without_lowest-rest.ensures.others c.lowest-from.result c.lowest-from.ensures in
    let own = c.loop-rest.invariant.1 c.lowest-from.result c.lowest-from.ensures.below c.lowest-from.ensures.member in
    sym (some_tries c.args.p.now c.pawn_captures-captures.result c.loop-rest.rest c.lowest-from.result c.without_lowest-rest.result (omega (arith, c.if-captures-ne0.true)) c.lowest-from.ensures others
    (tries_of_pawn c.args.p.now c.lowest-from.result c.pawn_captures-captures.result c.pawn_captures-captures.type_inv own c.pawn_captures-captures.ensures) c.loop-rest.invariant.0)

pub loop-rest-preserved : goal.loop-rest-preserved
loop-rest-preserved c =
    let others = c.without_lowest-rest.ensures.others c.lowest-from.result c.lowest-from.ensures in
    let own = c.loop-rest.invariant.1 c.lowest-from.result c.lowest-from.ensures.below c.lowest-from.ensures.member in (
      passed_pawn c.args.p.now c.pawn_captures-captures.result c.loop-rest.rest c.lowest-from.result c.without_lowest-rest.result (omega (arith, c.if-captures-ne0.false)) c.lowest-from.ensures others
          (tries_of_pawn c.args.p.now c.lowest-from.result c.pawn_captures-captures.result c.pawn_captures-captures.type_inv own c.pawn_captures-captures.ensures) c.loop-rest.invariant.0,
      λ k h m. c.loop-rest.invariant.1 k h (and_parts (has c.loop-rest.rest k) (not (k == c.lowest-from.result)) (sym (others k h) ∙ m)).0,
    )

pub returns : goal.returns
returns c = sym (ap not (eq-eqb (tries c.args.p.now) 0 (sym c.loop-rest.invariant.0 ∙ sum_over_none c.args.p.now c.loop-rest.rest (omega (arith, c.loop-rest-test.false)))))
