use Rattle.std.proofs.Common.{◌∙◌, ◌≡◌, ◌++◌, List, sym, subst, arith, length, ◌<◌}
use Rattle.std.specs.Prelude.{OnOk, OnErr}
use Rattle.krieg_moves.proofs.Common.{Move}
use Rattle.krieg_moves.proofs.Listing.{listed_promotions, listed_plain}
use Rattle.krieg_moves.proofs.list.push_between.Goals as goal

pub returns-then-promotes-clause-pushed : goal.returns-then-promotes-clause-pushed
returns-then-promotes-clause-pushed c =
    let from_in : c.args.from < 64 = omega (arith, c.number-from.ensures.value, c.number-from.ensures.below) in
    let to_in : c.args.to < 64 = omega (arith, c.number-to.ensures.value, c.number-to.ensures.below) in
    subst (λ (xs : List Move). OnOk c.push_promotions.result (c.push_promotions.new.moves.items ≡ c.args.moves.now.items ++ xs))
    (sym (listed_promotions c.args.p.now c.args.from c.args.to c.know_valid.ensures from_in to_in (sym c.promotes.ensures ∙ c.if-promotes.true) c.requires.legal))
    c.push_promotions.ensures.pushed

pub returns-then-promotes-clause-full : goal.returns-then-promotes-clause-full
returns-then-promotes-clause-full c =
    let from_in : c.args.from < 64 = omega (arith, c.number-from.ensures.value, c.number-from.ensures.below) in
    let to_in : c.args.to < 64 = omega (arith, c.number-to.ensures.value, c.number-to.ensures.below) in
    subst (λ (xs : List Move). OnErr c.push_promotions.result (64 < length (c.args.moves.now.items ++ xs)))
    (sym (listed_promotions c.args.p.now c.args.from c.args.to c.know_valid.ensures from_in to_in (sym c.promotes.ensures ∙ c.if-promotes.true) c.requires.legal))
    c.push_promotions.ensures.full

pub returns-clause-pushed : goal.returns-clause-pushed
returns-clause-pushed c =
    subst (λ (xs : List Move). OnOk c.push.result (c.push.new.moves.items ≡ c.args.moves.now.items ++ xs))
    (sym (listed_plain c.args.p.now c.args.from c.args.to (sym c.promotes.ensures ∙ c.if-promotes.false) c.requires.legal)) c.push.ensures.pushed

pub returns-clause-full : goal.returns-clause-full
returns-clause-full c =
    subst (λ (xs : List Move). OnErr c.push.result (64 < length (c.args.moves.now.items ++ xs)))
    (sym (listed_plain c.args.p.now c.args.from c.args.to (sym c.promotes.ensures ∙ c.if-promotes.false) c.requires.legal)) c.push.ensures.full
