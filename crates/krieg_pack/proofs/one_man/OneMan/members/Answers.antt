use Rattle.std.proofs.Common.{sym, subst, ap, ◌∙◌, ◌++◌, ◌∷◌, [], map, arith}
use Rattle.krieg_pack.proofs.Common.{IsLowest, unpacked}
use Rattle.krieg_pack.proofs.OneMen.{fields, fields_step, come_all, come_none, come_step}
use Rattle.krieg_pack.proofs.one_man.OneMan.members.Goals as goal

pub loop-rest-init : goal.loop-rest-init
loop-rest-init c = let a = come_all c.args.self.now c.requires in (a.0, ap (λ ps. ps ++ map unpacked (fields c.args.self.now c.args.self.now.places)) c.in_ok-members.ensures.items ∙ a.1)

pub at-requires-clause-packed : goal.at-requires-clause-packed
at-requires-clause-packed c =
    let l = subst (IsLowest c.loop-rest.rest) (sym c.number-place.ensures.value) c.lowest.ensures in
    let s = fields_step c.args.self.now c.loop-rest.rest c.number-place.result c.without_lowest-rest.result l (c.without_lowest-rest.ensures.others c.number-place.result l) in
    (come_step c.args.self.now c.loop-rest.rest c.number-place.result c.without_lowest-rest.result c.loop-rest.members.items s c.loop-rest.invariant.0 c.loop-rest.invariant.1).0

pub loop-rest-preserved : goal.loop-rest-preserved
loop-rest-preserved c =
    let l = subst (IsLowest c.loop-rest.rest) (sym c.number-place.ensures.value) c.lowest.ensures in
    let s = fields_step c.args.self.now c.loop-rest.rest c.number-place.result c.without_lowest-rest.result l (c.without_lowest-rest.ensures.others c.number-place.result l) in
    let n = (come_step c.args.self.now c.loop-rest.rest c.number-place.result c.without_lowest-rest.result c.loop-rest.members.items s c.loop-rest.invariant.0 c.loop-rest.invariant.1).1 in
    (n.0, ap (λ ps. ps ++ map unpacked (fields c.args.self.now c.without_lowest-rest.result)) (c.in_ok-push.ensures.items ∙ ap (λ p. c.loop-rest.members.items ++ p ∷ []) c.at.ensures) ∙ n.1)

pub returns : goal.returns
returns c = come_none c.args.self.now c.loop-rest.rest c.loop-rest.members.items (omega (arith, c.loop-rest-test.false)) c.loop-rest.invariant.1
