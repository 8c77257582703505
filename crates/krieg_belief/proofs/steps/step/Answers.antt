use Rattle.std.proofs.Common.{rules, ◌≡◌, ◌<◌, ◌+◌, ◌++◌, List, take, flat_map, length, subst, sym, ap, ◌∙◌, arith}
use Rattle.std.specs.Prelude.{IsErr}
use Rattle.krieg_belief.proofs.Common.{set_of, Pos, nexts, step}
use Rattle.krieg_pack.proofs.PositionSets.{set_of_front, set_of_grown}
use Rattle.krieg_belief.proofs.Runs.{next_more, part_exceeds}
use Rattle.krieg_belief.proofs.steps.step.Goals as goal

pub loop-k-preserved : goal.loop-k-preserved
loop-k-preserved c =
    let f = nexts c.args.hearing.dialect c.args.hearing.side c.args.line.now in
    let all = c.members-k-items.result.now in
    let i = c.loop-k.k-index in
    let added : c.push_next.new.out.items ≡ c.loop-k.out.items ++ f c.unpack.result = search rules in
    let pushed : c.push_next.new.out.items ≡ c.loop-k.out.items ++ f c.k-item.result = added ∙ ap (λ (p : Pos). c.loop-k.out.items ++ f p) c.unpack.ensures.value in
    let more = next_more c.args.hearing.dialect c.args.hearing.side c.args.line.now all i c.k-item.result (omega arith) c.k-item.is in
    set_of_grown _ _ c.loop-k.out.items (flat_map f (take i all)) (f c.k-item.result) c.trim.ensures.same pushed c.loop-k.invariant ∙ ap set_of (sym more)

pub returns-in_default-trim-clause-too_many : goal.returns-in_default-trim-clause-too_many
returns-in_default-trim-clause-too_many c e =
    let f = nexts c.args.hearing.dialect c.args.hearing.side c.args.line.now in
    let all = c.members-k-items.result.now in
    let i = c.loop-k.k-index in
    let added : c.push_next.new.out.items ≡ c.loop-k.out.items ++ f c.unpack.result = search rules in
    let pushed : c.push_next.new.out.items ≡ c.loop-k.out.items ++ f c.k-item.result = added ∙ ap (λ (p : Pos). c.loop-k.out.items ++ f p) c.unpack.ensures.value in
    let more = next_more c.args.hearing.dialect c.args.hearing.side c.args.line.now all i c.k-item.result (omega arith) c.k-item.is in
    let refused : IsErr c.trim.result = search rules in
    let over : c.args.limit < length (set_of c.push_next.new.out.items) = c.trim.ensures.too_many refused in
    let here : set_of c.push_next.new.out.items ≡ set_of (flat_map f (take (i + 1) all)) = ap set_of pushed ∙ set_of_front c.loop-k.out.items (flat_map f (take i all)) (f c.k-item.result) c.loop-k.invariant ∙ ap set_of (sym more) in
    subst (λ (ps : List Pos). c.args.limit < length (step c.args.hearing.dialect c.args.hearing.side c.args.line.now ps)) c.members-k-items.ensures.value
    (part_exceeds c.args.hearing.dialect c.args.hearing.side c.args.line.now all c.push_next.new.out.items (i + 1) c.args.limit over here)
