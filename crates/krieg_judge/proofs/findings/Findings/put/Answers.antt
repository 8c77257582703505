use Rattle.std.proofs.Common.{refl, ap, ◌∙◌}
use Rattle.std.specs.BTreeMap.{insert_entry}
use Rattle.krieg_judge.proofs.Common.{latest}
use Rattle.krieg_judge.proofs.Waiting.{pair_cmp, put_adds}
use Rattle.krieg_judge.proofs.findings.Findings.put.Goals as goal

pub returns : goal.returns
returns c = λ d trees.
    put_adds d trees c.args.self.now _ (c.args.node, c.args.position) c.args.done refl
    (c.in_ok-insert.ensures.entries ∙ ap (insert_entry pair_cmp c.args.self.now.waiting.entries (c.args.node, c.args.position)) (c.most-latest.ensures ∙ ap (λ o. latest o c.args.done) c.get.ensures.value))
