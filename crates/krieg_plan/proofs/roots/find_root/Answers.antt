use Rattle.std.proofs.Common.{sym, ap, ◌∙◌, rules}
use Rattle.std.specs.Prelude.{Ok, Err, slice_index_or}
use Rattle.std.proofs.lemmas.Fn.{always_returns_same}
use Rattle.krieg_plan.proofs.Common.{Just, root_cmp, tree_of, root_of, plan_of}
use Rattle.krieg_plan.proofs.OrderedTrees.{found_root_ordered}
use Rattle.krieg_plan.proofs.Lookups.{root_found}
use Rattle.krieg_plan.proofs.roots.find_root.Goals as goal

pub returns-in-Ok-clause-found : goal.returns-in-Ok-clause-found
returns-in-Ok-clause-found c =
    root_found c.args.p.now.roots.items c.deref.result.now (c.args.opens, c.args.heard) c.deref.ensures.value (search rules) (Ok c.in-Ok.place) c.in-Ok.ensures.bound
    (c.in-Ok.ensures.position (λ r. root_cmp (root_of r).0 (c.args.opens, c.args.heard)) (always_returns_same _ _ _ (λ a r g h. search rules))) c.index.result.now
    ∙ ap (λ r. Just (root_of r).1) (ap (λ rs. slice_index_or rs c.in-Ok.place c.index.result.now) c.deref.ensures.value ∙ sym c.index.ensures)
    ∙ ap (λ n. Just (tree_of n)) (sym c.deref-in-Ok.ensures)

pub returns-in-Err-clause-found : goal.returns-in-Err-clause-found
returns-in-Err-clause-found c =
    root_found c.args.p.now.roots.items c.deref.result.now (c.args.opens, c.args.heard) c.deref.ensures.value (search rules) (Err c.in-Err.field-0) c.in-Err.ensures.bound
    (c.in-Err.ensures.position (λ r. root_cmp (root_of r).0 (c.args.opens, c.args.heard)) (always_returns_same _ _ _ (λ a r g h. search rules)))

pub returns-in-Ok-clause-ordered : goal.returns-in-Ok-clause-ordered
returns-in-Ok-clause-ordered c =
    found_root_ordered (plan_of c.args.p.now) (tree_of c.deref-in-Ok.result.now) (c.args.opens, c.args.heard) (search rules) (returns-in-Ok-clause-found c)
