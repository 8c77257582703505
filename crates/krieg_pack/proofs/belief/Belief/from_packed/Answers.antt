use Rattle.std.proofs.Common.{◌≡◌, sym, subst, ◌∙◌}
use Rattle.krieg_pack.proofs.Common.{IsAscending, IsSetOf, set_of}
use Rattle.krieg_pack.proofs.PositionSets.{set_ascending, set_is}
use Rattle.krieg_pack.proofs.belief.Belief.from_packed.Goals as goal

whole : (c : goal.After-shrink_to_fit) → c.shrink_to_fit.new.self.items ≡ set_of c.args.packed.items
whole c = c.shrink_to_fit.ensures.items ∙ c.make_ascending.ensures

pub invariant_of-result : goal.invariant_of-result
invariant_of-result c = subst IsAscending (sym (whole c)) (set_ascending _)

pub returns-clause-value : goal.returns-clause-value
returns-clause-value c = whole c

pub returns-clause-set : goal.returns-clause-set
returns-clause-set c = subst (λ ms. IsSetOf ms c.args.packed.items) (sym (whole c)) (set_is _)
