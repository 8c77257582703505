use Rattle.std.proofs.Common.{List, subst, sym, ◌∙◌}
use Rattle.krieg_refutation.proofs.Common.{Pos, IsAscending, IsSetOf}
use Rattle.krieg_pack.proofs.PositionSets.{same_list}
use Rattle.krieg_refutation.proofs.denial.are_all_members.Goals as goal

-- a set is the set of its members
of_itself : (S : List Pos) → IsAscending S → IsSetOf S S
of_itself S up = record { ascending = up; exact = λ p. (λ i. i, λ i. i) }

pub returns : goal.returns
returns c = λ yes.
    let same = (same_list c.args.list.now c.members.result.now c.eq.result c.eq.ensures).0 yes ∙ c.members.ensures.value in
    subst (IsSetOf c.args.set.now) (sym same) (of_itself c.args.set.now c.members.ensures.ascending)
