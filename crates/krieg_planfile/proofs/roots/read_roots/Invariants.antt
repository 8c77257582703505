use Rattle.std.proofs.Common.{◌≡◌, ◌-◌, None, map}
use Rattle.krieg_planfile.proofs.Common.{root_of, MOST_ON_PATH, branches_by, node_at, root_form}
use Rattle.krieg_planfile.proofs.Branches.{with_front}
use Rattle.krieg_planfile.proofs.roots.read_roots.Given as goal

-- the rest, read after the roots that are there, gives the whole
abbrev pub invariant-loop-i : goal.invariant-loop-i
invariant-loop-i l =
    with_front (node_at MOST_ON_PATH l.rules.dialect) (root_form l.rules.version l.rules.waiting l.rules.dialect) (map root_of l.roots.items) (branches_by (node_at MOST_ON_PATH l.rules.dialect) (root_form l.rules.version l.rules.waiting l.rules.dialect) (l.k - l.i) l.last l.left l.from)
    ≡ branches_by (node_at MOST_ON_PATH l.rules.dialect) (root_form l.rules.version l.rules.waiting l.rules.dialect) l.k None l.initial.left l.initial.from
