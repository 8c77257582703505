-- The keys of the roots that are read ascend, and those of every node below them.
use Rattle.std.proofs.Common.{◌≡◌, ℕ, Bool, true, ◌&&◌, [], ◌∷◌, map, None, Ok, refl, ap, ◌∙◌}
use Rattle.std.specs.Prelude.{is_some}
use Rattle.std.proofs.lemmas.Bool.{and_from}
use Rattle.krieg_planfile.proofs.Common.{Place, Dialect, RootKey, root_lt, is_ordered, are_ordered_roots, is_ascending, is_ordered_plan, PlanTrees, MOST_ON_PATH, branches_by, node_at, root_form, IsRootOf, root_line}
use Rattle.krieg_planfile.proofs.BranchForms.{roots_form}
use Rattle.krieg_planfile.proofs.Edges.{are_ordered_branches}
use Rattle.krieg_planfile.proofs.NodeSpellings.{BranchesRead, branches_spell, node_spells}

pub ordered_roots : (rs : PlanTrees) → are_ordered_roots rs ≡ are_ordered_branches rs
ordered_roots [] = refl
ordered_roots (r ∷ rs) = ap (λ (t : Bool). is_ordered r.1 && t) (ordered_roots rs)

-- what is read as roots
pub roots_read : (version : ℕ) (waiting : Bool) (d : Dialect) (k left : ℕ) (p q : Place) (rs : PlanTrees) (more : ℕ) → branches_by (node_at MOST_ON_PATH d) (root_form version waiting d) k None left p ≡ Ok ((rs, more), q) →
    BranchesRead root_lt (root_line d) (IsRootOf version d) (λ (key : RootKey). is_some key.1 ≡ waiting) d k None MOST_ON_PATH left p.left rs more q
roots_read version waiting d k left p q rs more e =
    branches_spell root_lt (root_line d) (IsRootOf version d) (λ (key : RootKey). is_some key.1 ≡ waiting) (root_form version waiting d) (roots_form version waiting d) d MOST_ON_PATH (node_at MOST_ON_PATH d)
    (λ left p q n more e. node_spells MOST_ON_PATH d left p q n more e) k None left p q rs more e

pub roots_ascend : (version : ℕ) (waiting : Bool) (d : Dialect) (k left : ℕ) (p q : Place) (rs : PlanTrees) (more : ℕ) → branches_by (node_at MOST_ON_PATH d) (root_form version waiting d) k None left p ≡ Ok ((rs, more), q) → is_ordered_plan rs ≡ true
roots_ascend version waiting d k left p q rs more e =
    let r = roots_read version waiting d k left p q rs more e in
    and_from (is_ascending root_lt (map (λ r. r.0) rs)) (are_ordered_roots rs) r.keys (ordered_roots rs ∙ r.ordered)

pub ruleset ordered = (roots_ascend)
