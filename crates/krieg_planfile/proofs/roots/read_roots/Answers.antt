use Rattle.std.proofs.Common.{rules, ◌≡◌, ◌+◌, ◌-◌, ◌∷◌, [], ◌++◌, List, Vec, Global, Some, Ok, Err, map, ap, ◌∙◌, arith}
use Rattle.std.proofs.lemmas.List.{map-append}
use Rattle.krieg_planfile.proofs.Common.{GivesOn, RootKey, NodeTree, root_of, Root, MOST_ON_PATH, branch_by, branches_by, node_at, root_form}
use Rattle.krieg_planfile.proofs.Branches.{with_front, branch_ok, branch_refused}
use Rattle.krieg_planfile.proofs.roots.read_roots.Goals as goal

pub loop-i-preserved : goal.loop-i-preserved
loop-i-preserved c =
    let node = node_at MOST_ON_PATH c.args.rules.dialect in
    let form = root_form c.args.rules.version c.args.rules.waiting c.args.rules.dialect in
    let r = c.in-Ok.root in
    let first : branch_by node form c.loop-i.last c.loop-i.left c.loop-i.from ≡ Ok ((root_of r, c.read_root.new.left), c.read_root.new.from) = search rules in
    let items : c.push.new.self.items ≡ c.loop-i.roots.items ++ r ∷ [] = c.in_ok-push.ensures.items in
    let pushed : map root_of c.push.new.self.items ≡ map root_of c.loop-i.roots.items ++ root_of r ∷ [] = ap (map root_of) items ∙ map-append root_of c.loop-i.roots.items (r ∷ []) in
    ap (λ (fs : List (RootKey × NodeTree)). with_front node form fs (branches_by node form (c.args.k - (c.loop-i.i + 1)) (Some (r.opens, r.heard)) c.read_root.new.left c.read_root.new.from)) pushed
    ∙ branch_ok node form (map root_of c.loop-i.roots.items) c.args.k c.loop-i.i c.loop-i.last c.loop-i.left c.read_root.new.left c.loop-i.from c.read_root.new.from (root_of r) _ (omega arith) first c.loop-i.invariant

pub returns-in-Err : goal.returns-in-Err
returns-in-Err c =
    let node = node_at MOST_ON_PATH c.args.rules.dialect in
    let form = root_form c.args.rules.version c.args.rules.waiting c.args.rules.dialect in
    let one : Root → (RootKey × NodeTree) × _ = λ r. (root_of r, c.read_root.new.left) in
    let view : Vec Root Global → List (RootKey × NodeTree) × _ = λ v. (map root_of v.items, c.read_root.new.left) in
    let first : GivesOn one (Err c.in-Err.fault) c.read_root.new.from (branch_by node form c.loop-i.last c.loop-i.left c.loop-i.from) = c.in-Err.ensures in
    branch_refused node form one view c.in-Err.fault (map root_of c.loop-i.roots.items) c.args.k c.loop-i.i c.loop-i.last c.loop-i.left c.loop-i.from c.read_root.new.from _ (omega arith) first c.loop-i.invariant
