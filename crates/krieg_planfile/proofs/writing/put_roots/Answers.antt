use Rattle.std.proofs.Common.{rules, ◌≡◌, ◌+◌, ◌∷◌, [], ◌++◌, map, take, get_or, List, ap, subst, ◌∙◌}
use Rattle.std.proofs.lemmas.Grind.{take_at_read}
use Rattle.krieg_planfile.proofs.Common.{Pieces, HasLines, root_of, node_lines, branches_lines, IsToldRoot, root_line}
use Rattle.krieg_planfile.proofs.NodeWriting.{told_at, has_then, next_lines}
use Rattle.krieg_planfile.proofs.writing.put_roots.Goals as goal

pub put_root-requires-clause-key : goal.put_root-requires-clause-key
put_root-requires-clause-key c = (told_at (IsToldRoot c.args.d) c.args.d root_of c.args.roots.now c.loop-r.r-index c.r-item.result (search rules) (search rules) c.requires).0

pub put_root-requires-clause-node : goal.put_root-requires-clause-node
put_root-requires-clause-node c = (told_at (IsToldRoot c.args.d) c.args.d root_of c.args.roots.now c.loop-r.r-index c.r-item.result (search rules) (search rules) c.requires).1

pub loop-r-preserved : goal.loop-r-preserved
loop-r-preserved c =
    let d = c.args.d in
    let i = c.loop-r.r-index in
    let r = c.r-item.result in
    let is : get_or c.args.roots.now i r ≡ r = search rules in
    let next : take (i + 1) c.args.roots.now ≡ take i c.args.roots.now ++ r ∷ [] = (take_at_read c.args.roots.now i r (search rules)).1 ∙ ap (λ x. take i c.args.roots.now ++ x ∷ []) is in
    let step : HasLines c.args.text.now c.put_root.new.text (branches_lines (root_line d) d (map root_of (take i c.args.roots.now)) ++ (root_line d (root_of r).0 ∷ node_lines d (root_of r).1)) =
    has_then c.args.text.now c.loop-r.text c.put_root.new.text (branches_lines (root_line d) d (map root_of (take i c.args.roots.now))) (root_line d (root_of r).0 ∷ node_lines d (root_of r).1) c.loop-r.invariant c.in_ok-put_root.ensures in
    subst (λ (ls : List Pieces). HasLines c.args.text.now c.put_root.new.text ls) (next_lines (root_line d) d root_of c.args.roots.now i r next) step
