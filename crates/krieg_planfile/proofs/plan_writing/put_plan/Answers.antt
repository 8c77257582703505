use Rattle.std.proofs.Common.{rules, ℕ, ◌∷◌, [], ◌++◌, map, length, sym, subst}
use Rattle.std.proofs.lemmas.List.{length-map}
use Rattle.std.specs.Prelude.{codes}
use Rattle.krieg_planfile.proofs.Common.{listing_lines, HasLines, alone, root_of, state_of, waits, heading, roots_lines, worst_line, count_line, claim_lines}
use Rattle.krieg_planfile.proofs.NodeWriting.{puts_then}
use Rattle.krieg_planfile.proofs.plan_writing.put_plan.Goals as goal

pub returns : goal.returns
returns c =
    let s = state_of c.args.f.now in
    let end = alone (codes "end") ∷ [] in
    let roots = roots_lines s.dialect s.plan in
    let count = count_line (length s.plan) in
    let r = c.line.result in
    let new = c.line.new.self in
    let a : HasLines c.args.text.now c.put_heading.new.text (map alone (heading s.dialect (waits s.side s.list))) = search rules in
    let b : HasLines c.put_heading.new.text c.put_listing.new.text (listing_lines s.side s.list) = search rules in
    let d : HasLines c.put_listing.new.text c.put_worst.new.text (worst_line s.worst ∷ []) = c.in_ok-put_worst.ensures in
    let items = c.args.f.now.plan.roots.items in
    let counted : HasLines c.put_worst.new.text c.put_root_count.new.text (count_line (length items) ∷ []) = search rules in
    let e : HasLines c.put_worst.new.text c.put_root_count.new.text (count ∷ []) = subst (λ (n : ℕ). HasLines c.put_worst.new.text c.put_root_count.new.text (count_line n ∷ [])) (sym (length-map items root_of)) counted in
    let f : HasLines c.put_root_count.new.text c.put_roots.new.text roots = search rules in
    puts_then r c.args.text.now c.put_heading.new.text new (map alone (heading s.dialect (waits s.side s.list))) (listing_lines s.side s.list ++ claim_lines s) a
    (puts_then r c.put_heading.new.text c.put_listing.new.text new (listing_lines s.side s.list) (claim_lines s) b
    (puts_then r c.put_listing.new.text c.put_worst.new.text new (worst_line s.worst ∷ []) (count ∷ (roots ++ end)) d
    (puts_then r c.put_worst.new.text c.put_root_count.new.text new (count ∷ []) (roots ++ end) e
    (puts_then r c.put_root_count.new.text c.put_roots.new.text new roots end f c.line.ensures))))
