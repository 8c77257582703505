use Rattle.std.proofs.Common.{None, map, ap, ◌∙◌}
use Rattle.krieg_judge.proofs.Common.{first_to, opening, root_links, root_lt, root_of, told}
use Rattle.krieg_judge.proofs.Adding.{link_by}
use Rattle.krieg_judge.proofs.start.start_own.Goals as goal

pub returns : goal.returns
returns c =
    let d = c.args.s.now.dialect in
    link_by d root_lt (root_links c.args.s.now) 0 c.args.found.now c.lead.new.self ((told d (opening c.args.p.now), None), c.args.p.now) c.find_root_to-to.result c.pack.result
    (c.find_root_to-to.ensures ∙ ap (λ rs. first_to root_lt (map root_of rs) (c.told-opens.result, None)) c.as_slice.ensures.value
    ∙ ap (λ w. first_to root_lt (root_links c.args.s.now) (w, None)) (c.told-opens.ensures.value ∙ ap (told d) c.opening.ensures.value))
    c.pack.ensures.value c.in_ok-lead.ensures
