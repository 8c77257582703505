use Rattle.std.proofs.Common.{Some, map, ap, ◌∙◌}
use Rattle.krieg_judge.proofs.Common.{after, first_to, root_links, root_lt, root_of, told, words}
use Rattle.krieg_judge.proofs.Adding.{link_by}
use Rattle.krieg_judge.proofs.start.start_move.Goals as goal

pub returns : goal.returns
returns c =
    let d = c.args.s.now.dialect in
    link_by d root_lt (root_links c.args.s.now) 0 c.args.found.now c.lead.new.self ((c.args.opens.now, Some (told d (words c.args.p.now c.args.mv))), after c.args.p.now c.args.mv) c.find_root_to-to.result c.pack.result
    (c.find_root_to-to.ensures ∙ ap (λ rs. first_to root_lt (map root_of rs) (c.args.opens.now, Some c.told.result)) c.as_slice.ensures.value
    ∙ ap (λ w. first_to root_lt (root_links c.args.s.now) (c.args.opens.now, Some w)) (c.told.ensures.value ∙ ap (told d) c.make_move-made.ensures.words))
    (c.pack.ensures.value ∙ c.make_move-made.ensures.position) c.in_ok-lead.ensures
