use Rattle.std.proofs.Common.{Some, ◌∷◌, [], ap, ◌∙◌, subst, arith}
use Rattle.krieg_judge.proofs.Common.{LinksAdd, after, first_move, root_links, root_lt, told, words}
use Rattle.krieg_judge.proofs.Adding.{links_step, links_all}
use Rattle.krieg_judge.proofs.start.start_moves.Goals as goal

pub loop-mv-preserved : goal.loop-mv-preserved
loop-mv-preserved c =
    let d = c.args.s.now.dialect in
    let p = c.args.p.now in
    let r = c.mv-item.result in
    let one = subst (λ o. LinksAdd d root_lt (root_links c.args.s.now) 0 c.loop-mv.found c.start_move.new.found (((o, Some (told d (words p r))), after p r) ∷ [])) (c.told-opens.ensures.value ∙ ap (told d) c.opening.ensures.value) c.in_ok-start_move.ensures in
    links_step d root_lt (root_links c.args.s.now) 0 (first_move d p) c.args.found.now c.loop-mv.found c.start_move.new.found c.args.moves.now c.loop-mv.mv-index r c.loop-mv-test.true c.mv-item.is c.loop-mv.invariant one

pub returns : goal.returns
returns c =
    links_all c.args.s.now.dialect root_lt (root_links c.args.s.now) 0 (first_move c.args.s.now.dialect c.args.p.now) c.args.found.now c.loop-mv.found c.args.moves.now _ c.loop-mv.mv-index (omega arith) c.requires c.loop-mv.invariant
