use Rattle.std.proofs.Common.{sym, subst, List}
use Rattle.krieg_search.proofs.Common.{Opening, IsAdded}
use Rattle.krieg_search.proofs.OpenedSets.{added}
use Rattle.krieg_search.proofs.openings.add.Goals as goal

pub returns : goal.returns
returns c =
    let T = c.args.table.now in
    let T1 = c.number_of.new.table in
    let os = c.args.openings.now.items in
    let o : Opening = record { opens = c.args.opens; heard = c.args.heard; set = c.in_ok-set.set } in
    subst (λ (xs : List Opening). IsAdded T T1 os xs ((o.opens, o.heard), c.args.belief)) (sym c.in_ok-push.ensures.items)
    (added T T1 os o c.args.belief c.requires.numbered c.in_ok-set.ensures)
