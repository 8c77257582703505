use Rattle.std.proofs.Common.{rules}
use Rattle.krieg_belief.proofs.Adding.{adds_stay, adds_done}
use Rattle.krieg_belief.proofs.links.add_next.Goals as goal

pub returns-in_ok-add-in-Done : goal.returns-in_ok-add-in-Done
returns-in_ok-add-in-Done c =
    adds_done c.args.setting.now.starts c.args.setting.now.dialect c.args.setting.now.who c.args.line.now c.in-Done.mv c.in-Done.w c.args.game.stands c.in-Some.next c.args.links.now.items c.args.tales.now.entries c.add.new.tales.entries c.args.game.number c.requires.kept c.requires.number
    (search rules) (search rules) (search rules) (search rules)

pub returns-in_ok-add-in_default : goal.returns-in_ok-add-in_default
returns-in_ok-add-in_default c =
    adds_stay c.args.setting.now.starts c.args.setting.now.dialect c.args.setting.now.who c.args.line.now c.args.game.stands c.args.links.now.items c.args.tales.now.entries c.add-then-stays.new.tales.entries c.args.game.number c.requires.kept c.requires.number
    (search rules) (search rules)
