use Rattle.std.proofs.Common.{◌∙◌, sym, refl}
use Rattle.krieg_rays.proofs.Common.{is_attacked}
use Rattle.krieg_board.proofs.SameTests.{some_square_same}
use Rattle.krieg_rays.proofs.Attacking.{attack_there}
use Rattle.krieg_rays.proofs.attack.attacked_by.Goals as goal

pub attacked_among-requires : goal.attacked_among-requires
attacked_among-requires c = λ f h here. sym (c.men_of.ensures f h) ∙ here

pub returns : goal.returns
unfolding is_attacked
returns c = λ k h.
    c.attacked_among.ensures k h
    ∙ some_square_same _ _ (λ f hf.
    attack_there c.args.b.now c.args.b.now c.args.by c.men_of.result c.occupied.result f k c.occupied.ensures (c.men_of.ensures f hf) (λ own. refl))
