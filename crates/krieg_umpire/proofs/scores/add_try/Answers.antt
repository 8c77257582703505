use Rattle.std.proofs.Common.{◌∙◌, ◌++◌, ◌∷◌, [], sym, ap, append_assoc}
use Rattle.krieg_umpire.specs.Games.{judge}
use Rattle.krieg_umpire.specs.Scores.{done_moves}
use Rattle.krieg_umpire.proofs.DoneMoves.{done_more}
use Rattle.krieg_umpire.proofs.scores.add_try.Goals as goal

pub returns-in_ok-push-in-Some : goal.returns-in_ok-push-in-Some
returns-in_ok-push-in-Some c = λ es.
    ap (λ xs. xs ++ done_moves (judge c.in-Some.q es)) c.in_ok-push-in-Some.ensures.items
    ∙ append_assoc c.args.moves.now.items (c.args.event.now.mv ∷ []) (done_moves (judge c.in-Some.q es))
    ∙ ap (λ q. c.args.moves.now.items ++ (c.args.event.now.mv ∷ done_moves (judge q es))) c.in-Some.ensures.position
    ∙ ap (λ xs. c.args.moves.now.items ++ xs) (sym (done_more c.args.p.now c.args.event.now es c.in-Some.ensures.done))
