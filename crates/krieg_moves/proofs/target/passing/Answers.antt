use Rattle.std.proofs.Common.{◌∙◌, ◌&&◌, sym, ap}
use Rattle.krieg_moves.proofs.Common.{attacks, is_marked, is_legal, plain_move}
use Rattle.krieg_board.proofs.SetLemmas.{has_zero}
use Rattle.krieg_moves.proofs.target.passing.Goals as goal

pub returns-in-None : goal.returns-in-None
returns-in-None c = λ t h. has_zero t ∙ sym (ap (λ x. is_marked x t && (attacks c.args.p.now.board c.args.from t && is_legal c.args.p.now (plain_move c.args.from t))) (sym c.mark.ensures.value ∙ c.in-None.is))
