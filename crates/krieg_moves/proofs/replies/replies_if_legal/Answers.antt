use Rattle.std.proofs.Common.{◌≡◌, ◌≤◌, ℕ, length, ◌∙◌, sym, arith}
use Rattle.std.specs.Prelude.{Option, Some, None, IfSome}
use Rattle.krieg_moves.proofs.Common.{after, moves, MOST_LEGAL_MOVES}
use Rattle.krieg_moves.proofs.Counting.{few_moves}
use Rattle.krieg_moves.proofs.Safety.{illegal_from_nobody}
use Rattle.krieg_moves.proofs.replies.replies_if_legal.Goals as goal

pub returns-in-None-clause-illegal : goal.returns-in-None-clause-illegal
returns-in-None-clause-illegal c = illegal_from_nobody c.args.p.now c.args.mv (sym c.man_at.ensures.value ∙ c.in-None.is)

pub returns-in-Some-clause-few : goal.returns-in-Some-clause-few
returns-in-Some-clause-few c = few c.replies_if_legal_by.result c.replies_if_legal_by.ensures.value
  where
    few : (o : Option ℕ) → IfSome o (λ n. n ≡ length (moves (after c.args.p.now c.args.mv))) → IfSome o (λ n. n ≤ MOST_LEGAL_MOVES)
    few None h = tt
    few (Some n) h = omega (arith, h, few_moves (after c.args.p.now c.args.mv))
