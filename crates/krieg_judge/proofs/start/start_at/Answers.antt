use Rattle.std.proofs.Common.{rules, ◌≡◌, true, false, length, ◌∙◌, arith}
use Rattle.krieg_parting.proofs.Charges.{stopped}
use Rattle.krieg_judge.proofs.Common.{is_ended, is_same_side, moves}
use Rattle.krieg_judge.proofs.FirstTurns.{ended_nil, own_adds, own_cost, others_add, others_cost}
use Rattle.krieg_judge.proofs.start.start_at.Goals as goal

pub returns-then-eq : goal.returns-then-eq
returns-then-eq c =
    let same : is_same_side c.args.p.now.side c.args.s.now.side ≡ true = search rules in
    (own_adds c.args.s.now c.args.p.now c.args.found.now c.start_own.new.found same c.in_ok-start_own.ensures, omega (arith, own_cost c.args.s.now c.args.p.now same))

pub returns-in_err-take : goal.returns-in_err-take
returns-in_err-take c =
    let same : is_same_side c.args.p.now.side c.args.s.now.side ≡ false = search rules in
    let many : c.len.result ≡ length (moves c.args.p.now) = search rules in
    stopped _ c.from_residual-in_err-take.result c.in_err-take.field-0.0 _ _ _ _ _ _ _ (λ x h. cc) c.from_residual-in_err-take.ensures.1 (omega (arith, many, others_cost c.args.s.now c.args.p.now same)) (omega arith) c.in_err-take.ensures

pub returns : goal.returns
unfolding is_ended
returns c =
    let same : is_same_side c.args.p.now.side c.args.s.now.side ≡ false = search rules in
    let many : c.len.result ≡ length (moves c.args.p.now) = search rules in
    let none : c.is_empty.result ≡ is_ended c.args.p.now = search rules in (
      others_add c.args.s.now c.args.p.now c.args.found.now c.ask.new.self c.start_moves.new.found c.unless.result c.is_empty.result same c.unless.ensures (none ∙ ended_nil (moves c.args.p.now)) c.ask.ensures c.in_ok-start_moves.ensures,
      omega (arith, many, c.in_ok-take.ensures.1, others_cost c.args.s.now c.args.p.now same),
    )
