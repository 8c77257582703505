use Rattle.std.proofs.Common.{◌+◌, List, sym, ap, subst, ◌∙◌, arith}
use Rattle.std.specs.List.{list_all}
use Rattle.krieg_parting.proofs.Charges.{stopped}
use Rattle.krieg_judge.proofs.Common.{IsJudgement, Pos, chess, outset, pair_cost, reached, root_links, set_of, start_cost, starts_held, total, trees_of}
use Rattle.krieg_judge.proofs.Answering.{is_judged, set_costs}
use Rattle.krieg_judge.proofs.judging.judge.Goals as goal

pub returns-in_err-need : goal.returns-in_err-need
returns-in_err-need c =
    let s = c.args.s.now in
    let is = c.in_ok-set.ensures.value ∙ ap set_of c.as_slice.ensures.value in
    let cost = ap (λ (S : List Pos). total (start_cost s) S + total (pair_cost (chess s.dialect) (outset s.dialect s.side) s.nodes (root_links s)) (reached (chess s.dialect) (outset s.dialect s.side) s.nodes (root_links s) S)) is in
    stopped _ c.from_residual-in_err-need.result c.in_err-need.field-0.0 _ _ _ _ _ _ _ (λ x h. cc) c.from_residual-in_err-need.ensures.1 (omega (arith, cost, set_costs s)) (omega arith) c.in_err-need.ensures

pub returns : goal.returns
returns c =
    let s = c.args.s.now in
    let is = c.in_ok-set.ensures.value ∙ ap set_of c.as_slice.ensures.value in
    let cost = ap (λ (S : List Pos). total (start_cost s) S + total (pair_cost (chess s.dialect) (outset s.dialect s.side) s.nodes (root_links s)) (reached (chess s.dialect) (outset s.dialect s.side) s.nodes (root_links s) S)) is in (
      subst (IsJudgement s) (sym c.judged.ensures) (is_judged s c.in_ok-need.need (λ k small. c.in_ok-need.ensures.0 k small ∙ ap (list_all (starts_held s (trees_of s.nodes) k)) is)),
      omega (arith, cost, set_costs s, c.in_ok-need.ensures.1),
    )
