use Rattle.std.proofs.Common.{◌≡◌, true, false, ◌&&◌, sym, ap, ◌∙◌}
use Rattle.std.specs.List.{list_all}
use Rattle.krieg_refutation.proofs.Common.{position_lt, is_within, refuses}
use Rattle.krieg_refutation.proofs.LastTries.{within_refused}
use Rattle.krieg_refutation.proofs.reasons.is_within_refused.Goals as goal

pub returns-then-is_within : goal.returns-then-is_within
returns-then-is_within c = λ d B t q.
    let C = c.args.set.now in
    let within : is_within position_lt C B ≡ true = ap (is_within position_lt C) (sym q.set_part) ∙ sym c.is_within.ensures ∙ c.if-is_within.true in
    c.all_refuse.ensures ∙ (λ i. list_all (refuses (q.move_part i)) (c.members.ensures.value i)) ∙ ap (λ b. b && list_all (refuses t) C) (sym within) ∙ within_refused d B C t

pub returns-else-is_within : goal.returns-else-is_within
returns-else-is_within c = λ d B t q.
    let C = c.args.set.now in
    let within : is_within position_lt C B ≡ false = ap (is_within position_lt C) (sym q.set_part) ∙ sym c.is_within.ensures ∙ c.if-is_within.false in
    c.if-is_within.false ∙ ap (λ b. b && list_all (refuses t) C) (sym within) ∙ within_refused d B C t
