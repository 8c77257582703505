use Rattle.std.proofs.Common.{◌∙◌, sym, ap, subst, arith, ◌&&◌, ◌||◌, not, ℕ, set}
use Rattle.std.specs.Prelude.{None}
use Rattle.krieg_moves.proofs.Common.{is_attacked, has, IsLowest}
use Rattle.krieg_board.proofs.SetLemmas.{has_zero}
use Rattle.krieg_rays.proofs.Taking.{kept_more, kept_all}
use Rattle.krieg_moves.proofs.guard.safe_one_by_one.Goals as goal

pub loop-rest-init : goal.loop-rest-init
loop-rest-init c = λ t h. ap (λ x. x || (has c.args.squares t && not (is_attacked (set c.args.b.now c.args.gone None) t c.args.by))) (has_zero t)

pub loop-rest-preserved : goal.loop-rest-preserved
loop-rest-preserved c = λ t h.
    let l = subst (λ (s : ℕ). IsLowest c.loop-rest.rest s) (sym c.number-square.ensures.value) c.lowest.ensures in
    kept_more (λ t. not (is_attacked (set c.args.b.now c.args.gone None) t c.args.by)) c.loop-rest.safe c.only_if-safe.result c.loop-rest.rest c.without_lowest-rest.result c.number-square.result t
    (not c.is_attacked_without-is_safe.result) l h (c.without_lowest-rest.ensures.others c.number-square.result l) (ap not c.is_attacked_without-is_safe.ensures) (c.only_if-safe.ensures t h)
    ∙ c.loop-rest.invariant t h

pub returns : goal.returns
returns c = λ t h.
    sym (kept_all (λ t. not (is_attacked (set c.args.b.now c.args.gone None) t c.args.by)) c.loop-rest.safe c.loop-rest.rest t (omega (arith, c.loop-rest-test.false))) ∙ c.loop-rest.invariant t h
