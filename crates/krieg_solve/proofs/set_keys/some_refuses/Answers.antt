use Rattle.std.proofs.Common.{◌≡◌, suc, ◌+◌, false, true, List, drop, not, sym, ap, ◌∙◌, arith}
use Rattle.std.proofs.lemmas.List.{drop_all}
use Rattle.krieg_moves.specs.Legal.{is_legal}
use Rattle.krieg_solve.proofs.Common.{Pos, is_nil, chess, refused}
use Rattle.krieg_search.proofs.Checking.{at_item}
use Rattle.krieg_solve.proofs.Keying.{one_refuses, not_this}
use Rattle.krieg_solve.proofs.set_keys.some_refuses.Goals as goal

pub returns-then-not-is_legal : goal.returns-then-not-is_legal
returns-then-not-is_legal c d =
    let p = c.member-item.result in
    let ps = c.args.members.now in
    let k = c.loop-member.member-index in
    let t = c.args.mv.now in
    let at = at_item ps k p c.loop-member-test.true c.member-item.is in
    let e : is_legal p t ≡ false = ap (λ (q : Pos). is_legal q t) (sym c.unpack.ensures.value) ∙ sym c.is_legal.ensures ∙ c.if-not-is_legal.true in
    sym (ap not (ap is_nil (sym (c.loop-member.invariant d) ∙ ap (λ (qs : List Pos). refused (chess d) qs t) at) ∙ one_refuses d p (drop (suc k) ps) t e))

pub loop-member-preserved : goal.loop-member-preserved
loop-member-preserved c d =
    let p = c.member-item.result in
    let ps = c.args.members.now in
    let k = c.loop-member.member-index in
    let t = c.args.mv.now in
    let at = at_item ps k p c.loop-member-test.true c.member-item.is in
    let e : is_legal p t ≡ true = ap (λ (q : Pos). is_legal q t) (sym c.unpack.ensures.value) ∙ sym c.is_legal.ensures ∙ c.if-not-is_legal.false in
    let one : k + 1 ≡ suc k = omega arith in
    ap (λ n. refused (chess d) (drop n ps) t) one ∙ sym (not_this d p (drop (suc k) ps) t e) ∙ ap (λ (qs : List Pos). refused (chess d) qs t) (sym at) ∙ c.loop-member.invariant d

pub returns : goal.returns
returns c d =
    let ps = c.args.members.now in
    let t = c.args.mv.now in
    ap (λ (qs : List Pos). not (is_nil qs)) (ap (λ (qs : List Pos). refused (chess d) qs t) (sym (drop_all c.loop-member.member-index ps c.loop-member-test.false)) ∙ c.loop-member.invariant d)
