use Rattle.std.proofs.Common.{◌≡◌, ◌==◌, ◌||◌, ℕ, Bool, true, ◌⊎◌, inl, inr, bit_or, ◌∙◌, sym, ap}
use Rattle.std.proofs.lemmas.Bool.{both_ways, eqb-true, or_cases}
use Rattle.krieg_board.specs.Sets.{has}
use Rattle.krieg_board.proofs.SetLemmas.{has_or, has_zero}
use Rattle.krieg_moves.specs.Moves.{is_stalemate}
use Rattle.krieg_nets.specs.LoneKings.{with_king}
use Rattle.krieg_nets.specs.Others.{lone_of}
use Rattle.krieg_nets.proofs.stale.stalemates.Goals.{then-is_stale, else-is_stale}
use Rattle.krieg_nets.proofs.stale.stalemates.Goals as goal

-- a square of a set with one more passes, where that one does and those before do
one_more : (test : ℕ → Bool) (old new one s k : ℕ) → new ≡ bit_or old one → has one k ≡ (k == s) → test s ≡ true → (has old k ≡ true → test k ≡ true) → has new k ≡ true → test k ≡ true
one_more test old new one s k is this passes before here =
    by (or_cases (has old k) (k == s) (ap (λ x. has old k || x) (sym this) ∙ sym (has_or old one k) ∙ ap (λ n. has n k) (sym is) ∙ here))
  where
    by : (has old k ≡ true) ⊎ ((k == s) ≡ true) → test k ≡ true
    by (inl old-k) = before old-k
    by (inr e) = ap test (eqb-true k s e) ∙ passes

pub loop-rest-init : goal.loop-rest-init
loop-rest-init c = λ k h here. absurd (both_ways (has 0 k) (has_zero k) here)

pub loop-rest-preserved : goal.loop-rest-preserved
loop-rest-preserved c = λ k h here valid.
    let men = c.args.men.now.bits in
    let lone = lone_of c.args.men.now.others in
    elim c.if-is_stale.branch [
      | then-is_stale w ↦
          one_more (λ j. is_stalemate (with_king men lone j lone)) c.loop-rest.stale c.if-is_stale.stale w.only-stale.result c.number-square.result k
          w.stale-is (w.only-stale.ensures k h) (c.is_stale.ensures w.if-is_stale.true) (λ old. c.loop-rest.invariant k h old valid) here
      | else-is_stale w ↦ c.loop-rest.invariant k h (ap (λ n. has n k) (sym w.stale-is) ∙ here) valid
    ]
