use Rattle.std.proofs.Common.{◌∙◌, ◌≡◌, ◌-◌, ◌^◌, ◌<◌, ◌≤◌, ◌⊎◌, ℕ, inl, inr, true, false, ap, sym, refl, arith}
use Rattle.std.specs.Prelude.{Option, Some, None, is_some}
use Rattle.std.proofs.lemmas.Bool.{and_parts, not-true, cases_lt, both_ways}
use Rattle.krieg_moves.proofs.Common.{has}
use Rattle.krieg_board.proofs.SetLemmas.{has_and, has_not, has_zero}
use Rattle.krieg_moves.proofs.count.free_pawns.Goals as goal

outside : (n k : ℕ) → k < 64 → has (18446744073709551615 - n) k ≡ true → has n k ≡ false
outside n k h e = by_size (cases_lt n (2 ^ 64))
  where
    by_size : (n < 2 ^ 64) ⊎ (2 ^ 64 ≤ n) → has n k ≡ false
    by_size (inl l) = not-true (has n k) (sym (has_not n k l h) ∙ e)
    by_size (inr l) = absurd (both_ways (has 0 k) (has_zero k) (ap (λ x. has x k) (omega arith) ∙ e))

none_of : (x : Option ℕ) → is_some x ≡ false → x ≡ None
none_of None e = refl
none_of (Some s) e = cc

pub returns-then-is_some : goal.returns-then-is_some
returns-then-is_some c = λ k h here. absurd (both_ways (has 0 k) (has_zero k) here)

pub returns : goal.returns
returns c = λ k h here.
    let pinned = c.args.guard.now.pinned in
    let parts = and_parts (has c.own_pawns.result k) (has (18446744073709551615 - pinned) k) (sym (has_and c.own_pawns.result (18446744073709551615 - pinned) k) ∙ here) in
    record {
      pawn = sym (c.own_pawns.ensures k h) ∙ parts.0;
      free = sym (c.requires.pinned k h) ∙ outside pinned k h parts.1;
      unmarked = sym c.mark.ensures.value ∙ none_of c.mark.result (sym c.is_some.ensures ∙ c.if-is_some.false);
    }
