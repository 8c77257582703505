use Rattle.std.proofs.Common.{◌≡◌, ◌≤◌, ℕ, List, sym, subst, ◌∙◌, length, take}
use Rattle.std.specs.Prelude.{IfOk}
use Rattle.krieg_belief.proofs.Common.{Pos, run, IsPossible, HaveOneHand, AllWithin, IsStop, IsLateStop}
use Rattle.krieg_belief.proofs.Prefixes.{begun, starts_are, listed_fit, starts_fit, possible_all, possible_hand, entry_exceeds, all_within, if_ok, if_err, on_ok}
use Rattle.krieg_belief.proofs.beliefs.believe.Goals as goal

pub go_through-requires-clause-fits : goal.go_through-requires-clause-fits
go_through-requires-clause-fits c =
    let s = c.args.s.now in
    subst (λ (ps : List Pos). length ps ≤ c.args.limit) (sym (starts_are s c.in_ok-start.start c.entries.ensures.sheet c.in_ok-start.ensures.value))
    (starts_fit s c.args.limit c.entries.ensures.sheet c.in_ok-start.ensures.within)

starts : (c : goal.After-go_through) → c.in_ok-start.start ≡ begun c.args.s.now
starts c = starts_are c.args.s.now c.in_ok-start.start c.entries.ensures.sheet c.in_ok-start.ensures.value

possible : (c : goal.After-go_through) → IfOk c.go_through.result (λ b. IsPossible c.args.s.now b)
possible c =
    let s = c.args.s.now in
    let behind : run c.dialect.result c.side.result c.entries.result.now c.in_ok-start.start ≡ run s.dialect s.side s.entries (begun s) =
    λ i. run (c.dialect.ensures.value i) (c.side.ensures.value i) (c.entries.ensures.value i) (starts c i) in
    if_ok _ (IsPossible s) c.go_through.result (λ b is. subst (IsPossible s) (sym (is ∙ behind)) (possible_all s c.entries.ensures.sheet)) c.go_through.ensures.value

pub returns-clause-value : goal.returns-clause-value
returns-clause-value c = possible c

pub returns-clause-hand : goal.returns-clause-hand
returns-clause-hand c =
    let s = c.args.s.now in
    if_ok (IsPossible s) (HaveOneHand s.side) c.go_through.result (λ b h. possible_hand s b c.entries.ensures.sheet h) (possible c)

pub returns-clause-within : goal.returns-clause-within
returns-clause-within c =
    let s = c.args.s.now in
    on_ok _ (AllWithin c.args.limit s) c.go_through.result
    (λ within. all_within s c.args.limit c.entries.ensures.sheet (listed_fit s c.args.limit c.in_ok-start.ensures.within)
    (subst (λ (T : Type 0). T)
    (λ i. (n : ℕ) → n ≤ length (c.entries.ensures.value i) → length (run (c.dialect.ensures.value i) (c.side.ensures.value i) (take n (c.entries.ensures.value i)) (starts c i)) ≤ c.args.limit)
    within))
    c.go_through.ensures.within

pub returns-clause-stop : goal.returns-clause-stop
returns-clause-stop c =
    let s = c.args.s.now in
    if_err _ (IsStop s c.args.limit) c.go_through.result
    (λ r late. entry_exceeds s c.args.limit c.line_before_entries-behind.result r c.entries.ensures.sheet (listed_fit s c.args.limit c.in_ok-start.ensures.within) c.line_before_entries-behind.ensures.value
    (subst (λ (T : Type 0). T)
    (λ i. IsLateStop (c.dialect.ensures.value i) (c.side.ensures.value i) (c.entries.ensures.value i) (starts c i) c.args.limit c.line_before_entries-behind.result r)
    late))
    c.go_through.ensures.stop
