use Rattle.std.proofs.Common.{ℕ, false, List, ap, subst, sym, ◌∙◌}
use Rattle.std.specs.List.{list_any}
use Rattle.krieg_refute.proofs.Common.{Pos, lives, set_at, FailsAtOnce}
use Rattle.krieg_parting.proofs.LastMoves.{some_lives}
use Rattle.krieg_split.proofs.LastMoves.{life_fails}
use Rattle.krieg_search.proofs.Leaving.{fails_by_life}
use Rattle.krieg_refute.proofs.claiming.left_again.Goals as goal

pub returns-then-lives_in_some : goal.returns-then-lives_in_some
returns-then-lives_in_some c =
    let d = c.args.way.d in
    let B = set_at c.args.table.now c.args.set in
    let t = c.args.mv in
    let lives = some_lives d B t ∙ ap (λ (ps : List Pos). list_any (lives t) ps) (sym c.of-b.ensures) ∙ ap (λ (ps : List Pos). list_any (lives t) ps) (sym c.members.ensures.value) ∙ (sym c.lives_in_some.ensures ∙ c.if-lives_in_some.true) in
    subst (λ (j : ℕ). FailsAtOnce d false B t j) (sym c.if-moves-eq1.true) (fails_by_life d B t (record { lives = lives; fails = life_fails d B t lives }))
