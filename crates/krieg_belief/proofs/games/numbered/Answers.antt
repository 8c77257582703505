use Rattle.std.proofs.Common.{rules, ap, ◌∙◌, map, ◌≡◌, ◌++◌, ◌∷◌, [], ℕ, Some}
use Rattle.std.proofs.lemmas.List.{take_all}
use Rattle.std.specs.Map.{lookup}
use Rattle.krieg_belief.proofs.Common.{position_eq, entry_at}
use Rattle.krieg_belief.proofs.Found.{entry_is, none_found, each_more}
use Rattle.krieg_belief.proofs.games.numbered.Goals as goal
use Rattle.krieg_belief.proofs.games.numbered.Goals.{in-Some+in_ok-push, in_default}

pub loop-k-preserved : goal.loop-k-preserved
loop-k-preserved c =
    let es = c.args.tales.now.entries in
    let qs = c.members-k-items.result.now in
    let q = c.k-item.result in
    elim c.match-get.branch [
      | in-Some+in_ok-push v ↦
          let n : ℕ = v.in-Some.number.now in
          let is : lookup (position_eq q) es ≡ Some n = search rules in
          let pushed : c.match-get.lasts.items ≡ c.loop-k.lasts.items ++ (q, n) ∷ [] = search rules in
          each_more (entry_at es) qs c.loop-k.k-index q c.loop-k.lasts.items c.match-get.lasts.items (q, n) c.loop-k-test.true c.k-item.is pushed (entry_is es q n is) c.loop-k.invariant
      | in_default v ↦ absurd (none_found es q (search rules) (search rules))
    ]

pub loop-k-init : goal.loop-k-init
loop-k-init c = c.in_ok-lasts.ensures.items

pub returns : goal.returns
returns c =
    let qs = c.members-k-items.result.now in
    c.loop-k.invariant ∙ ap (map (entry_at c.args.tales.now.entries)) (take_all c.loop-k.k-index qs c.loop-k-test.false ∙ c.members-k-items.ensures.value)
