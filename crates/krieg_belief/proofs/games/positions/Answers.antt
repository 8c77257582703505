use Rattle.std.proofs.Common.{rules, arith, ap, ◌∙◌, map, ◌≡◌, ◌++◌, ◌∷◌, []}
use Rattle.std.proofs.lemmas.List.{take_all}
use Rattle.krieg_pack.specs.Members.{set_of}
use Rattle.krieg_belief.proofs.Common.{place_of}
use Rattle.krieg_belief.proofs.Found.{place_more}
use Rattle.krieg_belief.proofs.Lines.{none_past}
use Rattle.krieg_belief.proofs.games.positions.Goals as goal
use Rattle.krieg_belief.proofs.games.positions.Goals.{in-Some+in_ok-push, in_default}

pub loop-i-preserved : goal.loop-i-preserved
loop-i-preserved c =
    let es = c.args.tales.now.entries in
    elim c.match-get_index.branch [
      | in-Some+in_ok-push v ↦
          let pushed : c.match-get_index.packed.items ≡ c.loop-i.packed.items ++ v.in-Some.k.now ∷ [] = search rules in
          place_more es c.loop-i.i v.in-Some.k.now v.in-Some._number.now c.loop-i.packed.items c.match-get_index.packed.items (search rules) pushed c.loop-i.invariant
      | in_default v ↦ absurd (none_past es c.loop-i.i (search rules) (search rules))
    ]

pub loop-i-init : goal.loop-i-init
loop-i-init c = c.in_ok-packed.ensures.items

pub returns : goal.returns
returns c =
    let es = c.args.tales.now.entries in
    c.from_packed.ensures.value ∙ ap set_of (c.loop-i.invariant ∙ ap (map place_of) (take_all c.loop-i.i es (omega (arith, c.len-i-end.ensures.len))))
