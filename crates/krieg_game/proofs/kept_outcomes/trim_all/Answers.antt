use Rattle.std.proofs.Common.{◌<◌, length, ◌∙◌, rules}
use Rattle.krieg_game.proofs.Buckets.{trim_one}
use Rattle.krieg_game.proofs.kept_outcomes.trim_all.Goals as goal

pub loop-i-preserved : goal.loop-i-preserved
loop-i-preserved c =
    let within : c.loop-i.i < length c.loop-i.buckets.items = search rules in
    let step = trim_one c.loop-i.buckets.items c.loop-i.i c.index_mut.result.now c.trim.new.self c.loop-i.invariant.are within c.index_mut.ensures.value c.trim.ensures.trimmed in
    record { are = step.0; same = step.1 ∙ c.loop-i.invariant.same }
