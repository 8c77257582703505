use Rattle.std.proofs.Common.{rules, ◌≡◌, ◌+◌, ◌-◌, ◌++◌, ◌∷◌, [], ◌<◌, ◌≤◌, ℕ, length, arith}
use Rattle.krieg_belief.proofs.Kept.{grounded_at, traced_more, traced_start, traced_moves}
use Rattle.krieg_belief.proofs.games.trace.Goals as goal

pub loop-preserved : goal.loop-preserved
loop-preserved c =
    let n : ℕ = length c.args.starts.now in
    let place : ℕ = c.loop.at - c.len-in-loop.result in
    let lies : n ≤ c.loop.at = search rules in
    let size : c.len-in-loop.result ≡ n = c.len-in-loop.ensures.value in
    let low : c.loop.at + c.loop.counter ≤ c.args.number = c.loop.invariant.low in
    let bound : c.args.number < n + length c.args.links.now = c.requires.number in
    let in_links : place < length c.args.links.now = omega (arith, lies, size, low, bound) in
    let there : c.loop.at ≡ n + place = omega (arith, lies, size) in
    let below = grounded_at n c.args.links.now place c.index-links-at.result c.requires.grounded in_links c.index-links-at.is in
    let pushed : c.push.new.self.items ≡ c.loop.replies.items ++ c.index-links-at.result.reply ∷ [] = c.in_ok-push.ensures.items in
    record {
      low = omega (arith, lies, size, low, below);
      traced = traced_more c.args.starts.now c.args.links.now c.args.number c.loop.at place c.index-links-at.result c.loop.replies.items c.push.new.self.items c.requires.grounded in_links c.index-links-at.is there pushed c.loop.invariant.traced;
    }

pub returns-clause-start : goal.returns-clause-start
returns-clause-start c = traced_start c.args.starts.now c.args.links.now c.args.number c.loop.at c.loop.replies.items c.get.result c.get.ensures.value c.loop.invariant.traced

pub returns-clause-replies : goal.returns-clause-replies
returns-clause-replies c = traced_moves c.args.starts.now c.args.links.now c.args.number c.loop.at c.loop.replies.items c.get.result c.get.ensures.value c.loop.invariant.traced
