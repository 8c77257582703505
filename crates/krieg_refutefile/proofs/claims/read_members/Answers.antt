use Rattle.std.proofs.Common.{rules, ◌≡◌, ◌∷◌, [], ◌++◌, Some, Ok, Err, arith, Vec, Global}
use Rattle.krieg_refutefile.proofs.Common.{Pos, GivesOn, member_at, last_in}
use Rattle.krieg_format.proofs.Repeats.{item_gives}
use Rattle.krieg_refutefile.proofs.Loops.{set_ok}
use Rattle.krieg_refutefile.proofs.claims.read_members.Goals as goal

pub returns-in-Err : goal.returns-in-Err
returns-in-Err c =
    let given : GivesOn {X = Pos} (λ p. p) (Err c.in-Err.fault) c.next_member.new.from (member_at (last_in c.loop-i.set.items) c.loop-i.from) = search rules in
    item_gives member_at (λ last x. Some x) {X = Pos} {Y = Vec _ Global} (λ p. p) (λ v. v.items) c.loop-i.set.items c.args.n c.loop-i.i (last_in c.loop-i.set.items) c.loop-i.from c.next_member.new.from c.in-Err.fault _ (omega arith) given c.loop-i.invariant.read

pub loop-i-preserved : goal.loop-i-preserved
loop-i-preserved c =
    let read : member_at (last_in c.loop-i.set.items) c.loop-i.from ≡ Ok (c.in-Ok.member, c.next_member.new.from) = search rules in
    let pushed : c.push.new.self.items ≡ c.loop-i.set.items ++ c.in-Ok.member ∷ [] = c.in_ok-push-in-Ok.ensures.items in
    record { read = rw pushed (set_ok c.loop-i.set.items c.args.n c.loop-i.i c.loop-i.from c.next_member.new.from c.in-Ok.member _ (omega arith) read c.loop-i.invariant.read) }
