use Rattle.std.proofs.Common.{rules, ◌≡◌, ◌∷◌, [], ◌++◌, Some, Ok, Err, arith, Vec, Global}
use Rattle.krieg_refutefile.proofs.Common.{Reason, GivesOn, reason_at, last_move}
use Rattle.krieg_format.proofs.Repeats.{item_gives}
use Rattle.krieg_refutefile.proofs.Loops.{reason_ok}
use Rattle.krieg_refutefile.proofs.claims.read_reasons.Goals as goal

pub returns-in-Err : goal.returns-in-Err
returns-in-Err c =
    let item = reason_at c.args.d c.args.own in
    let given : GivesOn {X = Reason} (λ r. r) (Err c.in-Err.fault) c.next_reason.new.from (reason_at c.args.d c.args.own (last_move c.loop-i.reasons.items) c.loop-i.from) = search rules in
    item_gives item (λ last r. Some r.mv) {X = Reason} {Y = Vec _ Global} (λ r. r) (λ v. v.items) c.loop-i.reasons.items c.args.n c.loop-i.i (last_move c.loop-i.reasons.items) c.loop-i.from c.next_reason.new.from c.in-Err.fault _ (omega arith) given c.loop-i.invariant.read

pub loop-i-preserved : goal.loop-i-preserved
loop-i-preserved c =
    let read : reason_at c.args.d c.args.own (last_move c.loop-i.reasons.items) c.loop-i.from ≡ Ok (c.in-Ok.reason, c.next_reason.new.from) = search rules in
    let pushed : c.push.new.self.items ≡ c.loop-i.reasons.items ++ c.in-Ok.reason ∷ [] = c.in_ok-push-in-Ok.ensures.items in
    record { read = rw pushed (reason_ok c.args.d c.args.own c.loop-i.reasons.items c.args.n c.loop-i.i c.loop-i.from c.next_reason.new.from c.in-Ok.reason _ (omega arith) read c.loop-i.invariant.read) }
