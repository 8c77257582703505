use Rattle.krieg_refute.proofs.Common.{set_at}
use Rattle.krieg_refute.proofs.FromEmpty.{none_claimed, all_claims, claims_stop}
use Rattle.krieg_refute.proofs.refuting.drafts_for.Goals as goal

pub write_claims-requires-clause-claimed : goal.write_claims-requires-clause-claimed
write_claims-requires-clause-claimed c =
    let w = c.no_claims-claimed.result in
    let e = c.no_claims-claimed.ensures in
    none_claimed c.args.setting.way.d c.args.table.now w e.claims e.places e.positions e.reasons

pub returns-in-Ok-clause-within : goal.returns-in-Ok-clause-within
returns-in-Ok-clause-within c = let k = rw c.in-Ok.is at c.write_claims.ensures in k.1.within

pub returns-in-Ok-clause-claims : goal.returns-in-Ok-clause-claims
returns-in-Ok-clause-claims c = λ cs q.
    let w = c.no_claims-claimed.result in
    let e = c.no_claims-claimed.ensures in
    let k = rw c.in-Ok.is at c.write_claims.ensures in
    rw q (all_claims c.args.setting.way.d c.args.table.now w e.claims e.places c.write_claims.new.table c.write_claims.new.claimed (set_at c.args.table.now c.args.asked.set) c.args.asked.moves _ k)

pub returns-in-Err-clause-stop : goal.returns-in-Err-clause-stop
returns-in-Err-clause-stop c =
    let w = c.no_claims-claimed.result in
    let e = c.no_claims-claimed.ensures in
    let k = rw c.in-Err.is at c.write_claims.ensures in
    claims_stop c.args.setting.way.d c.args.table.now w e.claims e.places c.write_claims.new.table c.write_claims.new.claimed (set_at c.args.table.now c.args.asked.set) c.args.asked.moves c.in-Err.stop k
