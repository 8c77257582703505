use Rattle.std.proofs.Common.{false, ◌≡◌, ℕ, Err, subst, ◌∙◌, arith}
use Rattle.std.proofs.lemmas.Bool.{both_ways}
use Rattle.krieg_refute.proofs.Common.{IsAccount, IsDecision, side_of}
use Rattle.krieg_search.proofs.OpenedSets.{none_over}
use Rattle.krieg_search.proofs.Accounting.{taken_between}
use Rattle.krieg_refute.proofs.FirstLost.{first_some, first_within, first_members, first_stored, is_denial, StopsAt, claims_stop, search_stop, stopped, is_mated}
use Rattle.krieg_refute.proofs.Sides.{one_side}
use Rattle.krieg_refute.proofs.refuting.refute.Goals as goal

pub decide-requires : goal.decide-requires
decide-requires c = record { turn = c.requires.turn c.side_of-who.result }

pub unreachable-requires : goal.unreachable-requires
unreachable-requires c =
    let k = rw (c.in-Over.is, c.side_of-who.ensures) at c.in_ok-decide.ensures.decided in
    both_ways _ (none_over c.args.d _ c.args.b.now (one_side c.args.b.now c.requires.turn)) k.0

pub lost_opening-set-requires-clause-numbered : goal.lost_opening-set-requires-clause-numbered
lost_opening-set-requires-clause-numbered c =
    let k = rw (c.in-Lost.is, c.side_of-who.ensures) at c.in_ok-decide.ensures.decided in
    k.0.found.numbered

pub lost_opening-set-requires-clause-some : goal.lost_opening-set-requires-clause-some
lost_opening-set-requires-clause-some c =
    let k = rw (c.in-Lost.is, c.side_of-who.ensures) at c.in_ok-decide.ensures.decided in
    first_some c.args.d _ c.args.b.now c.args.moves c.in-Lost.found c.new-left.result k.0 c.requires.some

pub claims_for-requires : goal.claims_for-requires
claims_for-requires c =
    let k = rw (c.in-Lost.is, c.side_of-who.ensures) at c.in_ok-decide.ensures.decided in
    let a = c.left.type_inv in
    let e = c.new-left.ensures in
    let h = c.lost_opening-set.ensures in
    let n = c.args.moves in
    let w = c.in-Lost.found in
    record {
      some = c.requires.some;
      within = first_within c.args.d _ c.args.b.now n w c.new-left.result k.0 c.requires.some c.lost_opening-set.result h;
      members = first_members c.args.d _ c.args.b.now n w c.new-left.result k.0 c.requires.some c.lost_opening-set.result h;
      paid = record { ready = k.0.found.ready; paid = λ h. (let p = k.0.found.paid h in omega arith); wins = λ q m s. (let p = k.0.found.wins q m s in omega arith) };
      noted = k.0.found.noted;
      lost = first_stored c.args.d _ c.args.b.now n w c.new-left.result k.0 c.requires.some c.lost_opening-set.result h;
    }

pub returns-in_err-decide : goal.returns-in_err-decide
returns-in_err-decide c =
    let had : c.new-left.result ≡ c.args.units.now = c.new-left.ensures ∙ c.left.ensures in
    let stop = c.in_err-decide.field-0.0 in
    let v = subst (λ who. IsDecision c.args.d who c.args.b.now c.args.moves false (Err stop) c.new-left.result c.decide.new.units) c.side_of-who.ensures c.in_err-decide.ensures.decided in
    let both = stopped c.args.d (side_of c.args.b.now) c.args.b.now c.args.moves _ c.from_residual.result stop c.args.units.now (λ x h. cc) c.from_residual.ensures.1
    (subst (λ (u : ℕ). StopsAt c.args.d (side_of c.args.b.now) c.args.b.now c.args.moves stop u) had (search_stop c.args.d (side_of c.args.b.now) c.args.b.now c.args.moves stop c.new-left.result c.decide.new.units v)) in
    record { answer = both.0; units = both.1 }

pub returns-in_err-claims-in-Lost : goal.returns-in_err-claims-in-Lost
returns-in_err-claims-in-Lost c =
    let k = rw (c.in-Lost.is, c.side_of-who.ensures) at c.in_ok-decide.ensures.decided in
    let h = c.lost_opening-set.ensures in
    let stop = c.in_err-claims-in-Lost.field-0.0 in
    let both = stopped c.args.d _ c.args.b.now c.args.moves _ c.from_residual-in_err-claims-in-Lost.result stop c.args.units.now (λ x h. cc) c.from_residual-in_err-claims-in-Lost.ensures.1
    (claims_stop c.args.d _ c.args.b.now c.args.moves c.in-Lost.found c.new-left.result k.0 c.requires.some c.lost_opening-set.result h stop c.args.units.now c.in_err-claims-in-Lost.ensures) in
    record { answer = both.0; units = both.1 }

pub returns-in_ok-claims-in-Lost-clause-answer : goal.returns-in_ok-claims-in-Lost-clause-answer
returns-in_ok-claims-in-Lost-clause-answer c =
    let k = rw (c.in-Lost.is, c.side_of-who.ensures) at c.in_ok-decide.ensures.decided in
    let h = c.lost_opening-set.ensures in
    is_denial c.args.d _ c.args.b.now c.args.moves c.in-Lost.found c.new-left.result k.0 c.requires.some c.lost_opening-set.result h c.in_ok-claims-in-Lost.claims.items c.in_ok-claims-in-Lost.ensures.0
    c.in_ok-claims-in-Lost.ensures.1

pub returns-in_ok-claims-in-Lost-clause-units : goal.returns-in_ok-claims-in-Lost-clause-units
returns-in_ok-claims-in-Lost-clause-units c =
    let k = rw (c.in-Lost.is, c.side_of-who.ensures) at c.in_ok-decide.ensures.decided in
    let had : c.new-left.result ≡ c.args.units.now = c.new-left.ensures ∙ c.left.ensures in
    (subst (λ (m : ℕ). IsAccount c.args.d (side_of c.args.b.now) c.args.b.now c.args.moves false m c.decide.new.units) had k.1, taken_between c.args.d _ c.args.b.now c.args.moves c.new-left.result c.args.units.now c.decide.new.units had k.1)

pub returns-in-Won-clause-answer : goal.returns-in-Won-clause-answer
returns-in-Won-clause-answer c =
    let k = rw (c.in-Won.is, c.side_of-who.ensures) at c.in_ok-decide.ensures.decided in
    is_mated c.args.d _ c.args.b.now c.args.moves k.0.can

pub returns-in-Won-clause-units : goal.returns-in-Won-clause-units
returns-in-Won-clause-units c =
    let k = rw (c.in-Won.is, c.side_of-who.ensures) at c.in_ok-decide.ensures.decided in
    let had : c.new-left.result ≡ c.args.units.now = c.new-left.ensures ∙ c.left.ensures in
    (subst (λ (m : ℕ). IsAccount c.args.d (side_of c.args.b.now) c.args.b.now c.args.moves false m c.decide.new.units) had k.1, taken_between c.args.d _ c.args.b.now c.args.moves c.new-left.result c.args.units.now c.decide.new.units had k.1)
