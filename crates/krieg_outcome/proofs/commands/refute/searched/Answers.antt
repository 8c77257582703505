use Rattle.std.proofs.Common.{List, ℕ, Ok, Err, sym, ap, subst, ◌∙◌}
use Rattle.std.proofs.lemmas.Result.{err_from_is_err_and}
use Rattle.krieg_outcome.proofs.Common.{Side, side_of, IsDenial, IsDenied, IsTaken, Decides, Claimed}
use Rattle.krieg_refutefile.specs.Writable.{CanBeWritten}
use Rattle.krieg_outcome.proofs.Refuting.{one_side_of, side_is, stop_told, exists_told, file_is, text_told, can_be_written, claims_told}
use Rattle.krieg_outcome.proofs.commands.refute.searched.Goals as goal

pub refute-requires-clause-turn : goal.refute-requires-clause-turn
refute-requires-clause-turn c = one_side_of c.args.who c.args.set c.requires.listed.hand

pub returns-in_err-claims : goal.returns-in_err-claims
returns-in_err-claims c =
    let p = err_from_is_err_and c.from_residual.result c.from_residual.ensures.1 in
    subst (λ r. Decides (λ (answer : List ℕ). answer) r (Claimed c.args.d c.args.who c.args.set c.args.moves c.args.budget)) (sym (p.1 ∙ ap Err p.2))
    (stop_told c.args.d c.args.who c.args.set c.args.moves c.args.budget c.new-units.result c.refute.new.units c.new-units.ensures (side_is c.args.who c.args.set c.requires.listed.some c.requires.listed.turn)
    (λ (answer : List ℕ). answer) c.in_err-claims.field-0.0 c.in_err-claims.ensures.answer c.in_err-claims.ensures.units)

pub write_denial-requires : goal.write_denial-requires
write_denial-requires c =
    let cs = c.in-Denial.claims.items in
    let found = subst (λ (who : Side). IsDenial c.args.d who c.args.set c.args.moves cs) (side_is c.args.who c.args.set c.requires.listed.some c.requires.listed.turn)
    (subst (λ a. IsDenied c.args.d (side_of c.args.set) c.args.set c.args.moves (Ok a)) c.in-Denial.is c.in_ok-claims.ensures.answer) in
    subst CanBeWritten (sym (file_is c.args.d c.args.who c.args.set c.args.moves cs found))
    (can_be_written c.args.d c.args.who c.args.set c.args.moves cs found c.requires.listed c.requires.least c.requires.most)

pub returns-in-Exists : goal.returns-in-Exists
returns-in-Exists c =
    exists_told c.args.d c.args.who c.args.set c.args.moves c.args.budget c.new-units.result c.refute.new.units c.new-units.ensures (side_is c.args.who c.args.set c.requires.listed.some c.requires.listed.turn)
    (subst (λ a. IsDenied c.args.d (side_of c.args.set) c.args.set c.args.moves (Ok a)) c.in-Exists.is c.in_ok-claims.ensures.answer) c.in_ok-claims.ensures.units

pub returns-in_ok-write_denial-in-Denial : goal.returns-in_ok-write_denial-in-Denial
returns-in_ok-write_denial-in-Denial c =
    let cs = c.in-Denial.claims in
    let found = subst (λ (who : Side). IsDenial c.args.d who c.args.set c.args.moves cs.items) (side_is c.args.who c.args.set c.requires.listed.some c.requires.listed.turn)
    (subst (λ a. IsDenied c.args.d (side_of c.args.set) c.args.set c.args.moves (Ok a)) c.in-Denial.is c.in_ok-claims.ensures.answer) in
    let taken = subst (λ a. IsTaken c.args.d (side_of c.args.set) c.args.set c.args.moves (Ok a) c.new-units.result c.refute.new.units) c.in-Denial.is c.in_ok-claims.ensures.units in
    claims_told c.args.d c.args.who c.args.set c.args.moves c.args.budget c.new-units.result c.refute.new.units c.new-units.ensures (side_is c.args.who c.args.set c.requires.listed.some c.requires.listed.turn) cs
    c.in_ok-write_denial-in-Denial.field-0 taken
    (text_told c.args.d c.args.who c.args.set c.args.moves cs.items found c.in_ok-write_denial-in-Denial.field-0 c.requires.listed.turn c.in_ok-write_denial-in-Denial.ensures.value c.in_ok-write_denial-in-Denial.ensures.again
    c.in_ok-write_denial-in-Denial.ensures.short)
