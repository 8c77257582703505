use Rattle.std.proofs.Common.{rules, ◌≡◌, ◌∷◌, [], ◌++◌, Ok, Err, map, arith, Vec, Global, ◌∙◌, ap}
use Rattle.krieg_refutefile.proofs.Common.{GivesOn, Claim, totals_of, claim_at, with_claim, claim_state_of}
use Rattle.krieg_text.proofs.Writings.{map_last}
use Rattle.krieg_format.proofs.Repeats.{item_ok, item_gives}
use Rattle.krieg_refutefile.proofs.Loops.{claim_positions, claim_reasons}
use Rattle.krieg_refutefile.proofs.claims.read_claims.Goals as goal

pub returns-in-Err : goal.returns-in-Err
returns-in-Err c =
    let s = totals_of c.loop-i.totals in
    let given : GivesOn {X = Claim} (λ k. claim_state_of k) (Err c.in-Err.fault) c.read_claim.new.from (claim_at c.args.d s c.loop-i.from) = c.in-Err.ensures in
    item_gives (claim_at c.args.d) with_claim {X = Claim} {Y = Vec _ Global} (λ k. claim_state_of k) (λ v. map claim_state_of v.items) (map claim_state_of c.loop-i.claims.items) c.args.n c.loop-i.i s c.loop-i.from c.read_claim.new.from c.in-Err.fault _ (omega arith) given c.loop-i.invariant.read

pub with_claim-totals-requires-clause-positions : goal.with_claim-totals-requires-clause-positions
with_claim-totals-requires-clause-positions c =
    let read : claim_at c.args.d (totals_of c.loop-i.totals) c.loop-i.from ≡ Ok (claim_state_of c.in-Ok.claim, c.read_claim.new.from) = c.in-Ok.ensures in
    claim_positions c.args.d (totals_of c.loop-i.totals) c.loop-i.from c.read_claim.new.from (claim_state_of c.in-Ok.claim) read

pub with_claim-totals-requires-clause-reasons : goal.with_claim-totals-requires-clause-reasons
with_claim-totals-requires-clause-reasons c =
    let read : claim_at c.args.d (totals_of c.loop-i.totals) c.loop-i.from ≡ Ok (claim_state_of c.in-Ok.claim, c.read_claim.new.from) = c.in-Ok.ensures in
    claim_reasons c.args.d (totals_of c.loop-i.totals) c.loop-i.from c.read_claim.new.from (claim_state_of c.in-Ok.claim) read

pub loop-i-preserved : goal.loop-i-preserved
loop-i-preserved c =
    let s = totals_of c.loop-i.totals in
    let claim = claim_state_of c.in-Ok.claim in
    let read : claim_at c.args.d s c.loop-i.from ≡ Ok (claim, c.read_claim.new.from) = search rules in
    let pushed : c.push.new.self.items ≡ c.loop-i.claims.items ++ c.in-Ok.claim ∷ [] = c.in_ok-push.ensures.items in
    let states : map claim_state_of c.push.new.self.items ≡ map claim_state_of c.loop-i.claims.items ++ claim ∷ [] = ap (map claim_state_of) pushed ∙ map_last claim_state_of c.loop-i.claims.items c.in-Ok.claim in
    let totals : totals_of c.with_claim-totals.result ≡ with_claim s claim = c.with_claim-totals.ensures in
    record {
      count = search rules;
      read = rw (states, totals) (item_ok (claim_at c.args.d) with_claim (map claim_state_of c.loop-i.claims.items) c.args.n c.loop-i.i s c.loop-i.from c.read_claim.new.from claim _ (omega arith) read c.loop-i.invariant.read);
    }
