-- What the look at a refutation finds, as the answer to its text.
use Rattle.std.proofs.Common.{◌≡◌, ℕ, ◌+◌, Bool, true, false, List, Ok, Err, sym, ◌∙◌, arith}
use Rattle.krieg_outcome.proofs.Common.{Refutation, PartStop, IsPaid, refutes, claims_price, of_part, Decides, refuted_text, Judged, RefutationFails}
use Rattle.krieg_parting.specs.declared.stop.PartStop.TheVariants as stop
use Rattle.krieg_refutation.specs.Exclusion.{NoneMates}
use Rattle.krieg_refutefile.specs.Refutations.{state_of}
use Rattle.krieg_refutefile.proofs.Agreeing.{refutes_same, price_same}

module _ (f : Refutation) where
  module _ (budget start left : ℕ) (same : start ≡ budget) where
    pub stop_told : {X : Type 0} (view : X → List ℕ) (e : PartStop) → IsPaid {A = Bool} (Err e) (claims_price f.dialect f.claims.items) start left → Decides view (Err (of_part e)) (Judged budget (state_of f))
    stop_told view stop.Spent paid = let is = price_same f in omega (arith, same, paid.0, is)
    stop_told view stop.NoMemory paid = tt

    module _ (yes : Bool) (answer : yes ≡ refutes f) (paid : left + claims_price f.dialect f.claims.items ≡ start) where
      pub holds_told : (text : List ℕ) → yes ≡ true → NoneMates f → text ≡ refuted_text f.moves → Judged budget (state_of f) (Ok text)
      holds_told text holds none is = let cost = price_same f in (omega (arith, same, paid, cost), refutes_same f ∙ sym answer ∙ holds, none, is)

      pub fails_told : yes ≡ false → Judged budget (state_of f) (Err RefutationFails)
      fails_told fails = let cost = price_same f in (omega (arith, same, paid, cost), refutes_same f ∙ sym answer ∙ fails)
