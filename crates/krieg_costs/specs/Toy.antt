-- Claims about the small game of krieg_theory.
use Rattle.std.specs.Prelude.{ℕ, List}
use Rattle.krieg_theory.specs.Toy.{toy}
use Rattle.krieg_costs.specs.Refutation.{Reason, Claim}

-- a claim on that set with that number of moves and these reasons
abbrev pub claim : ℕ → List ℕ → List (ℕ × Reason ℕ) → Claim toy
claim j B rs = record { number = j; set = B; reasons = rs }
