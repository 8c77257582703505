-- What a check finds, as the answer to a plan file.
use Rattle.std.proofs.Common.{◌≡◌, ℕ, ◌+◌, List, [], ◌∷◌, Ok, inl, inr, true, sym, ap, ◌∙◌, arith}
use Rattle.krieg_outcome.proofs.Common.{same_hand, Pos, Side, In, PlanFile, AreAlike, IsOneTurn, IsVerdict, worst_text}
use Rattle.krieg_moves.proofs.Hands.{same_hand_alike}
use Rattle.krieg_planfile.specs.PlanFiles.{state_of}
use Rattle.krieg_checker.specs.Verdict.{check_cost as cost_of}
use Rattle.krieg_checker.specs.declared.plan_check.PlanVerdict.{PlanVerdict as Found}
use Rattle.krieg_checker.specs.declared.plan_check.PlanVerdict.TheVariants.{Mates}
use Rattle.krieg_outcome.specs.Check.{Checked}
use Rattle.krieg_outcome.proofs.BestFiles.{each_of}

-- the same side is to move in each position of one hand

turn_of : (who : Side) (first q : Pos) (ps : List Pos) → AreAlike who (first ∷ ps) → In q (first ∷ ps) → first.side ≡ q.side
turn_of who first q ps alike (inl same) = ap (λ (p : Pos). p.side) same
turn_of who first q ps alike (inr at) = (same_hand_alike who first q (each_of (λ p. same_hand first p who ≡ true) ps alike q at)).turn

pub one_turn : (who : Side) (S : List Pos) → AreAlike who S → IsOneTurn S
one_turn who [] alike = record { same_side = λ p q at other. absurd at }
one_turn who (first ∷ ps) alike = record { same_side = λ p q at other. sym (turn_of who first p ps alike at) ∙ turn_of who first q ps alike other }

-- what a check finds of a plan that mates within its claim
pub mates_in : (f : PlanFile) (budget start left w : ℕ) (r : Found) (answer : List ℕ) → start ≡ budget → IsVerdict f r × (left + cost_of f ≡ start) → r ≡ Mates w → answer ≡ worst_text w → Checked budget (state_of f) (Ok answer)
mates_in f budget start left w r answer all found is text =
    let worst = (found.0.mates_in w).0 is in
    let paid = found.1 in
    (omega arith, w, worst.0, worst.1, text)
