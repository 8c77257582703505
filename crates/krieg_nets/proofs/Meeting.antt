-- How the opponent's turn ends behind a move that does not mate in time.
use Rattle.std.proofs.Common.{◌≡◌, ℕ, suc, Bool, true, false, not, ◌&&◌, ◌||◌, List, [], ◌∷◌, refl, ap, ◌∙◌}
use Rattle.std.specs.List.{list_all, list_any}
use Rattle.std.proofs.Math.Bool.{and-false}
use Rattle.std.proofs.lemmas.Bool.{both_ways}
use Rattle.std.proofs.lemmas.List.Folds.{list_any_none}
use Rattle.krieg_board.specs.Pos.{Pos}
use Rattle.krieg_board.specs.declared.men.Move.{Move}
use Rattle.krieg_moves.specs.After.{after}
use Rattle.krieg_moves.specs.Legal.{is_legal}
use Rattle.krieg_moves.specs.Moves.{is_stalemate, moves}
use Rattle.krieg_moves.proofs.MoveLists.{moves_legal}
use Rattle.krieg_nets.specs.Seen.{is_met, leaves_none, mates_within}

none_left : (less : Pos → Bool) (q : Pos) (rs : List Move) → list_any (λ r. not (less (after q r))) rs ≡ true → list_all (λ r. less (after q r)) rs ≡ false
none_left less q [] e = absurd (both_ways _ refl e)
none_left less q (r ∷ rs) e = elim (less (after q r)) as (λ b. (not b || list_any (λ x. not (less (after q x))) rs) ≡ true → (b && list_all (λ x. less (after q x)) rs) ≡ false) [ true ↦ none_left less q rs | false ↦ λ h. refl ] e

-- a move that leaves no mate will not do
pub fled_not_met : (j : ℕ) (q : Pos) → leaves_none j q ≡ true → is_met (mates_within j) q ≡ false
fled_not_met j q e = ap (λ b. not (is_stalemate q) && b) (none_left (mates_within j) q (moves q) e) ∙ and-false (not (is_stalemate q))

-- nor will one that leaves a stalemate
pub stale_not_met : (j : ℕ) (q : Pos) → is_stalemate q ≡ true → is_met (mates_within j) q ≡ false
stale_not_met j q e = ap (λ b. not b && list_all (λ r. mates_within j (after q r)) (moves q)) e

-- no move mates
pub none_mates : (j : ℕ) (p : Pos) → ((t : Move) → is_legal p t ≡ true → is_met (mates_within j) (after p t) ≡ false) → mates_within (suc j) p ≡ false
none_mates j p fails = list_any_none (λ t. is_met (mates_within j) (after p t)) (moves p) (λ k d l. fails _ (moves_legal p k d l))
