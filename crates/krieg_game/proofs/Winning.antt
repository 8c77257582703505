-- What wins a position, in the words of chess.
use Rattle.std.proofs.Common.{◌≡◌, Bool, true, false, not, ◌&&◌, ◌||◌, List, [], ◌∷◌, map, refl, ap, ◌∙◌}
use Rattle.std.specs.List.{list_all}
use Rattle.std.proofs.lemmas.Bool.{cond-true, cond-false}
use Rattle.std.proofs.lemmas.List.{length-map}
use Rattle.krieg_game.proofs.Common.{Move, is_legal, after, moves, in_check, is_ended, is_mate, is_stalemate, words, Dialect, is_nil, Try, wins_at, chess, stalemates, outcome, outcomes, is_answered, told_of, NothingWinsInNone, IllegalTryGoesOn, LegalTryWins, MatesAtOnce, OutcomesAreReplies}
use Rattle.krieg_moves.specs.Moves.{is_nil as no_moves}
use Rattle.krieg_theory.proofs.Theorems.{first_edge_wins}

module _ {X Y : Type 0} (f : Y → Bool) (g : X → Y) (h : X → Bool) (agree : (x : X) → f (g x) ≡ h x) where
  pub all_of_map : (xs : List X) → list_all f (map g xs) ≡ list_all h xs
  all_of_map [] = refl
  all_of_map (x ∷ xs) = ap (λ b. b && list_all f (map g xs)) (agree x) ∙ ap (λ b. h x && b) (all_of_map xs)

module _ {Y : Type 0} (g : Move → Y) where
  pub nil_of_map : (rs : List Move) → is_nil (map g rs) ≡ no_moves rs
  nil_of_map [] = refl
  nil_of_map (r ∷ rs) = refl

  -- no stalemate, and every reply answered: mate, or the game goes on and every reply is answered
  by_end : (check : Bool) (rs : List Move) (f : Y → Bool) (h : Move → Bool) → ((r : Move) → f (g r) ≡ h r) →
      (not (not check && no_moves rs) && list_all f (map g rs)) ≡ (check && no_moves rs || (not (no_moves rs) && list_all h rs))
  by_end true [] f h e = refl
  by_end false [] f h e = refl
  by_end true (r ∷ rs) f h e = all_of_map f g h e (r ∷ rs)
  by_end false (r ∷ rs) f h e = all_of_map f g h e (r ∷ rs)

  no_reply : (check : Bool) (rs : List Move) → (not (not check && no_moves rs) && is_nil (map g rs)) ≡ (check && no_moves rs)
  no_reply true [] = refl
  no_reply false [] = refl
  no_reply true (r ∷ rs) = refl
  no_reply false (r ∷ rs) = refl

module _ (d : Dialect) where
  pub nothing_wins_in_none : NothingWinsInNone d
  nothing_wins_in_none (Try t other es) p = refl

  pub illegal_try_goes_on : IllegalTryGoesOn d
  illegal_try_goes_on t other es p k h = cond-false (is_legal p t) _ _ h

  pub legal_try_wins : LegalTryWins d
  unfolding stalemates outcomes is_stalemate is_mate is_ended
  legal_try_wins t other es p k h =
      cond-true (is_legal p t) _ _ h
      ∙ by_end (outcome d (words p t) (after p t)) (in_check (after p t)) (moves (after p t)) (λ o. wins_at (chess d) es o.0 o.1 k) (is_answered d es p t k)
      (λ r. first_edge_wins (chess d) es (told_of d p t r) (after (after p t) r) k)

  pub mates_at_once : MatesAtOnce d
  unfolding stalemates outcomes is_stalemate is_mate is_ended
  mates_at_once p t = ap (λ b. is_legal p t && b) (no_reply (outcome d (words p t) (after p t)) (in_check (after p t)) (moves (after p t)))

  pub outcomes_are_replies : OutcomesAreReplies d
  unfolding outcomes
  outcomes_are_replies p t = length-map (moves (after p t)) (outcome d (words p t) (after p t))
