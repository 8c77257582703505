-- Mate by a player who sees the position is that of the theory.
use Rattle.std.proofs.Common.{◌≡◌, ℕ, zero, suc, Bool, true, false, not, ◌&&◌, ◌||◌, List, [], ◌∷◌, map, filter, cond, refl, sym, ap, ◌∙◌}
use Rattle.std.specs.List.{list_all, list_any}
use Rattle.krieg_sight.proofs.Common.{Pos, Move, is_legal, after, moves, all_moves, is_stalemate, words, Dialect, mates_with, sees, escapes, escapes_in_some, Key, chess, stalemates, outcome, outcomes, is_met, mates_within, flees, SeesIsMates, EscapesIsFlees}
use Rattle.krieg_game.proofs.Winning.{all_of_map}

any_filter : {X : Type 0} (f g : X → Bool) (xs : List X) → list_any f (filter g xs) ≡ list_any (λ x. g x && f x) xs
any_filter f g [] = refl
any_filter f g (x ∷ xs) = let ih = any_filter f g xs in elim (g x) as (λ b. list_any f (cond b (x ∷ filter g xs) (filter g xs)) ≡ (b && f x || list_any (λ y. g y && f y) xs)) [ true ↦ ap (λ b. f x || b) ih | false ↦ ih ]

any_map : {X Y : Type 0} (f : Y → Bool) (g : X → Y) (xs : List X) → list_any f (map g xs) ≡ list_any (λ x. f (g x)) xs
any_map f g [] = refl
any_map f g (x ∷ xs) = ap (λ b. f (g x) || b) (any_map f g xs)

any_same : {X : Type 0} (f g : X → Bool) (xs : List X) → ((x : X) → f x ≡ g x) → list_any f xs ≡ list_any g xs
any_same f g xs h = λ i. list_any (λ x. h x i) xs

moves_are : (p : Pos) → moves p ≡ filter (is_legal p) all_moves
unfolding moves
moves_are p = refl

stalemates_are : (p : Pos) (t : Move) → stalemates p t ≡ is_stalemate (after p t)
unfolding stalemates
stalemates_are p t = refl

outcomes_are : (d : Dialect) (p : Pos) (t : Move) → outcomes d p t ≡ map (outcome d (words p t) (after p t)) (moves (after p t))
unfolding outcomes
outcomes_are d p t = refl

module _ (d : Dialect) where
  module _ (j : ℕ) (p : Pos) (ih : (q : Pos) → sees (chess d) j q ≡ mates_within j q) where
    replies : (t : Move) → list_all (λ (o : Key × Pos). sees (chess d) j o.1) (outcomes d p t) ≡ list_all (λ r. mates_within j (after (after p t) r)) (moves (after p t))
    replies t =
        ap (list_all (λ (o : Key × Pos). sees (chess d) j o.1)) (outcomes_are d p t)
        ∙ all_of_map (λ (o : Key × Pos). sees (chess d) j o.1) (outcome d (words p t) (after p t)) (λ r. mates_within j (after (after p t) r)) (λ r. ih (after (after p t) r)) (moves (after p t))

    one : (t : Move) → (not (stalemates p t) && list_all (λ (o : Key × Pos). sees (chess d) j o.1) (outcomes d p t)) ≡ is_met (mates_within j) (after p t)
    one t = ap (λ b. not b && list_all (λ (o : Key × Pos). sees (chess d) j o.1) (outcomes d p t)) (stalemates_are p t) ∙ ap (λ b. not (is_stalemate (after p t)) && b) (replies t)

    step : sees (chess d) (suc j) p ≡ mates_within (suc j) p
    step =
        any_same (mates_with (chess d) (sees (chess d) j) p) (λ t. is_legal p t && is_met (mates_within j) (after p t)) all_moves (λ t. ap (λ b. is_legal p t && b) (one t))
        ∙ sym (any_filter (λ t. is_met (mates_within j) (after p t)) (is_legal p) all_moves)
        ∙ ap (list_any (λ t. is_met (mates_within j) (after p t))) (sym (moves_are p))

  pub sees_is : (j : ℕ) (p : Pos) → sees (chess d) j p ≡ mates_within j p
  sees_is zero p = refl
  sees_is (suc j) p = step j p (sees_is j)

  escape_is : (j : ℕ) (t : Move) (p : Pos) → escapes (chess d) j t p ≡ flees j t p
  escape_is j t p = elim (is_legal p t) as (λ b. list_any (λ (o : Key × Pos). not (sees (chess d) j o.1)) (cond b (outcomes d p t) []) ≡ (b && list_any (λ r. not (mates_within j (after (after p t) r))) (moves (after p t)))) [ true ↦ there | false ↦ refl ]
    where
      there : list_any (λ (o : Key × Pos). not (sees (chess d) j o.1)) (outcomes d p t) ≡ list_any (λ r. not (mates_within j (after (after p t) r))) (moves (after p t))
      there =
          ap (list_any (λ (o : Key × Pos). not (sees (chess d) j o.1))) (outcomes_are d p t)
          ∙ any_map (λ (o : Key × Pos). not (sees (chess d) j o.1)) (outcome d (words p t) (after p t)) (moves (after p t))
          ∙ any_same (λ r. not (sees (chess d) j (after (after p t) r))) (λ r. not (mates_within j (after (after p t) r))) (moves (after p t)) (λ r. ap not (sees_is j (after (after p t) r)))

  escapes_are : (j : ℕ) (B : List Pos) (t : Move) → escapes_in_some (chess d) j B t ≡ list_any (flees j t) B
  escapes_are j B t = any_same (escapes (chess d) j t) (flees j t) B (λ p. escape_is j t p)

pub sees_is_mates : SeesIsMates
sees_is_mates d j p = sees_is d j p

pub escapes_is_flees : EscapesIsFlees
escapes_is_flees d j B t = escapes_are d j B t
