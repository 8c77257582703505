-- What comes before the first own turn.
use Rattle.std.proofs.Common.{◌≡◌, ℕ, Bool, true, false, not, cond, ◌||◌, List, [], ◌∷◌, map, length, inl, inr, refl, sym, ap, ◌∙◌}
use Rattle.std.specs.List.{list_any}
use Rattle.krieg_checker.proofs.Common.{Pos, moves, is_ended, Dialect, silent, is_same_side, Side, position_lt, IsAscending, set_of, In, as_set, is_nil, is_over, total, class_pair, classes_in, outset, waits, starts, IsOwnTurn, IsOthersTurn, first_cost, chess, first_outcomes, opened, IsFirstTurn, heard_of, FirstTurn}
use Rattle.krieg_pack.proofs.PositionSets.{position_order, set_of_ascending}
use Rattle.krieg_theory.proofs.Ascending.{as_set_in}
use Rattle.krieg_costs.proofs.Totals.{total_agree}
use Rattle.krieg_game.proofs.Starting.{own_start}
use Rattle.krieg_parting.proofs.Advancing.{some_over, as_many}
use Rattle.krieg_game.proofs.Classed.{openings_are_classed, first_moves_are_classed}
use Rattle.krieg_checker.proofs.Sets.{total_none}

any_same : (f g : Pos → Bool) (ps : List Pos) → ((p : Pos) → In p ps → f p ≡ g p) → list_any f ps ≡ list_any g ps
any_same f g [] h = refl
any_same f g (p ∷ ps) h = ap (λ b. b || list_any f ps) (h p (inl refl)) ∙ ap (λ b. g p || b) (any_same f g ps (λ q i. h q (inr i)))

any_none : (ps : List Pos) → list_any (λ p. false) ps ≡ false
any_none [] = refl
any_none (p ∷ ps) = any_none ps

module _ (d : Dialect) (who : Side) (S : List Pos) where
  abbrev costs : Pos → ℕ
  costs p = cond (waits who p) (length (starts d who p)) 0

  -- at the own turn nothing is over, and no move comes first
  module _ (turn : IsOwnTurn who S) where
    own_cost : (p : Pos) → is_same_side p.side who ≡ true → costs p ≡ 0
    unfolding waits
    own_cost p h = ap (λ b. cond (not b) (length (starts d who p)) 0) h

    pub free_start : first_cost (chess d) (outset d who) S ≡ 0
    free_start = total_agree costs (λ p. 0) (as_set position_lt S) (λ p i. own_cost p (turn p (as_set_in position_lt position_order p S i))) ∙ total_none (as_set position_lt S)

    pub own_started : (r : FirstTurn) → r.own ≡ true → r.over ≡ false → map class_pair r.classes.items ≡ classes_in (map (opened d silent) S) → IsFirstTurn d who S r
    own_started r own over classes = record {
      over_part = over ∙ sym (any_same (is_over (chess d) (outset d who)) (λ p. false) S (λ p i. ap is_nil (own_start d who p (turn p i))) ∙ any_none S);
      classes_part = (λ i. map (heard_of (own i)) (classes i)) ∙ openings_are_classed d who S silent turn;
    }

  -- at the opponent's turn his moves do
  module _ (turn : IsOthersTurn who S) where
    other_cost : (p : Pos) → is_same_side p.side who ≡ false → costs p ≡ length (moves p)
    unfolding waits
    other_cost p h = ap (λ b. cond (not b) (length (starts d who p)) 0) h ∙ as_many d who p h

    pub move_start : IsAscending S → first_cost (chess d) (outset d who) S ≡ total (λ p. length (moves p)) S
    unfolding set_of
    move_start up = total_agree costs (λ p. length (moves p)) (as_set position_lt S) (λ p i. other_cost p (turn p (as_set_in position_lt position_order p S i))) ∙ ap (total (λ p. length (moves p))) (set_of_ascending S up)

    pub other_started : (r : FirstTurn) → r.own ≡ false → r.over ≡ list_any is_ended S → map class_pair r.classes.items ≡ classes_in (first_outcomes d S) → IsFirstTurn d who S r
    other_started r own over classes = record {
      over_part = over ∙ sym (some_over d who S turn);
      classes_part = (λ i. map (heard_of (own i)) (classes i)) ∙ first_moves_are_classed d who S turn;
    }
