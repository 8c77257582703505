-- The first moves in a set, and what they are at the opponent's turn.
use Rattle.std.proofs.Common.{◌≡◌, suc, ◌+◌, Bool, false, cond, not, List, [], ◌∷◌, map, length, refl, sym, ap, ◌∙◌, arith}
use Rattle.std.proofs.lemmas.Simd.{map-map}
use Rattle.krieg_split.proofs.Common.{is_same_side, Pos, Side, moves, Dialect, first_made, total, chess, outset, waits, starts, class_pair, classes_in, first_outcomes, both_heard, Class, AreFirstMoves, FirstMoves, IsOthersTurn, first_cost, first_pair, AreFirsts, AreOpeningSets, Firsts}
use Rattle.krieg_costs.proofs.Totals.{total_agree}
use Rattle.krieg_game.proofs.Classed.{first_moves_are_classed}
use Rattle.krieg_parting.proofs.Advancing.{some_over, as_many}

-- the members, and their moves
pub by_members : (B : List Pos) → first_cost B ≡ length B + total (λ p. length (moves p)) B
by_members [] = refl
by_members (p ∷ B) = omega (arith, by_members B)

pub firsts : (d : Dialect) (B : List Pos) (found : FirstMoves) (classes : List Class) (r : Firsts) → r.ended ≡ found.ended → AreFirstMoves d B found → map first_pair r.classes.items ≡ map class_pair classes →
    map class_pair classes ≡ classes_in (first_outcomes d B) → AreFirsts d B r
firsts d B found classes r same f named classed = record {
  ended_part = same ∙ f.ended_part;
  classes_part = named ∙ classed;
}

module _ (d : Dialect) (who : Side) where
  start_cost : (p : Pos) → is_same_side p.side who ≡ false → cond (waits who p) (suc (length (starts d who p))) 0 ≡ suc (length (moves p))
  unfolding waits
  start_cost p h =
      ap (λ (b : Bool). cond (not b) (suc (length (starts d who p))) 0) h
      ∙ ap (λ n. suc n) (as_many d who p h)

  pub cost_is : (B : List Pos) → IsOthersTurn who B → first_made (chess d) (outset d who) B ≡ first_cost B
  cost_is B h = total_agree (λ p. cond (waits who p) (suc (length (starts d who p))) 0) (λ p. suc (length (moves p))) B (λ p i. start_cost p (h p i))

  pub opening_sets_are : (B : List Pos) (r : Firsts) → IsOthersTurn who B → AreFirsts d B r → AreOpeningSets d who B r
  opening_sets_are B r h f = record {
    over_part = f.ended_part ∙ sym (some_over d who B h);
    sets_part = sym (map-map both_heard first_pair r.classes.items) ∙ ap (map both_heard) f.classes_part ∙ first_moves_are_classed d who B h;
  }
