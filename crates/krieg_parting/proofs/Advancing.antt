-- The first moves in one member more, and what they are at the opponent's turn.
use Rattle.std.proofs.Common.{◌≡◌, Bool, false, not, ◌&&◌, ◌||◌, List, [], ◌∷◌, ◌++◌, map, length, inl, inr, refl, ap, ◌∙◌, sym}
use Rattle.std.proofs.Math.Bool.{or_assoc, or-false}
use Rattle.std.specs.List.{list_any}
use Rattle.std.proofs.lemmas.List.{length-map}
use Rattle.krieg_parting.proofs.Common.{is_same_side, Pos, Side, moves, is_ended, opening, Dialect, is_over, chess, outcome, outset, waits, starts, first_move, outcome_set, first_outcomes, IsOthersTurn, Holds, IsAdvanced, AreFirstMoves, FirstMoves}
use Rattle.krieg_game.proofs.Starting.{first_moves, over_is_ended}
use Rattle.krieg_game.proofs.Pools.{holds_grown, holds_all}

-- what was found, and what the rest adds, is all
pub record IsLeft (d : Dialect) (found : FirstMoves) (rest B : List Pos) : Type 0 where
  pub ended_part : (found.ended || list_any is_ended rest) ≡ list_any is_ended B
  pub pool_part : Holds (found.pool ++ first_outcomes d rest) (first_outcomes d B)

pub left_all : (d : Dialect) (found : FirstMoves) (B : List Pos) → found.ended ≡ false → found.pool ≡ [] → IsLeft d found B B
left_all d found B e o = record {
  ended_part = ap (λ (b : Bool). b || list_any is_ended B) e;
  pool_part = ap (λ xs. outcome_set (xs ++ first_outcomes d B)) o;
}

pub left_more : (d : Dialect) (old new : FirstMoves) (p : Pos) (rest B : List Pos) → IsAdvanced d old new p → IsLeft d old (p ∷ rest) B → IsLeft d new rest B
left_more d old new p rest B a l = record {
  ended_part = ap (λ (b : Bool). b || list_any is_ended rest) a.ended_part ∙ or_assoc old.ended (is_ended p) (list_any is_ended rest) ∙ l.ended_part;
  pool_part = holds_grown new.pool old.pool (map (outcome d (opening p) p) (moves p)) (first_outcomes d rest) (first_outcomes d B) a.pool_part l.pool_part;
}

pub left_none : (d : Dialect) (found : FirstMoves) (rest B : List Pos) → rest ≡ [] → IsLeft d found rest B → AreFirstMoves d B found
left_none d found [] B is l = record {
  ended_part = sym (or-false found.ended) ∙ l.ended_part;
  pool_part = holds_all found.pool (first_outcomes d B) l.pool_part;
}
left_none d found (p ∷ rest) B is l = absurd cc

module _ (d : Dialect) (who : Side) where
  over_is : (p : Pos) → is_same_side p.side who ≡ false → is_over (chess d) (outset d who) p ≡ is_ended p
  unfolding waits
  over_is p h = over_is_ended d who p ∙ ap (λ (b : Bool). not b && is_ended p) h

  pub some_over : (B : List Pos) → IsOthersTurn who B → list_any (is_over (chess d) (outset d who)) B ≡ list_any is_ended B
  some_over [] h = refl
  some_over (p ∷ B) h = let here = over_is p (h p (inl refl)) in let rest = some_over B (λ q i. h q (inr i)) in λ i. here i || rest i

  -- each of his moves is a start
  pub as_many : (p : Pos) → is_same_side p.side who ≡ false → length (starts d who p) ≡ length (moves p)
  as_many p h = ap (λ xs. length xs) (first_moves d who p h) ∙ length-map (moves p) (first_move d p)
