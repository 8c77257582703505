-- Whose turn it is, by the first member.
use Rattle.std.proofs.Common.{◌≡◌, true, ◌⊎◌, List, [], ◌∷◌, inl, inr, refl}
use Rattle.std.proofs.lemmas.Bool.{both_ways}
use Rattle.krieg_refute.proofs.Common.{is_same_side, Pos, Side, White, Black, IsOwnTurn, IsOthersTurn, side_of, IsOneSide}

same_side : (s : Side) → is_same_side s s ≡ true
same_side White = refl
same_side Black = refl

of_first : (B : List Pos) → IsOwnTurn (side_of B) B ⊎ IsOthersTurn (side_of B) B → IsOwnTurn (side_of B) B
of_first B (inl h) = h
of_first [] (inr h) = λ p i. absurd i
of_first (q ∷ B) (inr h) = absurd (both_ways _ (h q (inl refl)) (same_side q.side))

-- where one side is to move in all members it is the side of the first
pub one_side : (B : List Pos) → IsOneSide B → IsOwnTurn (side_of B) B
one_side B h = of_first B (h (side_of B))
