-- What a legal move tells: the game goes on where there is one, and it passes the turn.
use Rattle.std.proofs.Common.{◌≡◌, true, false, List, [], ◌∷◌, Option, Some, None, refl, arith}
use Rattle.std.specs.List.{Contains}
use Rattle.krieg_moves.proofs.Common.{other, Pos, man_at, is_of, Man, Move, is_legal, after, after_by, moves, is_nil, is_ended}
use Rattle.krieg_moves.proofs.LegalMoves.{legal_own}
use Rattle.krieg_moves.proofs.Listed.{legal_listed}

-- a legal move passes the turn to the other side
pub side_after : (p : Pos) (m : Move) → is_legal p m ≡ true → (after p m).side ≡ other p.side
unfolding after
side_after p m h = by_man (man_at p.board m.from) (legal_own p m h)
  where
    by_man : (x : Option Man) → is_of p.side x ≡ true → (after_by p x m).side ≡ other p.side
    by_man None h = absurd cc
    by_man (Some man) h = refl

-- where a move is legal the game goes on
pub legal_goes : (p : Pos) (m : Move) → is_legal p m ≡ true → is_ended p ≡ false
unfolding is_ended
legal_goes p m h = not_nil (moves p) (legal_listed p m h)
  where
    not_nil : (ms : List Move) → Contains ms m → is_nil ms ≡ false
    not_nil [] (k, l, e) = absurd (omega arith)
    not_nil (x ∷ ms) c = refl
