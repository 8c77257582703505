-- What a legal move makes of the turn, and what its words tell of the end.
use Rattle.std.proofs.Common.{◌≡◌, Bool, true, false, not, cond, refl, ap, ◌∙◌}
use Rattle.std.proofs.lemmas.Bool.{and_parts}
use Rattle.krieg_robot.proofs.Common.{other, is_same_side, Pos, Side, White, Black, Move, is_legal, after, moves, all_moves, in_check, is_ended, is_mate, is_stalemate, words, told, Mate, Stalemate, Dialect, In, is_mated}
use Rattle.krieg_moves.proofs.Turns.{side_after}
use Rattle.krieg_words.specs.declared.words.End.TheVariants.{Goes}
use Rattle.krieg_theory.proofs.Lists.{in_filter}
use Rattle.krieg_game.proofs.MoveOrder.{legal_listed}

-- ---- whose turn it is

-- a side that is not this one is the other one
pub is_other : (a b : Side) → is_same_side a b ≡ false → a ≡ other b
is_other White White h = absurd cc
is_other White Black h = refl
is_other Black White h = refl
is_other Black Black h = absurd cc

turned : (a b : Side) → is_same_side (other a) b ≡ not (is_same_side a b)
turned White White = refl
turned White Black = refl
turned Black White = refl
turned Black Black = refl

-- so it is the turn of a side exactly where it was not
pub turn_passes : (who : Side) (p : Pos) (m : Move) (own : Bool) → is_legal p m ≡ true → is_same_side p.side who ≡ own → is_same_side (after p m).side who ≡ not own
turn_passes who p m own h turn = ap (λ (s : Side). is_same_side s who) (side_after p m h) ∙ (turned p.side who ∙ ap not turn)

-- ---- whether the game goes on

-- a legal move is among the moves
pub legal_in : (p : Pos) (m : Move) → is_legal p m ≡ true → In m (moves p)
unfolding moves
legal_in p m h = in_filter (is_legal p) all_moves m (legal_listed p m h) h

-- mate ends the game
pub mate_ends : (p : Pos) → is_mate p ≡ true → is_ended p ≡ true
unfolding is_mate
mate_ends p h = (and_parts (in_check p) (is_ended p) h).1

-- the words of a move tell whether it mates, in every dialect
pub mated_words : (d : Dialect) (p : Pos) (m : Move) → is_mated (told d (words p m)).end ≡ is_mate (after p m)
unfolding words
mated_words d p m = go (is_mate (after p m)) (is_stalemate (after p m))
  where
    go : (mate stale : Bool) → is_mated (cond mate Mate (cond stale Stalemate Goes)) ≡ mate
    go true stale = refl
    go false true = refl
    go false false = refl
