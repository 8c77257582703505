-- The words of a move say whether the game has ended after it.
use Rattle.std.proofs.Common.{◌≡◌, Bool, true, false, not, ◌&&◌, cond, refl, ap, ◌∙◌}
use Rattle.krieg_board.specs.Pos.{Pos}
use Rattle.krieg_board.specs.declared.men.Move.{Move}
use Rattle.krieg_moves.specs.After.{after}
use Rattle.krieg_moves.specs.Moves.{in_check, is_ended, is_mate, is_stalemate}
use Rattle.krieg_words.specs.Words.{Said}
use Rattle.krieg_words.specs.WordsOfMoves.{words}
use Rattle.krieg_wordtext.specs.WordsText.{has_ended}
use Rattle.krieg_words.specs.declared.words.End.TheVariants.{Goes, Mate, Stalemate}

-- by whether the side to move is in check, and whether it has no move
pub ended_so : (check ended : Bool) → has_ended (cond (check && ended) Mate (cond (not check && ended) Stalemate Goes)) ≡ ended
ended_so true true = refl
ended_so true false = refl
ended_so false true = refl
ended_so false false = refl

pub ended_by_words : (p : Pos) (m : Move) (w : Said) → w ≡ words p m → has_ended w.end ≡ is_ended (after p m)
unfolding words is_mate is_stalemate
ended_by_words p m w is = ap (λ (x : Said). has_ended x.end) is ∙ ended_so (in_check (after p m)) (is_ended (after p m))

pub ruleset ends = (ended_by_words)
