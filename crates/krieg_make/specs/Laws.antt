-- What holds of the made inputs.
use Rattle.std.specs.Prelude.{◌≡◌, ℕ, ◌<◌, true, List, [], ◌∷◌, map, length}
use Rattle.krieg_board.specs.Hand.{same_hand}
use Rattle.krieg_board.specs.Squares.{gathered}
use Rattle.krieg_board.specs.Validity.{IsValid}
use Rattle.krieg_board.specs.declared.men.Side.TheVariants.{White}
use Rattle.krieg_moves.specs.After.{after}
use Rattle.krieg_moves.specs.Legal.{is_legal}
use Rattle.krieg_moves.specs.Moves.{plain_move, is_mate}
use Rattle.krieg_words.specs.ToldWords.{silent}
use Rattle.krieg_umpire.specs.Games.{judge}
use Rattle.krieg_umpire.specs.declared.verdict.Verdict.{Verdict}
use Rattle.krieg_umpire.specs.declared.verdict.Verdict.TheVariants.{Early, Illegal, Done}
use Rattle.krieg_make.specs.Named.{g1, g8}
use Rattle.krieg_make.specs.Start.{start_position}
use Rattle.krieg_make.specs.MadePositions.{made_position}
use Rattle.krieg_make.specs.declared.position.TheConstants.{POSITION_COUNT}
use Rattle.krieg_make.specs.MadeSheets.{made_count, made_number, made_list}
use Rattle.krieg_make.specs.MadeSessions.{made_tries}

-- each made position is valid
abbrev pub AreValid : Type 0
AreValid = (i : ℕ) → i < POSITION_COUNT → IsValid (made_position i)

-- White has the same men in all of them, and is to move
abbrev pub HaveOneHand : Type 0
HaveOneHand = (i j : ℕ) → i < POSITION_COUNT → j < POSITION_COUNT → same_hand (made_position i) (made_position j) White ≡ true

-- no two of them are the same
abbrev pub AreDistinct : Type 0
AreDistinct = (i j : ℕ) → i < POSITION_COUNT → j < POSITION_COUNT → made_position i ≡ made_position j → i ≡ j

-- a sheet lists as many as its number says
abbrev pub AreCounted : Type 0
AreCounted = (s : ℕ) → length (made_list s) ≡ made_count s

-- no two places of a sheet have the same one
abbrev pub AreListedOnce : Type 0
AreListedOnce = (s j k : ℕ) → j < made_count s → k < made_count s → made_number s j ≡ made_number s k → j ≡ k

-- in each of them the rook on g1 may go to g8, and mates
abbrev pub RookMates : Type 0
RookMates = (i : ℕ) → i < POSITION_COUNT →
    let p = made_position i in
    let mv = plain_move g1 g8 in
    (is_legal p mv ≡ true) × (is_mate (after p mv) ≡ true)

-- how the tries of a round are judged: the move that is made is silent
abbrev pub round_verdicts : List Verdict
round_verdicts = Early ∷ Illegal ∷ Done silent ∷ []

-- the tries of each round are judged so
abbrev pub RoundsAreAlike : Type 0
RoundsAreAlike = (s n : ℕ) → map (λ j. j.verdict) (judge start_position (made_tries s n)) ≡ gathered (λ m. round_verdicts) n
