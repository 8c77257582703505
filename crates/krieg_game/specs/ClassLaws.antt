-- What the classes of outcomes are for the theory: statements that functions of this crate have as contracts.
use Rattle.std.specs.Prelude.{◌≡◌, true, false, List, ◌++◌, map, flat_map, Some, None}
use Rattle.krieg_board.specs.Men.{is_same_side}
use Rattle.krieg_board.specs.Pos.{Pos}
use Rattle.krieg_board.specs.declared.men.Side.{Side}
use Rattle.krieg_board.specs.declared.men.Move.{Move}
use Rattle.krieg_moves.specs.Moves.{moves}
use Rattle.krieg_words.specs.Words.{Said}
use Rattle.krieg_words.specs.WordsOfMoves.{opening}
use Rattle.krieg_words.specs.ToldWords.{told}
use Rattle.krieg_words.specs.declared.dialects.Dialect.{Dialect}
use Rattle.krieg_theory.specs.Sets.{In}
use Rattle.krieg_theory.specs.Split.{all_outcomes, keys, class}
use Rattle.krieg_theory.specs.Plans.{openings, opening_set}
use Rattle.krieg_game.specs.Keys.{Key, RootKey}
use Rattle.krieg_game.specs.Chess.{chess, outcome}
use Rattle.krieg_game.specs.Outset.{outset}
use Rattle.krieg_game.specs.Outcomes.{KeyedPosition}
use Rattle.krieg_game.specs.Classes.{classes_in, outcome_set}

-- what comes of the opponent's first moves: in place of an own move the opening is told
abbrev pub first_outcomes : Dialect → List Pos → List KeyedPosition
first_outcomes d S = flat_map (λ p. map (outcome d (opening p) p) (moves p)) S

-- a listed position, with its opening words and, in place of a reply's, others that are the same for all
abbrev pub opened : Dialect → Said → Pos → KeyedPosition
opened d same p = ((told d (opening p), same), p)

-- a class as an opening set: both words were heard, or the first alone
abbrev pub both_heard : Key × List Pos → RootKey × List Pos
both_heard c = ((c.0.0, Some c.0.1), c.1)

-- a class of a try that is heard as opening words: the words behind it are none
abbrev pub first_heard : Key × List Pos → RootKey × List Pos
first_heard c = ((c.0.0, None), c.1)

-- repeats and order do not matter for classes
abbrev pub SetsHaveTheClasses : Type 0
SetsHaveTheClasses = (os : List KeyedPosition) → classes_in (outcome_set os) ≡ classes_in os

-- repeats may be dropped of what came before more comes
abbrev pub SetsMayGrow : Type 0
SetsMayGrow = (os ps : List KeyedPosition) → outcome_set (outcome_set os ++ ps) ≡ outcome_set (os ++ ps)

module _ (d : Dialect) where
  -- the outcomes of a try in a set have the classes of the theory
  abbrev pub OutcomesAreClassed : Type 0
  OutcomesAreClassed = (B : List Pos) (t : Move) → classes_in (all_outcomes (chess d) B t) ≡ map (λ key. (key, class (chess d) B t key)) (keys (chess d) B t)

  module _ (who : Side) where
    -- each opening that occurs, with its set
    abbrev pub opening_sets : List Pos → List (RootKey × List Pos)
    opening_sets S = map (λ key. (key, opening_set (chess d) (outset d who) S key)) (openings (chess d) (outset d who) S)

    -- at the opponent's turn these are the classes of his first moves
    abbrev pub FirstMovesAreClassed : Type 0
    FirstMovesAreClassed = (S : List Pos) → ((p : Pos) → In p S → is_same_side p.side who ≡ false) → map both_heard (classes_in (first_outcomes d S)) ≡ opening_sets S

    -- at the player's turn they are the classes of the listed positions
    abbrev pub OpeningsAreClassed : Type 0
    OpeningsAreClassed = (S : List Pos) (same : Said) → ((p : Pos) → In p S → is_same_side p.side who ≡ true) → map first_heard (classes_in (map (opened d same) S)) ≡ opening_sets S
