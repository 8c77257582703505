-- What a plan is, in the words of chess, from either side's turn: statements that functions of this crate have as contracts.
use Rattle.std.specs.Prelude.{◌≡◌, ◌↔◌, ℕ, Bool, true, false, not, ◌&&◌, List, Option, Some, None, if◌then◌else◌}
use Rattle.std.specs.List.{list_all}
use Rattle.krieg_board.specs.Men.{is_same_side}
use Rattle.krieg_board.specs.Pos.{Pos}
use Rattle.krieg_board.specs.declared.men.Side.{Side}
use Rattle.krieg_board.specs.declared.men.Move.{Move}
use Rattle.krieg_moves.specs.After.{after}
use Rattle.krieg_moves.specs.Moves.{moves, is_ended}
use Rattle.krieg_words.specs.Words.{Said}
use Rattle.krieg_words.specs.WordsOfMoves.{words, opening}
use Rattle.krieg_words.specs.ToldWords.{told}
use Rattle.krieg_words.specs.declared.dialects.Dialect.{Dialect}
use Rattle.krieg_pack.specs.Members.{IsAscending}
use Rattle.krieg_theory.specs.Sets.{In, is_nil}
use Rattle.krieg_theory.specs.Plans.{Plan, wins_root, mates, is_over, openings, opening_set}
use Rattle.krieg_game.specs.Keys.{RootKey}
use Rattle.krieg_game.specs.Chess.{chess}
use Rattle.krieg_game.specs.Outset.{outset, waits}

module _ (d : Dialect) (who : Side) where
  -- The plan mates from one position. At the player's turn the root for the opening words wins it. At the
  -- opponent's turn there is a move, and after each the root for the opening words and those of the move wins.
  abbrev pub mates_from : Plan (chess d) (outset d who) → ℕ → Pos → Bool
  mates_from plan k p =
      if is_same_side p.side who then wins_root (chess d) (outset d who) plan (told d (opening p), None) p k
      else (not (is_ended p) && list_all (λ r. wins_root (chess d) (outset d who) plan (told d (opening p), Some (told d (words p r))) (after p r) k) (moves p))

  -- the plan mates from each listed position
  abbrev pub MatesFromEach : Type 0
  MatesFromEach = (plan : Plan (chess d) (outset d who)) (S : List Pos) (k : ℕ) → mates (chess d) (outset d who) plan S k ≡ list_all (mates_from plan k) S

  -- a position is over where the opponent is to move and has no move: at the player's turn none is
  abbrev pub OverIsEnded : Type 0
  OverIsEnded = (p : Pos) → is_over (chess d) (outset d who) p ≡ (waits who p && is_ended p)

  -- q comes about by a listed position and a first move of the opponent, of which that is heard
  pub record ComesFirst (S : List Pos) (opens : Said) (heard : Option Said) (q : Pos) : Type 0 where
    pub from : Pos
    pub member : In from S
    pub moved : Move
    pub listed : In moved (moves from)
    pub opens_told : opens ≡ told d (opening from)
    pub heard_told : heard ≡ Some (told d (words from moved))
    pub to : q ≡ after from moved

  -- at the player's turn an opening set has the listed positions with those words, and no move is heard
  abbrev pub OpeningsAreMembers : Type 0
  OpeningsAreMembers = (S : List Pos) → ((p : Pos) → In p S → is_same_side p.side who ≡ true) → (opens : Said) (heard : Option Said) (q : Pos) →
      In q (opening_set (chess d) (outset d who) S (opens, heard)) ↔ (In q S × (opens ≡ told d (opening q)) × (heard ≡ None))

  -- at the opponent's turn it has what comes about by a first move, and the move is heard
  abbrev pub OpeningsComeFirst : Type 0
  OpeningsComeFirst = (S : List Pos) → ((p : Pos) → In p S → is_same_side p.side who ≡ false) → (opens : Said) (heard : Option Said) (q : Pos) →
      In q (opening_set (chess d) (outset d who) S (opens, heard)) ↔ ComesFirst S opens heard q

  -- each set ascends; and a key occurs where its set is not empty
  pub record OpeningIs (S : List Pos) (key : RootKey) : Type 0 where
    pub ascending : IsAscending (opening_set (chess d) (outset d who) S key)
    pub occurs : In key (openings (chess d) (outset d who) S) ↔ (is_nil (opening_set (chess d) (outset d who) S key) ≡ false)

  -- each opening set holds just the positions that come about with its words
  abbrev pub OpeningsOccur : Type 0
  OpeningsOccur = (S : List Pos) (key : RootKey) → OpeningIs S key
