-- How large the parts of a set are: statements that functions of this crate have as contracts.
use Rattle.std.specs.Prelude.{◌≡◌, ◌≤◌, ◌<◌, true, false, List, length}
use Rattle.krieg_board.specs.Pos.{Pos}
use Rattle.krieg_board.specs.declared.men.Move.{Move}
use Rattle.krieg_words.specs.declared.dialects.Dialect.{Dialect}
use Rattle.krieg_pack.specs.Members.{IsAscending}
use Rattle.krieg_theory.specs.Sets.{In, is_nil}
use Rattle.krieg_theory.specs.Split.{refused, legal_in_some, keys, class}
use Rattle.krieg_costs.specs.Cost.{made}
use Rattle.krieg_game.specs.Keys.{Key}
use Rattle.krieg_game.specs.Chess.{chess}

module _ (d : Dialect) where
  -- a class ascends, has members where its key occurs, and no more than the split takes units
  pub record ClassIsSet (B : List Pos) (t : Move) (key : Key) : Type 0 where
    pub ascending : IsAscending (class (chess d) B t key)
    pub some : In key (keys (chess d) B t) → is_nil (class (chess d) B t key) ≡ false
    pub few : length (class (chess d) B t key) ≤ made (chess d) B t

  -- each class is a set, and no larger than what the split takes
  abbrev pub ClassesAreSets : Type 0
  ClassesAreSets = (B : List Pos) (t : Move) (key : Key) → ClassIsSet B t key

  -- the refused part ascends, and has fewer members where the try is legal in some
  pub record IsRefusedPart (B : List Pos) (t : Move) : Type 0 where
    pub ascending : IsAscending B → IsAscending (refused (chess d) B t)
    pub fewer : legal_in_some (chess d) B t ≡ true → length (refused (chess d) B t) < length B

  -- those who refuse a try are a set, and a smaller one where it is legal in some member
  abbrev pub RefusedIsSet : Type 0
  RefusedIsSet = (B : List Pos) (t : Move) → IsRefusedPart B t
