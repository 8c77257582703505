-- What a try makes of a set.
use Rattle.std.specs.Prelude.{◌≡◌, List, map}
use Rattle.krieg_board.specs.Pos.{Pos}
use Rattle.krieg_board.specs.declared.men.Move.{Move}
use Rattle.krieg_words.specs.declared.dialects.Dialect.{Dialect}
use Rattle.krieg_pack.specs.Members.{IsAscending}
use Rattle.krieg_theory.specs.Split.{refused, stale_in_some, keys, class}
use Rattle.krieg_game.specs.Chess.{chess}
use Rattle.krieg_game.specs.Classes.{class_pair}
use Rattle.krieg_parting.specs.Gathering.{IsGathered, whole_try}
use Rattle.krieg_parting.specs.declared.parts.UnsortedParts.{UnsortedParts}
use Rattle.krieg_parting.specs.declared.parts.Parted.{Parted}

-- the members that refuse the try, whether it stalemates in some, and the class of each key that occurs, ascending
pub record IsParted (d : Dialect) (B : List Pos) (t : Move) (r : Parted) : Type 0 where
  pub refused_part : r.refused ≡ refused (chess d) B t
  pub stale_part : r.stale ≡ stale_in_some (chess d) B t
  pub classes_part : map class_pair r.classes.items ≡ map (λ key. (key, class (chess d) B t key)) (keys (chess d) B t)

-- the parts of each set of which this was gathered, and all of it was wanted
abbrev pub IsPartedOf : UnsortedParts → Parted → Type 0
IsPartedOf parts r = (d : Dialect) (B : List Pos) (t : Move) → IsAscending B → IsGathered (whole_try d t) B parts → IsParted d B t r
