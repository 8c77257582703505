-- Outcomes by their keys.
use Rattle.std.specs.Ordering.{is_lt}
use Rattle.std.specs.Prelude.{Bool, List, map}
use Rattle.krieg_board.specs.Pos.{Pos}
use Rattle.krieg_theory.specs.Sets.{as_set, at_key, keys_in}
use Rattle.krieg_pack.specs.Members.{set_of}
use Rattle.krieg_game.specs.Keys.{Key, key_lt}
use Rattle.krieg_game.specs.Outcomes.{KeyedPosition, outcome_cmp}
use Rattle.krieg_game.specs.declared.classes.Class.{Class}

-- o stands before p
abbrev pub outcome_lt : KeyedPosition → KeyedPosition → Bool
outcome_lt o p = is_lt (outcome_cmp o p)

-- the outcomes of a list, each once, in order
unfoldable pub outcome_set : List KeyedPosition → List KeyedPosition
outcome_set os = as_set outcome_lt os

-- the positions of one key, as a set
abbrev pub class_at : List KeyedPosition → Key → Key × List Pos
class_at os key = (key, set_of (at_key key_lt key os))

-- the set of each key that occurs, in the order of keys
abbrev pub classes_in : List KeyedPosition → List (Key × List Pos)
classes_in os = map (class_at os) (keys_in key_lt os)

-- a class as that pair
abbrev pub class_pair : Class → Key × List Pos
class_pair c = ((c.own, c.reply), c.belief)
