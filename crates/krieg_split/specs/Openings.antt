-- The members of a set by their opening words.
use Rattle.std.specs.Prelude.{List, None}
use Rattle.krieg_board.specs.Pos.{Pos}
use Rattle.krieg_words.specs.Words.{Said}
use Rattle.krieg_game.specs.Keys.{Key, RootKey}
use Rattle.krieg_split.specs.declared.opening_sets.OpeningSet.{OpeningSet}

-- opening words with their members
abbrev pub opened_pair : OpeningSet → Said × List Pos
opened_pair o = (o.opens, o.belief)

-- the same as an opening set of a plan, where no move is heard
abbrev pub opened_set : OpeningSet → RootKey × List Pos
opened_set o = ((o.opens, None), o.belief)

-- a class by the first of its words
abbrev pub heard_first : Key × List Pos → Said × List Pos
heard_first c = (c.0.0, c.1)
