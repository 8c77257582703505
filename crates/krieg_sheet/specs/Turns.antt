-- Whose turn it is, whether the game is over, and which lines may stand there.
use Rattle.std.specs.Prelude.{Bool, true, false, not, ◌&&◌, ◌||◌, List, [], ◌∷◌, Option, Some, None}
use Rattle.krieg_board.specs.Pos.{Pos}
use Rattle.krieg_board.specs.Men.{other, is_same_side}
use Rattle.krieg_board.specs.declared.men.Side.{Side}
use Rattle.krieg_board.specs.declared.men.Side.TheVariants.{White}
use Rattle.krieg_words.specs.Words.{Said}
use Rattle.krieg_wordtext.specs.WordsText.{has_ended}
use Rattle.krieg_wordtext.specs.declared.line.Line.{Line}
use Rattle.krieg_wordtext.specs.declared.line.Line.TheVariants.{Opens, Illegal, Done, Heard, Early, Over}
use Rattle.krieg_sheet.specs.Sheets.{SheetState}

-- words after which no move is made
abbrev pub ends : Said → Bool
ends w = has_ended w.end

-- the side to move in the listed positions, which have the same one; White where none is listed
abbrev pub first_turn : List Pos → Side
first_turn [] = White
first_turn (p ∷ ps) = p.side

-- whether the game is over before the first entry; without opening words it is not
abbrev pub over_at_first : Option Said → Bool
over_at_first None = false
over_at_first (Some w) = ends w

-- a move that is made passes the turn to the other side
abbrev pub turn_after : Side → Line → Side
turn_after turn (Opens w) = turn
turn_after turn (Illegal m) = turn
turn_after turn (Done m w) = other turn
turn_after turn (Heard w) = other turn
turn_after turn (Early m) = turn
turn_after turn (Over m) = turn

-- the game is over from the first words on that end it
abbrev pub over_after : Bool → Line → Bool
over_after over (Opens w) = over
over_after over (Illegal m) = over
over_after over (Done m w) = over || ends w
over_after over (Heard w) = over || ends w
over_after over (Early m) = over
over_after over (Over m) = over

-- whose turn it is after all of the lines
abbrev pub turn_behind : Side → List Line → Side
turn_behind turn [] = turn
turn_behind turn (l ∷ ls) = turn_behind (turn_after turn l) ls

-- whether the game is over after all of the lines
abbrev pub over_behind : Bool → List Line → Bool
over_behind over [] = over
over_behind over (l ∷ ls) = over_behind (over_after over l) ls

-- which entries may stand where it is the player's turn or not, and the game is over or not
abbrev pub may_stand : Bool → Bool → Line → Bool
may_stand mine over (Opens w) = false
may_stand mine over (Illegal m) = not over && mine
may_stand mine over (Done m w) = not over && mine
may_stand mine over (Heard w) = not over && not mine
may_stand mine over (Early m) = not over && not mine
may_stand mine over (Over m) = over

-- each entry may stand after those before it
abbrev pub are_in_place : Side → Side → Bool → List Line → Bool
are_in_place who turn over [] = true
are_in_place who turn over (l ∷ ls) = may_stand (is_same_side turn who) over l && are_in_place who (turn_after turn l) (over_after over l) ls

-- whose turn it is after the last entry of a sheet
abbrev pub turn_of : SheetState → Side
turn_of s = turn_behind (first_turn s.list) s.entries

-- it is the player's turn there
abbrev pub is_my_turn : SheetState → Bool
is_my_turn s = is_same_side (turn_of s) s.side

-- the game is over there
abbrev pub is_over : SheetState → Bool
is_over s = over_behind (over_at_first s.opens) s.entries

-- the line may be the next entry
abbrev pub is_in_place : SheetState → Line → Bool
is_in_place s l = may_stand (is_my_turn s) (is_over s) l
