-- The forms of lines that several formats have: what each gives, or the kind of its fault.
use Rattle.std.specs.Prelude.{ℕ, Bool, true, zero, suc, List, [], ◌∷◌, ◌++◌, codes, Option, Some, None, Result, Ok, Err, if◌then◌else◌, unwrap_or}
use Rattle.std.specs.Str.{bytes_eq}
use Rattle.krieg_board.specs.Men.{is_same_side}
use Rattle.krieg_board.specs.Pos.{Pos}
use Rattle.krieg_board.specs.Hand.{same_hand}
use Rattle.krieg_board.specs.declared.men.Side.{Side}
use Rattle.krieg_board.specs.declared.men.Side.TheVariants.{White, Black}
use Rattle.krieg_text.specs.declared.fault.TextKind.{TextKind}
use Rattle.krieg_text.specs.declared.fault.TextKind.TheVariants.{Syntax, Position, Differs, OutOfPlace}
use Rattle.krieg_fen.specs.declared.fen.FenFault.{FenFault}
use Rattle.krieg_fen.specs.declared.fen.FenFault.TheVariants.{Fields, Field, Bad}
use Rattle.krieg_fen.specs.declared.forms.Turn.{Turn}
use Rattle.krieg_fen.specs.declared.forms.Turn.TheVariants.{Either, Own}
use Rattle.krieg_text.specs.Decimals.{number_text}
use Rattle.krieg_fen.specs.Fen.{position_of}
use Rattle.krieg_text.specs.Outcomes.{◌>>=◌}
use Rattle.krieg_text.specs.Reading.{LineReader, taken}
use Rattle.krieg_fen.specs.declared.forms.TheConstants.{MOST_LISTED}
use Rattle.krieg_text.specs.Forms.{count_form}
use Rattle.krieg_text.specs.Formats.{named}

-- whose text it is
abbrev pub side_line : Side → List ℕ
side_line White = codes "side w"
side_line Black = codes "side b"

-- the side that such a line names
unfoldable pub side_form : List ℕ → Result Side TextKind
side_form text = if bytes_eq text (side_line White) then Ok White else (if bytes_eq text (side_line Black) then Ok Black else Err Syntax)

-- how many positions are listed
abbrev pub list_line : ℕ → List ℕ
list_line n = codes "list " ++ number_text n

-- the number in such a line, from 1 to the most
unfoldable pub list_form : List ℕ → Result ℕ TextKind
list_form text = count_form (codes "list ") 1 MOST_LISTED text

-- a text that spells no position is syntax, and one whose position is not valid has the fault of it
abbrev pub position_kind : Result Pos FenFault → Result Pos TextKind
position_kind (Ok p) = Ok p
position_kind (Err (Bad fault)) = Err (Position fault)
position_kind (Err Fields) = Err Syntax
position_kind (Err (Field n)) = Err Syntax

-- a position
unfoldable pub position_form : List ℕ → Result Pos TextKind
position_form text = position_kind (position_of text)

-- who may be to move in the first listed position: either side, or the text's own
abbrev pub has_turn : Turn → Side → Pos → Bool
has_turn Either who p = true
has_turn Own who p = is_same_side p.side who

-- the first position has the turn that is asked for, and each other one the hand of the first
abbrev pub matching : Turn → Side → Option Pos → Pos → Result Pos TextKind
matching turn who None p = if has_turn turn who p then Ok p else Err OutOfPlace
matching turn who (Some first) p = if same_hand first p who then Ok p else Err Differs

-- a listed position
unfoldable pub listed_form : Turn → Side → Option Pos → List ℕ → Result Pos TextKind
listed_form turn who first text = position_form text >>= matching turn who first

-- n listed positions, where first is the first of all, once there is one
abbrev pub positions_at : Turn → Side → Option Pos → ℕ → LineReader (List Pos)
positions_at turn who first zero p = Ok ([], p)
positions_at turn who first (suc n) p = do
  one ← taken (listed_form turn who first) p
  others ← positions_at turn who (Some (unwrap_or first one.0)) n one.1
  Ok (one.0 ∷ others.0, others.1)

-- whose text it is, how many positions are listed, and these
unfoldable pub listing_at : Turn → LineReader (Side × List Pos)
listing_at turn p = do
  side ← taken side_form p
  count ← taken list_form side.1
  list ← positions_at turn side.0 None count.0 count.1
  Ok ((side.0, list.0), list.1)

-- the position in which the game began
unfoldable pub start_form : List ℕ → Result Pos TextKind
start_form line = named (codes "start ") position_form line

-- whose line or try it is
abbrev pub side_mark : Side → List ℕ
side_mark White = codes "w "
side_mark Black = codes "b "
