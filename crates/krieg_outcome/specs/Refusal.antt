-- What is refused of an input: the status with which the program ends, and what the line on err says.
use Rattle.std.specs.Prelude.{ℕ, ◌≡◌, List, Option, Some, None, Result, Ok, Err, codes}
use Rattle.krieg_faults.specs.declared.position.BadPosition.{BadPosition}
use Rattle.krieg_faults.specs.declared.position.BadPosition.TheVariants as bad
use Rattle.krieg_text.specs.declared.fault.TextFault.{TextFault}
use Rattle.krieg_text.specs.declared.fault.TextFault.TheVariants as fault
use Rattle.krieg_text.specs.declared.fault.TextKind.{TextKind}
use Rattle.krieg_text.specs.declared.fault.TextKind.TheVariants as kind
use Rattle.krieg_outcome.specs.declared.refusal.Refusal.{Refusal}
use Rattle.krieg_board.specs.declared.men.Side.TheVariants.{White, Black}
use Rattle.krieg_outcome.specs.declared.refusal.Refusal.TheVariants.{BadText, TooMany, NonePossible, NotThePlayersTurn, BudgetSpent, AnswerTooLong, NoSuchPosition, NoSeat, SeatFault, PlanFails, PlanTooLarge, PlanExists, RefutationFails}

-- a position that is not valid, or not of the first one's hand, is told from every other bad line
abbrev pub text_status : TextKind → ℕ
text_status (kind.Position bad_position) = 4
text_status kind.Differs = 4
text_status kind.Version = 3
text_status kind.Syntax = 3
text_status kind.Count = 3
text_status kind.OutOfPlace = 3
text_status kind.Deep = 3
text_status kind.Large = 3

-- the status of a refusal
abbrev pub refusal_status : Refusal → ℕ
refusal_status (BadText line kind) = text_status kind
refusal_status (TooMany line) = 7
refusal_status NonePossible = 5
refusal_status NotThePlayersTurn = 6
refusal_status BudgetSpent = 8
refusal_status PlanFails = 13
refusal_status (NoSeat who) = 12
refusal_status (SeatFault who) = 12
refusal_status PlanTooLarge = 14
refusal_status PlanExists = 17
refusal_status RefutationFails = 18
refusal_status AnswerTooLong = 19
refusal_status NoSuchPosition = 20

-- how the fault of a position is told
abbrev pub position_reason : BadPosition → List ℕ
position_reason bad.Kings = codes "kings"
position_reason bad.PawnRank = codes "pawn rank"
position_reason bad.TooManyMen = codes "too many men"
position_reason bad.IdleInCheck = codes "idle side in check"
position_reason bad.Rights = codes "rights"
position_reason bad.Mark = codes "mark"

-- how the fault of a line is told
abbrev pub text_reason : TextKind → List ℕ
text_reason (kind.Position bad_position) = position_reason bad_position
text_reason kind.Differs = codes "differs"
text_reason kind.Version = codes "version"
text_reason kind.Syntax = codes "syntax"
text_reason kind.Count = codes "count"
text_reason kind.OutOfPlace = codes "out of place"
text_reason kind.Deep = codes "deep"
text_reason kind.Large = codes "large"

-- the line of the input at which it is, where it is at one, and what it is
abbrev pub refusal_reason : Refusal → Option ℕ × List ℕ
refusal_reason (BadText line kind) = (Some line, text_reason kind)
refusal_reason (TooMany line) = (Some line, codes "too many positions")
refusal_reason NonePossible = (None, codes "no consistent position")
refusal_reason NotThePlayersTurn = (None, codes "not the player's turn")
refusal_reason BudgetSpent = (None, codes "budget spent")
refusal_reason PlanFails = (None, codes "plan fails")
refusal_reason (NoSeat White) = (None, codes "no seat w")
refusal_reason (NoSeat Black) = (None, codes "no seat b")
refusal_reason (SeatFault White) = (None, codes "seat fault w")
refusal_reason (SeatFault Black) = (None, codes "seat fault b")
refusal_reason PlanTooLarge = (None, codes "plan too large")
refusal_reason PlanExists = (None, codes "a plan exists")
refusal_reason RefutationFails = (None, codes "refutation fails")
refusal_reason AnswerTooLong = (None, codes "answer too long")
refusal_reason NoSuchPosition = (None, codes "no such position")

-- What comes of a text: an outcome of the value that it spells, or the refusal of its first bad line.
abbrev pub OfText : {A : Type 0} → Result A TextFault → (A → Result (List ℕ) Refusal → Type 0) → Result (List ℕ) Refusal → Type 0
OfText (Ok value) Of outcome = Of value outcome
OfText (Err (fault.At line kind)) Of outcome = outcome ≡ Err (BadText line kind)
OfText (Err fault.NoMemory) Of outcome = ⊥
