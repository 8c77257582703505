-- A seat that follows a script, as contracts see it, and what one call makes of it.
use Rattle.std.specs.Prelude.{ℕ, List, [], ◌∷◌, ◌++◌, Contains}
use Rattle.krieg_ports.specs.Faults.{one_more}
use Rattle.krieg_board.specs.declared.men.Move.{Move}
use Rattle.krieg_wordtext.specs.declared.line.Line.{Line}
use Rattle.krieg_seats.specs.Accounts.{Account, once_asked}
use Rattle.krieg_seats.specs.declared.seat.Say.{Say}
use Rattle.krieg_seats.specs.declared.seat.Say.TheVariants.{Try, Leave}

-- a seat that says the moves of a script: its account, the moves that are left, which calls fail, and how many calls there were
pub record Script : Type 0 where
  -- what it has said and heard, and its counts
  pub account : Account
  -- the moves that it is still to say
  pub left : List Move
  -- the numbers of the calls that fail, from 1 on
  pub fails : List ℕ
  -- how many calls there were
  pub calls : ℕ

-- the number of the next call stands among those that fail
abbrev pub FailsNext : Script → Type 0
FailsNext s = Contains s.fails (one_more s.calls)

-- the seat once it is asked, before it answers
abbrev pub when_asked : Script → Script
when_asked s = record s { account = once_asked s.account }

-- the seat after a call that failed
abbrev pub after_failed : Script → Script
after_failed s = record s { account = record s.account { faults = one_more s.account.faults }; calls = one_more s.calls }

-- what it says next: the first of the moves that are left, and that it leaves where none is
abbrev pub next_say : List Move → Say
next_say [] = Leave
next_say (m ∷ ms) = Try m

-- the seat once it has said its next move, or has left where none is left
abbrev pub after_saying : Script → List Move → Script
after_saying s [] = record s { account = record s.account { leaves = one_more s.account.leaves }; calls = one_more s.calls }
after_saying s (m ∷ ms) = record s { account = record s.account { said = s.account.said ++ m ∷ [] }; left = ms; calls = one_more s.calls }

-- the seat after a call that asked it and did not fail
abbrev pub after_asked : Script → Script
after_asked s = after_saying (when_asked s) s.left

-- the seat after a call that told it the line
abbrev pub after_told : Script → Line → Script
after_told s line = record s { account = record s.account { heard = s.account.heard ++ line ∷ [] }; calls = one_more s.calls }

-- the seat after a call that found no memory for the line
abbrev pub after_short : Script → Script
after_short s = record s { calls = one_more s.calls }
