-- A seat that follows a guide, as contracts see it, and what one call makes of it.
use Rattle.std.specs.Prelude.{Bool, true, List, [], ◌∷◌, ◌++◌, Option, Some, None}
use Rattle.krieg_ports.specs.Faults.{one_more}
use Rattle.krieg_board.specs.Men.{is_same_side}
use Rattle.krieg_board.specs.Pos.{Pos}
use Rattle.krieg_board.specs.declared.men.Move.{Move}
use Rattle.krieg_board.specs.declared.men.Side.{Side}
use Rattle.krieg_wordtext.specs.declared.line.Line.{Line}
use Rattle.krieg_seats.specs.Accounts.{Account, once_asked}
use Rattle.krieg_seats.specs.declared.seat.Say.{Say}
use Rattle.krieg_seats.specs.declared.seat.Say.TheVariants.{Try, Leave}
use Rattle.krieg_robot.specs.Guides.{Guidance}
use Rattle.krieg_robot.specs.Stands as stand
use Rattle.krieg_robot.specs.Stands.{Stand, follow, next_try, node_try}
use Rattle.krieg_robot.specs.declared.next.Next.{Next}
use Rattle.krieg_robot.specs.declared.next.Next.TheVariants as next

-- the side is to move in the first listed position
abbrev pub is_first : Side → List Pos → Bool
is_first who [] = true
is_first who (p ∷ ps) = is_same_side p.side who

-- where he stands who follows the guide and heard these lines
abbrev pub follow_guide : Guidance → List Line → Stand
follow_guide g lines = follow (is_first g.side g.list) g.plan lines

-- a seat that follows a guide: the guide, and what the seat said and heard, with its counts
pub record Follower : Type 0 where
  pub guide : Guidance
  pub account : Account

-- where the seat stands, by the lines that it heard
abbrev pub stand_of : Follower → Stand
stand_of s = follow_guide s.guide s.account.heard

-- what it says when it is asked: its try, or that it leaves where it has none
abbrev pub say_of : Option Move → Say
say_of (Some m) = Try m
say_of None = Leave

-- what becomes of the account of a seat that says so
abbrev pub said_so : Option Move → Account → Account
said_so (Some m) a = record a { said = a.said ++ m ∷ [] }
said_so None a = record a { leaves = one_more a.leaves }

-- the seat once it is asked, before it answers
abbrev pub when_asked : Follower → Follower
when_asked s = record s { account = once_asked s.account }

-- the seat after a call that asked it
abbrev pub after_asked : Follower → Follower
after_asked s = record s { account = said_so (next_try (stand_of s)) (once_asked s.account) }

-- the seat after a call that told it the line
abbrev pub after_told : Follower → Line → Follower
after_told s line = record s { account = record s.account { heard = s.account.heard ++ line ∷ [] } }

-- what a player does next who stands there
abbrev pub next_of : Stand → Next
next_of stand.Unopened = next.Wait
next_of (stand.Opened w) = next.Wait
next_of (stand.At n) = next.Try (node_try n)
next_of (stand.Sent n w) = next.Wait
next_of stand.Won = next.Mated
next_of stand.Lost = next.Lost
