-- How the umpire judges one try.
use Rattle.std.specs.Prelude.{Bool, true, false, not, if◌then◌else◌}
use Rattle.krieg_board.specs.Men.{is_same_side}
use Rattle.krieg_board.specs.Pos.{Pos}
use Rattle.krieg_board.specs.declared.men.Side.{Side}
use Rattle.krieg_board.specs.declared.men.Move.{Move}
use Rattle.krieg_moves.specs.Legal.{is_legal}
use Rattle.krieg_moves.specs.After.{after}
use Rattle.krieg_moves.specs.Moves.{is_ended}
use Rattle.krieg_words.specs.WordsOfMoves.{words}
use Rattle.krieg_umpire.specs.declared.verdict.Verdict.{Verdict}
use Rattle.krieg_umpire.specs.declared.verdict.Verdict.TheVariants.{Over, Early, Illegal, Done}

-- a try is over where the game has ended, else early where its player is not to move, else illegal where its move is not legal, and otherwise done, with its words
unfoldable pub verdict : Pos → Side → Move → Verdict
verdict p who m =
    if is_ended p then Over
    else if not (is_same_side who p.side) then Early
    else if not (is_legal p m) then Illegal
    else Done (words p m)

-- the try was done
abbrev pub is_done : Verdict → Bool
is_done Over = false
is_done Early = false
is_done Illegal = false
is_done (Done w) = true

-- the position after a try that was judged so: it changes by a try that is done and by no other
abbrev pub position_after : Verdict → Pos → Move → Pos
position_after Over p m = p
position_after Early p m = p
position_after Illegal p m = p
position_after (Done w) p m = after p m

-- the position after a try
abbrev pub next : Pos → Side → Move → Pos
next p who m = position_after (verdict p who m) p m
