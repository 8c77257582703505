-- `lead` on a plan that mates, and `conduct` on a strategy whose plan does: the game that is written is won.
use Rattle.std.specs.Prelude.{◌≡◌, ◌-◌, ◌≤◌, ℕ, true, List, slice_get, Option, Some, Result, Ok}
use Rattle.std.specs.Io.KnownBytes.{Appends}
use Rattle.krieg_board.specs.Men.{other}
use Rattle.krieg_board.specs.Pos.{Pos}
use Rattle.krieg_text.specs.declared.fault.TextFault.{TextFault}
use Rattle.krieg_moves.specs.Moves.{is_mate}
use Rattle.krieg_umpire.specs.Games.{GameState}
use Rattle.krieg_umpire.specs.declared.verdict.Stop.{Stop}
use Rattle.krieg_umpire.specs.declared.verdict.Stop.TheVariants.{Ended, Left}
use Rattle.krieg_umpire.specs.SessionText.{session_text}
use Rattle.krieg_play.specs.Games.{IsGameFrom}
use Rattle.krieg_robot.specs.Guides.{Guidance}
use Rattle.krieg_robot.specs.Leading.{own_moves}
use Rattle.krieg_args.specs.declared.command.Command.{Command}
use Rattle.krieg_args.specs.declared.command.Command.TheVariants.{Lead, Conduct}
use Rattle.krieg_outcome.specs.Guides.{plan_guide_in, strategy_guide_in}
use Rattle.krieg_outcome.specs.Recorded.{session_of}
use Rattle.krieg_outcome.specs.Solve.{mates_all}
use Rattle.krieg_cli.specs.World.{World}

-- The text is the session of a game from the listed position with that number, of no more tries than were allowed. The side of the guide
-- did not leave it, and made no more moves than the guide states; and where it has ended, the opponent is mated.
pub record IsWonGame (g : Guidance) (asks number : ℕ) (text : List ℕ) : Type 0 where
  pub start : Pos
  pub listed : slice_get g.list (number - 1) ≡ Some start
  pub game : GameState
  pub stop : Stop
  pub is_game : IsGameFrom start asks game
  pub is_session : text ≡ session_text (session_of g.dialect start game stop)
  pub stays : stop ≡ Left g.side → ⊥
  pub few : own_moves g.side game.log ≤ g.worst
  pub mates : stop ≡ Ended → (is_mate game.position ≡ true) × (game.position.side ≡ other g.side)

-- Given a guide that mates from each position that it lists within the number that it states, status 0 has written such a game, with
-- the words of this command and a text that spells the guide.
abbrev pub MatesBy : (ℕ → ℕ → Command) → (List ℕ → Result Guidance TextFault) → Option Command → ℕ → World → World → Type 0
MatesBy command guide_in asked code before after =
    (asks number : ℕ) (g : Guidance) (text : List ℕ) → asked ≡ Some (command asks number) → code ≡ 0 →
    before.input.bytes ≡ Some text → guide_in text ≡ Ok g → mates_all g.dialect g.side g.list g.plan g.worst ≡ true →
    (answer : List ℕ) × IsWonGame g asks number answer × Appends before.out.bytes after.out.bytes answer

-- with the words of `lead` and the text of a plan file
abbrev pub LeadsToMate : Option Command → ℕ → World → World → Type 0
LeadsToMate = MatesBy Lead plan_guide_in

-- with those of `conduct` and the text of a strategy, whose plan is the one that it unfolds to
abbrev pub ConductsToMate : Option Command → ℕ → World → World → Type 0
ConductsToMate = MatesBy Conduct strategy_guide_in
