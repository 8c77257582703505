-- That a plan that mates wins: a statement that a function of this crate has as its contract.
use Rattle.std.specs.Prelude.{◌≡◌, ℕ, true}
use Rattle.krieg_board.specs.Pos.{Pos}
use Rattle.krieg_umpire.specs.Games.{GameState}
use Rattle.krieg_umpire.specs.declared.verdict.Stop.{Stop}
use Rattle.krieg_seats.specs.Accounts.{Account}
use Rattle.krieg_theory.specs.Sets.{In}
use Rattle.krieg_theory.specs.Plans.{mates}
use Rattle.krieg_game.specs.Chess.{chess}
use Rattle.krieg_game.specs.Outset.{outset}
use Rattle.krieg_plan.specs.OneTurn.{IsOneTurn}
use Rattle.krieg_robot.specs.Guides.{Guidance}
use Rattle.krieg_robot.specs.Leading.{IsLed, IsWon}

-- the plan of the guide mates from every listed position, within the number of moves that the guide claims
abbrev pub Mates : Guidance → Type 0
Mates g = mates (chess g.dialect) (outset g.dialect g.side) g.plan g.list g.worst ≡ true

-- A plan that mates wins every game that it led from a listed position, against any opponent and to any stop.
abbrev pub MatingPlanWins : Type 0
MatingPlanWins = (g : Guidance) (start : Pos) (asks : ℕ) (entry now : Account) (game : GameState) (stop : Stop) →
    IsOneTurn g.list → In start g.list → Mates g → IsLed g start asks entry now game stop → IsWon g game stop
