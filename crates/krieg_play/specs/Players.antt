-- What no public clause of a game cites: what a turn makes of two players of any kind, by what each call makes of one of them.
use Rattle.std.specs.Prelude.{◌≡◌, ◌+◌, ◌⊎◌, List, [], ◌∷◌, ◌++◌, Option, Some, None, option_map, option_to_list, Result, Ok, Err}
use Rattle.krieg_board.specs.Pos.{Pos}
use Rattle.krieg_board.specs.declared.men.Side.{Side}
use Rattle.krieg_board.specs.declared.men.Side.TheVariants.{White, Black}
use Rattle.krieg_wordtext.specs.Line.{told_line}
use Rattle.krieg_words.specs.declared.dialects.Dialect.{Dialect}
use Rattle.krieg_wordtext.specs.declared.line.Line.{Line}
use Rattle.krieg_umpire.specs.Hearing.{line_for}
use Rattle.krieg_umpire.specs.Verdicts.{next}
use Rattle.krieg_umpire.specs.Games.{GameState, judged}
use Rattle.krieg_umpire.specs.declared.verdict.Event.{Event}
use Rattle.krieg_umpire.specs.declared.verdict.Judged.{Judged}
use Rattle.krieg_seats.specs.declared.seat.SeatFault.{SeatFault}
use Rattle.krieg_play.specs.Played.{by_side}
use Rattle.krieg_play.specs.Calls.{lines_to}
use Rattle.krieg_play.specs.Passes.{fault_of}
use Rattle.krieg_play.specs.declared.outcome.PlayFault.{PlayFault}
use Rattle.krieg_play.specs.declared.ask_outcome.AskOutcome.{AskOutcome}
use Rattle.krieg_play.specs.declared.ask_outcome.AskOutcome.TheVariants.{Tried, Relieved, Left}

-- what asking a player makes of him, who has heard these lines
abbrev pub Asking : Type 0 → Type 1
Asking X = List Line → Result AskOutcome SeatFault → X → X → Type 0

-- what telling him makes of him, whose lines these are, of which the second list is due
abbrev pub Telling : Type 0 → Type 1
Telling X = List Line → List Line → Result (Unit {0}) SeatFault → X → X → Type 0

module _ {W B : Type 0} (w_hears : Telling W) (b_hears : Telling B) where
  -- Both hear what is due to them, White first: where this meets a fault, Black is told nothing.
  abbrev pub BothHear : Result (Unit {0}) PlayFault → (Side → List Line) → (Side → List Line) → W → W → B → B → Type 0
  BothHear (Ok _) lines due w w' b b' = w_hears (lines White) (due White) (Ok tt) w w' × b_hears (lines Black) (due Black) (Ok tt) b b'
  BothHear (Err fault) lines due w w' b b' = (met : SeatFault)
      × (((fault ≡ fault_of met White) × w_hears (lines White) (due White) (Err met) w w' × (b' ≡ b))
      ⊎ ((fault ≡ fault_of met Black) × w_hears (lines White) (due White) (Ok tt) w w' × b_hears (lines Black) (due Black) (Err met) b b'))

-- what a side hears of a try, as the dialect tells it
abbrev pub line_in : Dialect → Side → Judged → Option Line
line_in d who j = option_map (told_line d) (line_for who j)

-- what is due of a try to each side
abbrev pub due_in : Dialect → Judged → Side → List Line
due_in d j = by_side (option_to_list (line_in d White j)) (option_to_list (line_in d Black j))

-- one more try of the game was judged
pub record IsStepped (e : Event) (game game' : GameState) : Type 0 where
  pub log : game'.log ≡ game.log ++ judged game.position e ∷ []
  pub position : game'.position ≡ next game.position e.who e.mv
  pub spare : game'.spare + 1 ≡ game.spare

-- the turn of a side that tried: both were told, or not, and nobody left
abbrev pub next_turn : Result (Unit {0}) PlayFault → Result (Option Side) PlayFault
next_turn (Ok _) = Ok None
next_turn (Err fault) = Err fault

module _ {W B : Type 0} (w_asks : Asking W) (b_asks : Asking B) (w_hears : Telling W) (b_hears : Telling B) where
  -- one of them is asked
  abbrev pub AsksOf : Side → Result AskOutcome SeatFault → (Side → List Line) → W → W → B → B → Type 0
  AsksOf White r lines w w' b b' = w_asks (lines White) r w w' × (b' ≡ b)
  AsksOf Black r lines w w' b b' = b_asks (lines Black) r b b' × (w' ≡ w)

  -- What comes of what it said: its try is judged, and both are told what they hear of it; or the turn is over.
  abbrev pub Follows : Result AskOutcome SeatFault → Result (Option Side) PlayFault → Dialect → Pos → Side → W → W → B → B → GameState → GameState → Type 0
  Follows (Ok (Tried m)) result d start who w w' b b' game game' =
      (told : Result (Unit {0}) PlayFault) × (result ≡ next_turn told) × IsStepped (record { who = who; mv = m }) game game'
      × BothHear w_hears b_hears told (λ side. lines_to start side game'.log) (due_in d (judged game.position (record { who = who; mv = m }))) w w' b b'
  Follows (Ok Relieved) result d start who w w' b b' game game' = (result ≡ Ok None) × (w' ≡ w) × (b' ≡ b) × (game' ≡ game)
  Follows (Ok Left) result d start who w w' b b' game game' = (result ≡ Ok (Some who)) × (w' ≡ w) × (b' ≡ b) × (game' ≡ game)
  Follows (Err met) result d start who w w' b b' game game' = (result ≡ Err (fault_of met who)) × (w' ≡ w) × (b' ≡ b) × (game' ≡ game)

  -- a turn: the side to move is asked
  pub record TakesTurns (result : Result (Option Side) PlayFault) (d : Dialect) (start : Pos) (w w' : W) (b b' : B) (game game' : GameState) : Type 0 where
    pub said : Result AskOutcome SeatFault
    pub white : W
    pub black : B
    pub asked : AsksOf game.position.side said (λ side. lines_to start side game.log) w white b black
    pub follows : Follows said result d start game.position.side white w' black b' game game'
