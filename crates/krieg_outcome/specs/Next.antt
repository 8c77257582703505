-- What `next` answers to a plan file, and `advise` to a strategy, and what its player heard: what he does next.
use Rattle.std.specs.Prelude.{◌≡◌, ℕ, List, [], ◌∷◌, ◌++◌, Result, Ok, codes}
use Rattle.krieg_fen.specs.MoveText.{move_text}
use Rattle.krieg_text.specs.Lines.{lines}
use Rattle.krieg_text.specs.Writing.{put_lines}
use Rattle.krieg_wordtext.specs.declared.line.Line.{Line}
use Rattle.krieg_planfile.specs.HeardReading.{HeardState, heard_plan}
use Rattle.krieg_strategyfile.specs.HeardStrategies.{heard_strategy}
use Rattle.krieg_robot.specs.Followers.{follow_guide, next_of}
use Rattle.krieg_robot.specs.Guides.{Guidance}
use Rattle.krieg_robot.specs.declared.next.Next.{Next}
use Rattle.krieg_robot.specs.declared.next.Next.TheVariants.{Try, Wait, Mated, Lost}
use Rattle.krieg_outcome.specs.Guides.{plan_guide, strategy_guide}
use Rattle.krieg_outcome.specs.Refusal.{OfText}
use Rattle.krieg_outcome.specs.declared.refusal.Refusal.{Refusal}

-- the line that says what he does
abbrev pub next_line : Next → List ℕ
next_line (Try m) = codes "try " ++ move_text m
next_line Wait = codes "wait"
next_line Mated = codes "mated"
next_line Lost = codes "lost"

-- with a line feed
unfoldable pub next_text : Next → List ℕ
next_text next = put_lines [] ((next_line next ∷ []) ∷ [])

-- the text that says what he does next who follows the guide and heard these lines
abbrev pub said_next : Guidance → List Line → List ℕ
said_next g heard = next_text (next_of (follow_guide g heard))

-- the answer to these lines, and a plan file or a strategy that guides so
abbrev pub Says : {A : Type 0} → (A → Guidance) → HeardState A → Result (List ℕ) Refusal → Type 0
Says guide h outcome = outcome ≡ Ok (said_next (guide h.file) h.heard)

-- the same of a text that may spell a plan file and these lines
abbrev pub SaysNext : List ℕ → Result (List ℕ) Refusal → Type 0
SaysNext text outcome = OfText (heard_plan (lines text)) (Says plan_guide) outcome

-- and of one that may spell a strategy: its plan is the one that it unfolds to
abbrev pub Advises : List ℕ → Result (List ℕ) Refusal → Type 0
Advises text outcome = OfText (heard_strategy (lines text)) (Says strategy_guide) outcome
