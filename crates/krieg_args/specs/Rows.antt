-- The commands, a row each: a name, what the words behind it are, and the command that they are then.
use Rattle.std.specs.Prelude.{ℕ, List, [], ◌∷◌, Option, None, codes, if◌then◌else◌}
use Rattle.std.specs.Str.{bytes_eq}
use Rattle.krieg_args.specs.Kinds.{Kind, Whose, Made, Makes, made_of, listed, budget, find_budget, seed, search, find_search, played, led}
use Rattle.krieg_args.specs.declared.command.Command.{Command}
use Rattle.krieg_args.specs.declared.command.Command.TheVariants.{Solve, Check, Refute, Deny, Believe, Why, Umpire, San, Unsan, Play, Lead, Next, Find, Keys, Share, Judge, Advise, Conduct, Make, Job}

-- a command's name, the kinds of the words behind it, and the command that is made of what these stand for
pub record Row : Type 0 where
  pub name : List ℕ
  pub kinds : List Kind
  pub command : Makes Command kinds

-- a row of these parts
abbrev pub row : (name : List ℕ) (kinds : List Kind) → Makes Command kinds → Row
row name kinds command = record { name = name; kinds = kinds; command = command }

-- the command of these words by the row of its name, where there is one
abbrev pub command_in : List Row → List (List ℕ) → Option Command
command_in (r ∷ rs) (name ∷ words) = if bytes_eq name r.name then made_of r.kinds r.command words else command_in rs (name ∷ words)
command_in _ _ = None

-- the commands of the program krieg
abbrev pub krieg_rows : List Row
krieg_rows =
    row (codes "umpire") (Whose ∷ []) Umpire
    ∷ row (codes "san") [] San
    ∷ row (codes "unsan") [] Unsan
    ∷ row (codes "believe") (listed ∷ []) Believe
    ∷ row (codes "why") (listed ∷ []) Why
    ∷ row (codes "solve") search Solve
    ∷ row (codes "check") (budget ∷ []) Check
    ∷ row (codes "refute") search Refute
    ∷ row (codes "deny") (budget ∷ []) Deny
    ∷ row (codes "play") played (λ asks win wout bin bout. Play asks)
    ∷ row (codes "next") [] Next
    ∷ row (codes "lead") led (λ asks number tries told. Lead asks number)
    ∷ row (codes "make") (Made ∷ seed ∷ []) Make
    ∷ row (codes "job") (seed ∷ []) Job
    ∷ []

-- the commands of the program krieg_find
abbrev pub find_rows : List Row
find_rows =
    row (codes "find") find_search Find
    ∷ row (codes "keys") find_search Keys
    ∷ row (codes "share") find_search Share
    ∷ row (codes "judge") (find_budget ∷ []) Judge
    ∷ row (codes "advise") [] Advise
    ∷ row (codes "conduct") led (λ asks number tries told. Conduct asks number)
    ∷ []
