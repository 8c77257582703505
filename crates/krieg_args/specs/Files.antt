-- The files that the words of `play`, of `lead` and of `conduct` name.
use Rattle.std.specs.Prelude.{ℕ, List, [], ◌∷◌, Option, Some, None, codes, if◌then◌else◌}
use Rattle.std.specs.Str.{bytes_eq}
use Rattle.krieg_args.specs.Kinds.{◌>>=◌, made_of, played, led}

-- where the tries of each side come from, and where it is told
pub record Files : Type 0 where
  pub win : List ℕ
  pub wout : List ℕ
  pub bin : List ℕ
  pub bout : List ℕ

-- the words behind the name of this command
unfoldable pub behind : List ℕ → List (List ℕ) → Option (List (List ℕ))
behind command (name ∷ words) = if bytes_eq name command then Some words else None
behind command [] = None

-- the files of a well-formed `play`
abbrev pub seat_files : List (List ℕ) → Option Files
seat_files words =
    behind (codes "play") words >>= made_of played (λ asks win wout bin bout. record { win = win; wout = wout; bin = bin; bout = bout })

-- those of a game that is led, by the command of that name: where the opponent's tries come from, and where he is told
abbrev pub led_files : List ℕ → List (List ℕ) → Option (List ℕ × List ℕ)
led_files command words = behind command words >>= made_of led (λ asks number tries told. (tries, told))

-- the files of a well-formed `lead`
abbrev pub lead_files : List (List ℕ) → Option (List ℕ × List ℕ)
lead_files words = led_files (codes "lead") words

-- the files of a well-formed `conduct`
abbrev pub conduct_files : List (List ℕ) → Option (List ℕ × List ℕ)
conduct_files words = led_files (codes "conduct") words
