-- What the words behind a command's name may be, and what they stand for.
use Rattle.std.specs.Prelude.{ℕ, List, [], ◌∷◌, length, nat_lt, Option, Some, None, option_and_then, option_map, codes, if◌then◌else◌}
use Rattle.std.specs.Result.{result_ok}
use Rattle.std.specs.Str.{bytes_eq}
use Rattle.krieg_board.specs.declared.limits.TheConstants.{MOST_MOVES, MOST_UNITS}
use Rattle.krieg_board.specs.declared.men.Side.{Side}
use Rattle.krieg_board.specs.declared.men.Side.TheVariants.{White, Black}
use Rattle.krieg_text.specs.Decimals.{number_between}
use Rattle.krieg_fen.specs.declared.forms.TheConstants.{MOST_LISTED}
use Rattle.krieg_args.specs.declared.command.TheConstants.{MOST_ASKS, MOST_SEED, MOST_FIND_MOVES, MOST_FIND_UNITS}
use Rattle.krieg_args.specs.declared.command.MadeInput.{MadeInput}
use Rattle.krieg_args.specs.declared.command.MadeInput.TheVariants.{Session, Sheet}

-- what a word is: a plain decimal in a range, whose sheet the umpire writes, what a made input is, or the name of a file
pub data Kind : Type 0 where
  Number : (least most : ℕ) → Kind
  Whose Made File : Kind

-- what a word of a kind stands for
abbrev pub Value : Kind → Type 0
Value (Number least most) = ℕ
Value Whose = Option Side
Value Made = MadeInput
Value File = List ℕ

-- whose sheet the umpire writes, or what both players hear
abbrev pub whose : List ℕ → Option (Option Side)
whose word =
    if bytes_eq word (codes "w") then Some (Some White)
    else (if bytes_eq word (codes "b") then Some (Some Black)
    else (if bytes_eq word (codes "all") then Some None else None))

-- what a made input is
abbrev pub made_input : List ℕ → Option MadeInput
made_input word = if bytes_eq word (codes "session") then Some Session else (if bytes_eq word (codes "sheet") then Some Sheet else None)

-- what a word stands for, where it is of the kind
abbrev pub read : (k : Kind) → List ℕ → Option (Value k)
read (Number least most) word = result_ok (number_between word least most)
read Whose word = whose word
read Made word = made_input word
read File word = if nat_lt 0 (length word) then Some word else None

-- what words of these kinds stand for
abbrev pub Values : List Kind → Type 0
Values [] = Unit {0}
Values (k ∷ ks) = Value k × Values ks

infixl 10 ◌>>=◌
abbrev pub ◌>>=◌ : {A B : Type 0} → Option A → (A → Option B) → Option B
x >>= f = option_and_then f x

-- what the first word stands for, where it is of the kind, and the words behind it
unfoldable pub read_first : (k : Kind) → List (List ℕ) → Option (Value k × List (List ℕ))
read_first k [] = None
read_first k (word ∷ words) = do
  v ← read k word
  Some (v, words)

-- what the words stand for, where they are as many as the kinds, and each is of its kind
abbrev pub read_all : (ks : List Kind) → List (List ℕ) → Option (Values ks)
read_all [] [] = Some tt
read_all [] (word ∷ words) = None
read_all (k ∷ ks) words = do
  first ← read_first k words
  vs ← read_all ks first.1
  Some (first.0, vs)

-- what is made of a value for each of these kinds
abbrev pub Makes : Type 0 → List Kind → Type 0
Makes A [] = A
Makes A (k ∷ ks) = Value k → Makes A ks

-- what it makes of these values
abbrev pub made : {A : Type 0} → (ks : List Kind) → Makes A ks → Values ks → A
made [] f v = f
made (k ∷ ks) f v = made ks (f v.0) v.1

-- what it makes of words, where they are of these kinds
abbrev pub made_of : {A : Type 0} → (ks : List Kind) → Makes A ks → List (List ℕ) → Option A
made_of ks f words = option_map (made ks f) (read_all ks words)

-- ---- the kinds that there are

-- LIMIT, the positions of a set, and NUMBER, that of a listed position: as many as a text can list
abbrev pub listed : Kind
listed = Number 1 MOST_LISTED

-- BUDGET: units of work
abbrev pub budget : Kind
budget = Number 1 MOST_UNITS

-- BUDGET of the program krieg_find
abbrev pub find_budget : Kind
find_budget = Number 1 MOST_FIND_UNITS

-- ASKS: how often the players of a game are asked
abbrev pub asks : Kind
asks = Number 1 MOST_ASKS

-- NUMBER: that of a made input, of 32 bits
abbrev pub seed : Kind
seed = Number 0 MOST_SEED

-- MOVES BUDGET LIMIT of a search
abbrev pub search : List Kind
search = Number 1 MOST_MOVES ∷ budget ∷ listed ∷ []

-- MOVES BUDGET LIMIT of a search of the program krieg_find, which goes further
abbrev pub find_search : List Kind
find_search = Number 1 MOST_FIND_MOVES ∷ find_budget ∷ listed ∷ []

-- ASKS WIN WOUT BIN BOUT: each player has a file for what he says and one for what he hears
abbrev pub played : List Kind
played = asks ∷ File ∷ File ∷ File ∷ File ∷ []

-- ASKS NUMBER IN OUT: so has the opponent
abbrev pub led : List Kind
led = asks ∷ listed ∷ File ∷ File ∷ []
