-- Of the parts of the work: games that are kept by numbers, each with its last reply and the number of the game before it.
use Rattle.std.specs.Prelude.{◌≡◌, ℕ, suc, ◌+◌, ◌<◌, Bool, true, false, List, [], ◌∷◌, ◌++◌, None, is_some, unwrap_or, get_or, length, map, if◌then◌else◌}
use Rattle.std.specs.List.{All}
use Rattle.std.specs.Map.{lookup}
use Rattle.krieg_board.specs.Pos.{Pos}
use Rattle.krieg_board.specs.declared.men.Move.{Move}
use Rattle.krieg_board.specs.declared.men.Side.TheVariants.{White}
use Rattle.krieg_pack.specs.Order.{position_eq}
use Rattle.krieg_belief.specs.declared.beliefs.BeliefStop.{BeliefStop}
use Rattle.krieg_belief.specs.declared.beliefs.BeliefStop.TheVariants.{TooMany, NoMemory}
use Rattle.krieg_belief.specs.Tales.{Tale, begun, standing}
use Rattle.krieg_belief.specs.declared.links.Link.{Link}

-- for each position the number of a game
abbrev pub Entries : Type 0
Entries = List (Pos × ℕ)

-- what a number stands for that no game has
abbrev pub nowhere : Tale
nowhere = begun (record { board = []; side = White; rights = record { white_short = false; white_long = false; black_short = false; black_long = false }; mark = None })

-- a game with one more move of the opponent, for which it is not told where it stands
abbrev pub longer : Tale → Move → Tale
longer x r = record { stands = x.start; start = x.start; replies = x.replies ++ r ∷ [] }

-- the game of a link, behind these games
abbrev pub game_of : List Tale → Link → Tale
game_of gs l = longer (get_or gs l.before nowhere) l.reply

-- the games by their numbers: these, then those of the links
abbrev pub kept : List Tale → List Link → List Tale
kept gs [] = gs
kept gs (l ∷ ls) = kept (gs ++ game_of gs l ∷ []) ls

-- the game with that number
abbrev pub numbered_tale : List Pos → List Link → ℕ → Tale
numbered_tale ps ls n = get_or (kept (map begun ps) ls) n nowhere

-- the game with that number, where it stands in that position
abbrev pub tale_of : List Tale → Pos × ℕ → Tale
tale_of gs e = standing (get_or gs e.1 nowhere) e.0

-- the games of the positions, in the order in which these are kept
abbrev pub tales_of : List Pos → List Link → Entries → List Tale
tales_of ps ls es = map (tale_of (kept (map begun ps) ls)) es

-- where the game of an entry stands
abbrev pub place_of : Pos × ℕ → Pos
place_of e = e.0

-- the number of the game that stands in a position
abbrev pub number_of : Entries → Pos → ℕ
number_of es p = unwrap_or (lookup (position_eq p) es) 0

-- a position with that number
abbrev pub entry_at : Entries → Pos → Pos × ℕ
entry_at es p = (p, number_of es p)

-- a game stands in the position
abbrev pub IsFound : Entries → Pos → Type 0
IsFound es p = is_some (lookup (position_eq p) es) ≡ true

-- each link's game is before it
abbrev pub Grounded : ℕ → List Link → Type 0
Grounded n [] = Unit {0}
Grounded n (l ∷ ls) = (l.before < n) × Grounded (suc n) ls

-- each number is below this one
abbrev pub Numbered : ℕ → Entries → Type 0
Numbered n es = All (λ e. e.1 < n) es

-- the numbers are numbers of games
pub record AreKept (ps : List Pos) (ls : List Link) (es : Entries) : Type 0 where
  pub grounded : Grounded (length ps) ls
  pub numbered : Numbered (length ps + length ls) es

-- a position that is there keeps its number
abbrev pub with_entry : Entries → Pos → ℕ → Entries
with_entry es p n = if is_some (lookup (position_eq p) es) then es else es ++ (p, n) ∷ []

-- some game stands in the position
abbrev pub stands_in : Pos → List Tale → Bool
stands_in p [] = false
stands_in p (x ∷ xs) = if position_eq p x.stands then true else stands_in p xs

-- a game is added where none stands in its position
abbrev pub added : List Tale → Tale → List Tale
added xs y = if stands_in y.stands xs then xs else xs ++ y ∷ []

-- these are added one after another
abbrev pub add_all : List Tale → List Tale → List Tale
add_all xs [] = xs
add_all xs (y ∷ ys) = add_all (added xs y) ys

-- the links become more, and these games are added
pub record Adds (ps : List Pos) (ls ls' : List Link) (es es' : Entries) (ys : List Tale) : Type 0 where
  pub more : (ms : List Link) × (ls' ≡ ls ++ ms)
  pub are_kept : AreKept ps ls' es'
  pub tales : tales_of ps ls' es' ≡ add_all (tales_of ps ls es) ys

-- why the games after a line with that number are not kept: they are more than the limit allows, or memory was not found
abbrev pub IsOver : ℕ → ℕ → List Tale → BeliefStop → Type 0
IsOver limit number xs (TooMany line) = (limit < length xs) × (line ≡ number)
IsOver limit number xs NoMemory = Unit {0}
