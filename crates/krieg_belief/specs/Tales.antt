-- Of the parts of the work: hidden games, told by their starts and the opponent's moves, line after line.
use Rattle.std.specs.Prelude.{Bool, not, List, [], ◌∷◌, ◌++◌, map, if◌then◌else◌}
use Rattle.std.specs.List.{filter, flat_map}
use Rattle.std.specs.Ordering.{then_cmp, on, is_lt}
use Rattle.std.specs.Cmp.Lexicographic.{slice_cmp}
use Rattle.std.specs.declared.cmp.Ordering.{Ordering}
use Rattle.krieg_board.specs.Men.{is_same_side}
use Rattle.krieg_board.specs.Order.{move_cmp}
use Rattle.krieg_board.specs.Pos.{Pos}
use Rattle.krieg_board.specs.declared.men.Side.{Side}
use Rattle.krieg_board.specs.declared.men.Move.{Move}
use Rattle.krieg_moves.specs.After.{after}
use Rattle.krieg_moves.specs.Moves.{moves}
use Rattle.krieg_words.specs.ToldMoves.{are_told}
use Rattle.krieg_words.specs.declared.dialects.Dialect.{Dialect}
use Rattle.krieg_wordtext.specs.declared.line.Line.{Line}
use Rattle.krieg_wordtext.specs.declared.line.Line.TheVariants.{Opens, Illegal, Done, Heard, Early, Over}
use Rattle.krieg_pack.specs.Order.{position_cmp, position_eq}
use Rattle.krieg_belief.specs.Steps.{nexts}

-- where a hidden game stands, where it began, and the opponent's moves in it
pub record Tale : Type 0 where
  pub stands : Pos
  pub start : Pos
  pub replies : List Move

-- where a game stands
abbrev pub stands_of : Tale → Pos
stands_of x = x.stands

-- a game that has no tries yet
abbrev pub begun : Pos → Tale
begun p = record { stands = p; start = p; replies = [] }

-- by the start, then by the opponent's moves, the first that differs
abbrev pub tale_cmp : Tale → Tale → Ordering
tale_cmp = then_cmp (on (λ (x : Tale). x.start) position_cmp) (on (λ (x : Tale). x.replies) (slice_cmp move_cmp))

-- it stands before the other
abbrev pub tale_lt : Tale → Tale → Bool
tale_lt x y = is_lt (tale_cmp x y)

-- the game after a move of the opponent
abbrev pub after_reply : Tale → Move → Tale
after_reply x r = record { stands = after x.stands r; start = x.start; replies = x.replies ++ r ∷ [] }

-- the game with the same moves, which stands in that position
abbrev pub standing : Tale → Pos → Tale
standing x q = record { stands = q; start = x.start; replies = x.replies }

-- how a game may go on by a line, in the order of the opponent's moves
abbrev pub tales_after : Dialect → Side → Line → Tale → List Tale
tales_after d who (Opens w) x = map (standing x) (nexts d who (Opens w) x.stands)
tales_after d who (Illegal m) x = map (standing x) (nexts d who (Illegal m) x.stands)
tales_after d who (Done m w) x = map (standing x) (nexts d who (Done m w) x.stands)
tales_after d who (Heard w) x = if is_same_side x.stands.side who then [] else map (after_reply x) (filter (are_told d w x.stands) (moves x.stands))
tales_after d who (Early m) x = map (standing x) (nexts d who (Early m) x.stands)
tales_after d who (Over m) x = map (standing x) (nexts d who (Over m) x.stands)

-- games that stand elsewhere
abbrev pub elsewhere : Pos → List Tale → List Tale
elsewhere p xs = filter (λ x. not (position_eq x.stands p)) xs

-- the first game for each position
abbrev pub firsts : List Tale → List Tale
firsts [] = []
firsts (x ∷ xs) = x ∷ elsewhere x.stands (firsts xs)

-- the games after a line, of each position the first
abbrev pub tell : Dialect → Side → Line → List Tale → List Tale
tell d who l xs = firsts (flat_map (tales_after d who l) xs)

-- one line after another
abbrev pub tell_all : Dialect → Side → List Line → List Tale → List Tale
tell_all d who [] xs = xs
tell_all d who (l ∷ ls) xs = tell_all d who ls (tell d who l xs)
