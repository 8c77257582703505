-- Parts of the work, which no public clause cites: where a game may stand after one line of a sheet, and after all of them.
use Rattle.std.specs.Prelude.{◌&&◌, List, [], ◌∷◌, Option, Some, None, map, if◌then◌else◌}
use Rattle.std.specs.List.{filter, flat_map}
use Rattle.krieg_board.specs.Men.{is_same_side}
use Rattle.krieg_board.specs.Pos.{Pos}
use Rattle.krieg_board.specs.declared.men.Side.{Side}
use Rattle.krieg_board.specs.declared.men.Move.{Move}
use Rattle.krieg_moves.specs.Legal.{is_legal}
use Rattle.krieg_moves.specs.After.{after}
use Rattle.krieg_moves.specs.Moves.{moves}
use Rattle.krieg_words.specs.Words.{Said}
use Rattle.krieg_words.specs.ToldMoves.{are_told}
use Rattle.krieg_words.specs.declared.dialects.Dialect.{Dialect}
use Rattle.krieg_wordtext.specs.declared.line.Line.{Line}
use Rattle.krieg_wordtext.specs.declared.line.Line.TheVariants.{Opens, Illegal, Done, Heard, Early, Over}
use Rattle.krieg_pack.specs.Members.{set_of}
use Rattle.krieg_belief.specs.Staying.{stays}

-- the position after the player's own move, where it may be made and has the words
abbrev pub after_done : Dialect → Side → Move → Said → Pos → Option Pos
after_done d who m w p = if is_same_side p.side who && (is_legal p m && are_told d w p m) then Some (after p m) else None

-- where a game that stands in p may stand after the line, which the side who hears
abbrev pub nexts : Dialect → Side → Line → Pos → List Pos
nexts d who (Done m w) p = if is_same_side p.side who && (is_legal p m && are_told d w p m) then after p m ∷ [] else []
nexts d who (Heard w) p = if is_same_side p.side who then [] else map (after p) (filter (are_told d w p) (moves p))
nexts d who (Opens w) p = if stays d who (Opens w) p then p ∷ [] else []
nexts d who (Illegal m) p = if stays d who (Illegal m) p then p ∷ [] else []
nexts d who (Early m) p = if stays d who (Early m) p then p ∷ [] else []
nexts d who (Over m) p = if stays d who (Over m) p then p ∷ [] else []

-- all positions in which a game may stand after the line, each once
abbrev pub step : Dialect → Side → Line → List Pos → List Pos
step d who l ps = set_of (flat_map (nexts d who l) ps)

-- one line after another
abbrev pub run : Dialect → Side → List Line → List Pos → List Pos
run d who [] ps = ps
run d who (l ∷ ls) ps = run d who ls (step d who l ps)

-- only the positions with the opening words, where they were heard
abbrev pub after_opening : Dialect → Side → Option Said → List Pos → List Pos
after_opening d who None ps = ps
after_opening d who (Some w) ps = step d who (Opens w) ps
