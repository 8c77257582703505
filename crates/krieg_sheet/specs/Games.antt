-- The hidden games that a sheet leaves open, and the positions that its player must reckon with.
use Rattle.std.specs.Prelude.{◌≡◌, true, false, List, [], ◌∷◌, Option, Some, None}
use Rattle.std.specs.List.{Contains}
use Rattle.krieg_board.specs.Men.{is_same_side}
use Rattle.krieg_board.specs.Pos.{Pos}
use Rattle.krieg_board.specs.declared.men.Side.{Side}
use Rattle.krieg_board.specs.declared.men.Move.{Move}
use Rattle.krieg_moves.specs.Legal.{is_legal}
use Rattle.krieg_moves.specs.After.{after}
use Rattle.krieg_moves.specs.Moves.{is_ended}
use Rattle.krieg_words.specs.Words.{Said}
use Rattle.krieg_words.specs.WordsOfMoves.{words, opening}
use Rattle.krieg_words.specs.ToldWords.{told}
use Rattle.krieg_words.specs.declared.dialects.Dialect.{Dialect}
use Rattle.krieg_wordtext.specs.declared.line.Line.{Line}
use Rattle.krieg_wordtext.specs.declared.line.Line.TheVariants.{Opens, Illegal, Done, Heard, Early, Over}
use Rattle.krieg_sheet.specs.Sheets.{SheetState}

-- A hidden game from p gives the entries to the side who, the opponent's moves in it are rs, and it ends in q.
-- Each entry says what holds of the position before it, and the game goes on from there or from the position after the move.
abbrev pub Gives : Dialect → Pos → List Line → Side → List Move → Pos → Type 0
Gives d p [] who rs q = (rs ≡ []) × (q ≡ p)
Gives d p (Illegal m ∷ ls) who rs q = (is_ended p ≡ false) × (is_same_side p.side who ≡ true) × (is_legal p m ≡ false) × Gives d p ls who rs q
Gives d p (Done m w ∷ ls) who rs q = (is_same_side p.side who ≡ true) × (is_legal p m ≡ true) × (w ≡ told d (words p m)) × Gives d (after p m) ls who rs q
Gives d p (Early m ∷ ls) who rs q = (is_ended p ≡ false) × (is_same_side p.side who ≡ false) × Gives d p ls who rs q
Gives d p (Over m ∷ ls) who rs q = (is_ended p ≡ true) × Gives d p ls who rs q
Gives d p (Heard w ∷ ls) who [] q = ⊥
Gives d p (Heard w ∷ ls) who (r ∷ rs) q = (is_same_side p.side who ≡ false) × (is_legal p r ≡ true) × (w ≡ told d (words p r)) × Gives d (after p r) ls who rs q
Gives d p (Opens w ∷ ls) who rs q = ⊥

-- the opening words, where the player heard them, are those of p
abbrev pub OpensWith : Dialect → Option Said → Pos → Type 0
OpensWith d None p = Unit {0}
OpensWith d (Some w) p = told d (opening p) ≡ w

-- q is consistent with the sheet: some hidden game from a listed position gives what the sheet says, and ends in q
pub record IsConsistent (s : SheetState) (q : Pos) : Type 0 where
  pub start : Pos
  pub replies : List Move
  pub is_listed : Contains s.list start
  pub opens : OpensWith s.dialect s.opens start
  pub gives : Gives s.dialect start s.entries s.side replies q
