-- Which lines spell a record: the table of the format, without a reader, and its grammar.
use Rattle.std.specs.Prelude.{◌≡◌, ℕ, List, [], ◌++◌, codes}
use Rattle.krieg_board.specs.Pos.{Pos}
use Rattle.krieg_board.specs.declared.men.Side.{Side}
use Rattle.krieg_board.specs.declared.men.Move.{Move}
use Rattle.krieg_text.specs.FirstBad.{Has}
use Rattle.krieg_text.specs.Languages.{Language, One, Many, Behind, UpToLast, ◌⨾◌}
use Rattle.krieg_fen.specs.Spelling.{Spells}
use Rattle.krieg_record.specs.Matching.{IsOfForm, IsOnly}
use Rattle.krieg_record.specs.Records.{RecordState, after_all}
use Rattle.krieg_fen.specs.Forms.{start_form, side_mark}

-- the mark of the side to move, and a text that means this move alone
pub record SpellsMove (p : Pos) (line : List ℕ) (m : Move) : Type 0 where
  pub text : List ℕ
  pub is : line ≡ side_mark p.side ++ text
  pub only : IsOnly p text m

-- a line for each move, where the moves before it have been made, and the last line
abbrev pub SpellsMoves : Pos → List Move → Language
SpellsMoves start moves ls = UpToLast (λ before line m. SpellsMove (after_all start before) line m) (λ before line (u : Unit {0}). line ≡ codes "end") [] moves tt ls

-- the version, the start, the moves
abbrev pub SpellsRecord : RecordState → Language
SpellsRecord r =
    One (λ line. line ≡ codes "krieg record 1")
    ⨾ One (Behind (codes "start ") (λ text. Spells text r.start))
    ⨾ SpellsMoves r.start r.moves

-- a side's mark, and a text of the form
pub record IsMoveLine (line : List ℕ) : Type 0 where
  pub who : Side
  pub text : List ℕ
  pub is : line ≡ side_mark who ++ text
  pub form : IsOfForm text

-- The grammar: the version, the start, valid or not, moves, known or not, and the last line.
abbrev pub RecordGrammar : Language
RecordGrammar =
    One (λ line. line ≡ codes "krieg record 1")
    ⨾ One (Has start_form)
    ⨾ Many IsMoveLine
    ⨾ One (λ line. line ≡ codes "end")
