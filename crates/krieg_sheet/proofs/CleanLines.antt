-- Which lines of a sheet are written: none has a line feed.
use Rattle.std.proofs.Common.{◌≡◌, ◌≤◌, true, List, [], ◌∷◌, map, length, Option, Some, None, refl, arith}
use Rattle.std.specs.Prelude.{codes}
use Rattle.std.specs.List.{All}
use Rattle.std.proofs.lemmas.List.Elements.{All-tail}
use Rattle.krieg_sheet.proofs.Common.{MOST_LISTED, is_line, AreLines, position_text, list_head, Dialect, Line, Opens, Said, line_text, IsLine, version_lines, SheetState, IsTold, IsOpening, IsSheet, opens_lines}
use Rattle.krieg_text.proofs.LineTexts.{line_above, lines_append}
use Rattle.krieg_fen.proofs.CleanTexts.{positions_are, list_head_are}
use Rattle.krieg_wordtext.proofs.CleanWords as words
use Rattle.krieg_wordtext.proofs.VersionTexts.{version_are}
use Rattle.krieg_sheet.proofs.SheetTexts.{written_lines}

line_line : (d : Dialect) (l : Line) → IsLine l → is_line (line_text d l) ≡ true
line_line d l is = line_above 31 (line_text d l) (omega arith) (words.line_above d l is)

entries_lines : (d : Dialect) (ls : List Line) → All (IsTold d) ls → AreLines (map (line_text d) ls)
entries_lines d [] all = tt
entries_lines d (l ∷ ls) all = (line_line d l (all 0 l (omega arith)).0, entries_lines d ls (All-tail (IsTold d) l ls all))

opens_are : (d : Dialect) (opens : Option Said) → IsOpening opens → AreLines (opens_lines d opens)
opens_are d None is = tt
opens_are d (Some w) is = (line_line d (Opens w) is, tt)

-- every line of a written sheet
pub sheet_are : (s : SheetState) → IsSheet s → length s.list ≤ MOST_LISTED → AreLines (written_lines s)
sheet_are s h le =
    lines_append (version_lines (codes "krieg sheet ") s.dialect) _ (version_are (codes "krieg sheet ") s.dialect refl)
    (lines_append (list_head s.side (length s.list)) _ (list_head_are s.side (length s.list) (omega arith))
    (lines_append (map position_text s.list) _ (positions_are s.list)
    (lines_append (opens_lines s.dialect s.opens) _ (opens_are s.dialect s.opens h.opening)
    (lines_append (map (line_text s.dialect) s.entries) (codes "end" ∷ []) (entries_lines s.dialect s.entries h.told) (refl, tt)))))
