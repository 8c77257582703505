-- Which lines spell a sheet: the table of the format, without a reader.
use Rattle.std.specs.Prelude.{◌≡◌, ℕ, List, [], ◌∷◌, ◌++◌, codes, map, Some}
use Rattle.krieg_fen.specs.declared.forms.Turn.TheVariants.{Either}
use Rattle.krieg_text.specs.Languages.{Language, One, Many, Any, ◌⨾◌}
use Rattle.krieg_fen.specs.Listing.{SpellsListing, ListingGrammar}
use Rattle.krieg_wordtext.specs.Line.{line_text}
use Rattle.krieg_wordtext.specs.LineReading.{line_in}
use Rattle.krieg_wordtext.specs.Versions.{SpellVersion}
use Rattle.krieg_wordtext.specs.declared.line.Line.{Line}
use Rattle.krieg_sheet.specs.Sheets.{SheetState}
use Rattle.krieg_sheet.specs.SheetText.{opens_lines}

-- after the positions: opening words where there are any, the entries, and `end`
abbrev pub told_lines : SheetState → List (List ℕ)
told_lines s = opens_lines s.dialect s.opens ++ (map (line_text s.dialect) s.entries ++ (codes "end" ∷ []))

-- Version and dialect, side and listed positions, and what was told: only the version of wild16 and the positions
-- have more than one spelling.
abbrev pub SpellsSheet : SheetState → Language
SpellsSheet s =
    (λ ls. SpellVersion (codes "krieg sheet ") ls s.dialect)
    ⨾ (λ ls. SpellsListing Either ls s.side s.list)
    ⨾ (λ ls. ls ≡ told_lines s)

-- The grammar: the version and the dialect, the side and the texts of positions, lines of the dialect, in place or not, and `end`.
abbrev pub SheetGrammar : Language
SheetGrammar =
    Any (λ d.
    (λ ls. SpellVersion (codes "krieg sheet ") ls d)
    ⨾ ListingGrammar
    ⨾ Many (λ l. (line : Line) × (line_in d l ≡ Some line))
    ⨾ One (λ l. l ≡ codes "end"))
