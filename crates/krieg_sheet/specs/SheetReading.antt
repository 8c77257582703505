-- The sheet that a text spells, line by line.
use Rattle.std.specs.Prelude.{ℕ, ◌==◌, Bool, ◌&&◌, List, codes, Option, Some, None, is_none, length, Result, Ok, Err, if◌then◌else◌}
use Rattle.std.specs.Str.{bytes_eq}
use Rattle.krieg_text.specs.declared.fault.TextKind.{TextKind}
use Rattle.krieg_fen.specs.declared.forms.Turn.TheVariants.{Either}
use Rattle.krieg_text.specs.declared.fault.TextKind.TheVariants.{Syntax, OutOfPlace}
use Rattle.krieg_text.specs.Outcomes.{◌>>=◌}
use Rattle.krieg_text.specs.Reading.{LineReader, Step, goes_on, stops, up_to_last}
use Rattle.krieg_fen.specs.Forms.{listing_at}
use Rattle.krieg_words.specs.Words.{Said}
use Rattle.krieg_wordtext.specs.LineReading.{line_in}
use Rattle.krieg_words.specs.declared.dialects.Dialect.{Dialect}
use Rattle.krieg_wordtext.specs.Versions.{version_at}
use Rattle.krieg_wordtext.specs.declared.line.Line.{Line}
use Rattle.krieg_wordtext.specs.declared.line.Line.TheVariants.{Opens}
use Rattle.krieg_sheet.specs.Sheets.{SheetState, new_sheet, entered}
use Rattle.krieg_sheet.specs.Turns.{is_in_place}

-- the format's name with one of its two versions, and the dialect
unfoldable pub sheet_version_at : LineReader Dialect
sheet_version_at p = version_at (codes "krieg sheet ") p

-- opening words stand right after the list, once
abbrev pub may_open : SheetState → Bool
may_open s = is_none s.opens && length s.entries == 0

-- which line of a text may stand after those that were read
abbrev pub may_follow : SheetState → Line → Bool
may_follow s (Opens w) = may_open s
may_follow s l = is_in_place s l

-- the sheet with its opening words
abbrev pub with_opening : SheetState → Said → SheetState
with_opening s w = record { dialect = s.dialect; side = s.side; list = s.list; opens = Some w; entries = s.entries }

-- the sheet with one line more
abbrev pub followed_by : SheetState → Line → SheetState
followed_by s (Opens w) = with_opening s w
followed_by s l = entered s l

-- a line that the dialect does not have is syntax, and one that may not stand there is out of place
abbrev pub placed : SheetState → Option Line → Result (Option Line) TextKind
placed s None = Err Syntax
placed s (Some l) = if may_follow s l then Ok (Some l) else Err OutOfPlace

-- `end`, or a line that may follow
unfoldable pub next_form : SheetState → List ℕ → Result (Option Line) TextKind
next_form s text = if bytes_eq text (codes "end") then Ok None else placed s (line_in s.dialect text)

-- the sheet is whole, or goes on with the line
abbrev pub led : SheetState → Option Line → Step SheetState SheetState
led s None = stops s
led s (Some l) = goes_on (followed_by s l)

-- the form of a line after the list
abbrev pub entry_form : SheetState → List ℕ → Result (Step SheetState SheetState) TextKind
entry_form s text = next_form s text >>= λ l. Ok (led s l)

-- opening words and entries, up to `end`
abbrev pub entries_at : SheetState → LineReader SheetState
entries_at s p = up_to_last entry_form s p.number p.left

-- the places of a sheet in their order: version and dialect, side and listed positions, lines, `end`
unfoldable pub sheet_at : LineReader SheetState
sheet_at p = do
  dialect ← sheet_version_at p
  listing ← listing_at Either dialect.1
  entries_at (new_sheet dialect.0 listing.0.0 listing.0.1 None) listing.1
