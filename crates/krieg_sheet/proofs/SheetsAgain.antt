-- What spells a sheet is read as that sheet, and a written sheet spells itself.
use Rattle.std.proofs.Common.{◌≡◌, inl, ℕ, ◌+◌, Bool, true, false, cond, List, [], ◌∷◌, ◌++◌, map, length, Option, Some, None, Result, Ok, Err, refl, sym, ap, subst, ◌∙◌, append_assoc, arith}
use Rattle.std.specs.Prelude.{codes}
use Rattle.std.specs.Str.{bytes_eq}
use Rattle.std.specs.List.{All}
use Rattle.std.proofs.lemmas.Bool.{and_parts}
use Rattle.std.proofs.lemmas.List.{append-nil}
use Rattle.std.proofs.lemmas.List.Elements.{All-tail}
use Rattle.krieg_sheet.proofs.Common.{is_same_side, Pos, Side, TextFault, OutOfPlace, ◌>>=◌, position_text, lines, Place, place, whole, Either, listing_at, list_head, Said, line_text, line_in, Dialect, Line, Opens, Illegal, Done, Heard, Early, Over, version_lines, SheetState, new_sheet, entered, first_turn, over_at_first, turn_after, over_after, may_stand, are_in_place, turn_of, is_over, is_in_place, OpeningFits, IsOpening, IsTold, IsSheet, may_follow, followed_by, placed, next_form, entries_at, sheet_at, sheet_version_at, opens_lines, sheet_text, told_lines, SpellsSheet}
use Rattle.krieg_fen.proofs.Listings.{listing_reads}
use Rattle.krieg_text.proofs.Takings.{Read, read_whole, taken_again}
use Rattle.krieg_text.proofs.LineTexts.{lines_again}
use Rattle.krieg_wordtext.proofs.VersionSpellings.{version_reads}
use Rattle.krieg_wordtext.proofs.LineLaws.{line_again}
use Rattle.krieg_sheet.proofs.Entering.{turn_behind_push, over_behind_push}
use Rattle.krieg_sheet.proofs.Entries.{entries_last, entries_more}
use Rattle.krieg_sheet.proofs.CleanLines.{sheet_are}
use Rattle.krieg_sheet.proofs.ListedPositions.{list_size, list_written}
use Rattle.krieg_sheet.proofs.SheetTexts.{text_is, written_lines}

-- the lines after the list

not_end : (d : Dialect) (l : Line) → bytes_eq (line_text d l) (codes "end") ≡ false
unfolding line_text
not_end d (Opens w) = refl
not_end d (Illegal m) = refl
not_end d (Done m w) = refl
not_end d (Heard w) = refl
not_end d (Early m) = refl
not_end d (Over m) = refl

next_again : (s : SheetState) (l : Line) → IsTold s.dialect l → may_follow s l ≡ true → Ok (Some l) ≡ next_form s (line_text s.dialect l)
unfolding next_form
next_again s l told may =
    sym (ap (λ (t : Bool). cond t (Ok None) (placed s (line_in s.dialect (line_text s.dialect l)))) (not_end s.dialect l)
    ∙ ap (placed s) (line_again s.dialect l told.0 told.1)
    ∙ ap (λ (t : Bool). cond t (Ok (Some l)) (Err OutOfPlace)) may)

may_by : (s : SheetState) (l : Line) → is_in_place s l ≡ true → may_follow s l ≡ true
may_by s (Opens w) h = absurd cc
may_by s (Illegal m) h = h
may_by s (Done m w) h = h
may_by s (Heard w) h = h
may_by s (Early m) h = h
may_by s (Over m) h = h

followed_is : (s : SheetState) (l : Line) → is_in_place s l ≡ true → followed_by s l ≡ entered s l
followed_is s (Opens w) h = absurd cc
followed_is s (Illegal m) h = refl
followed_is s (Done m w) h = refl
followed_is s (Heard w) h = refl
followed_is s (Early m) h = refl
followed_is s (Over m) h = refl

abbrev with_more : SheetState → List Line → SheetState
with_more s ls = record { dialect = s.dialect; side = s.side; list = s.list; opens = s.opens; entries = ls }

end_again : (s : SheetState) → Ok None ≡ next_form s (codes "end")
unfolding next_form
end_again s = refl

entries_on : (s : SheetState) (n : ℕ) (t : List ℕ) (rest : List (List ℕ)) (l : Line) → Ok (Some l) ≡ next_form s t → entries_at s (place n (t ∷ rest)) ≡ entries_at (followed_by s l) (place (n + 1) rest)
entries_on s n t rest l is =
    sym (entries_more s (place n (t ∷ rest)) (place (n + 1) rest) l (entries_at s (place n (t ∷ rest))) (taken_again (next_form s) n t rest (Some l) (sym is)) refl)

entries_again : (ls : List Line) (s : SheetState) (n : ℕ) → All (IsTold s.dialect) ls → are_in_place s.side (turn_of s) (is_over s) ls ≡ true →
    Read (entries_at s (place n (map (line_text s.dialect) ls ++ (codes "end" ∷ [])))) (with_more s (s.entries ++ ls)) []
entries_again [] s n told stand = record {
  number = n + 1;
  is = entries_last s (place n (codes "end" ∷ [])) (place (n + 1) []) (entries_at s (place n (codes "end" ∷ []))) (taken_again (next_form s) n (codes "end") [] None (sym (end_again s))) refl ∙ ap (λ (ls : List Line). Ok (with_more s ls, place (n + 1) [])) (sym (append-nil s.entries));
}
entries_again (l ∷ ls) s n told stand =
    let p = and_parts (may_stand (is_same_side (turn_of s) s.side) (is_over s) l) (are_in_place s.side (turn_after (turn_of s) l) (over_after (is_over s) l) ls) stand in
    let turn = turn_behind_push (first_turn s.list) s.entries l in
    let over = over_behind_push (over_at_first s.opens) s.entries l in
    let later : are_in_place s.side (turn_of (entered s l)) (is_over (entered s l)) ls ≡ true =
    ap (λ (t : Side). are_in_place s.side t (is_over (entered s l)) ls) turn ∙ ap (λ (o : Bool). are_in_place s.side (turn_after (turn_of s) l) o ls) over ∙ p.1 in
    let more = entries_again ls (entered s l) (n + 1) (All-tail (IsTold s.dialect) l ls told) later in
    let rest = map (line_text s.dialect) ls ++ (codes "end" ∷ []) in
    record {
      number = more.number;
      is = entries_on s n (line_text s.dialect l) rest l (next_again s l (told 0 l (omega arith)) (may_by s l p.0))
          ∙ ap (λ (t : SheetState). entries_at t (place (n + 1) rest)) (followed_is s l p.0)
          ∙ more.is ∙ ap (λ (es : List Line). Ok (with_more s es, place more.number [])) (append_assoc s.entries (l ∷ []) ls);
    }

body_again : (d : Dialect) (who : Side) (list : List Pos) (opens : Option Said) (ls : List Line) (n : ℕ) → OpeningFits d opens → IsOpening opens → All (IsTold d) ls →
    are_in_place who (first_turn list) (over_at_first opens) ls ≡ true →
    Read (entries_at (new_sheet d who list None) (place n (opens_lines d opens ++ (map (line_text d) ls ++ (codes "end" ∷ []))))) (record { dialect = d; side = who; list = list; opens = opens; entries = ls }) []
body_again d who list None ls n fits is told stand = entries_again ls (new_sheet d who list None) n told stand
body_again d who list (Some w) ls n fits is told stand =
    let more = entries_again ls (new_sheet d who list (Some w)) (n + 1) told stand in
    let rest = map (line_text d) ls ++ (codes "end" ∷ []) in
    record {
      number = more.number;
      is = entries_on (new_sheet d who list None) n (line_text d (Opens w)) rest (Opens w) (next_again (new_sheet d who list None) (Opens w) (is, ap Opens fits) refl) ∙ more.is;
    }

-- the lines before the list

abbrev behind_listing : Dialect → (Side × List Pos) × Place → Result (SheetState × Place) TextFault
behind_listing d listing = entries_at (new_sheet d listing.0.0 listing.0.1 None) listing.1

abbrev behind_dialect : Dialect × Place → Result (SheetState × Place) TextFault
behind_dialect d = listing_at Either d.1 >>= behind_listing d.0

all_again : (ls : List (List ℕ)) (s : SheetState) → IsSheet s → SpellsSheet s ls → Read (sheet_at (place 1 ls)) s []
unfolding sheet_at sheet_version_at
all_again ls s h spelled =
    let v = version_reads (codes "krieg sheet ") spelled.front s.dialect 1 (spelled.second.front ++ told_lines s) spelled.first in
    let listed = listing_reads Either spelled.second.front s.side s.list v.number (told_lines s) spelled.second.first in
    let body = body_again s.dialect s.side s.list s.opens s.entries listed.number h.fits h.opening h.told h.in_place in
    record {
      number = body.number;
      is = ap (λ (ls : List (List ℕ)). sheet_at (place 1 ls)) (spelled.is ∙ ap (λ (ls : List (List ℕ)). spelled.front ++ ls) (spelled.second.is ∙ ap (λ (ls : List (List ℕ)). spelled.second.front ++ ls) spelled.second.second))
          ∙ ap (λ (r : Result (Dialect × Place) TextFault). r >>= behind_dialect) v.is
          ∙ ap (λ (r : Result ((Side × List Pos) × Place) TextFault). r >>= behind_listing s.dialect) listed.is
          ∙ body.is;
    }

-- what spells a sheet is read as that sheet
pub spelled_again : (ls : List (List ℕ)) (s : SheetState) → IsSheet s → SpellsSheet s ls → whole sheet_at ls ≡ Ok s
spelled_again ls s h spelled = read_whole sheet_at ls s (all_again ls s h spelled)

-- the written lines of a sheet spell it
pub lines_spell : (s : SheetState) → IsSheet s → SpellsSheet s (written_lines s)
lines_spell s h = record {
  front = version_lines (codes "krieg sheet ") s.dialect;
  back = (list_head s.side (length s.list) ++ map position_text s.list) ++ told_lines s;
  is = refl;
  first = inl refl;
  second = record { front = list_head s.side (length s.list) ++ map position_text s.list; back = told_lines s; is = refl; first = list_written s.side s.list h.listed h.valid; second = refl };
}

-- the written text of a sheet spells it
pub text_spells : (s : SheetState) → IsSheet s → SpellsSheet s (lines (sheet_text s))
text_spells s h =
    subst (SpellsSheet s)
    (sym (ap lines (text_is s) ∙ lines_again (written_lines s) (sheet_are s h (list_size s.side s.list h.listed).1)))
    (lines_spell s h)

pub sheet_again : (s : SheetState) → IsSheet s → whole sheet_at (lines (sheet_text s)) ≡ Ok s
sheet_again s h = spelled_again (lines (sheet_text s)) s h (text_spells s h)

pub ruleset again = (text_spells, sheet_again)
