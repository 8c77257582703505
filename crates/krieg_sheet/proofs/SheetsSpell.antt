-- What is read as a sheet is spelled so.
use Rattle.std.proofs.Common.{◌≡◌, ℕ, ◌+◌, Bool, true, false, cond, eqb, List, [], ◌∷◌, ◌++◌, map, length, Option, Some, None, Result, Ok, Err, refl, sym, ap, subst, ◌∙◌, append_assoc, arith, length-append}
use Rattle.std.proofs.Math.Bool.{and-false}
use Rattle.std.specs.Prelude.{codes, ◌&&◌, is_none}
use Rattle.std.specs.Str.{bytes_eq}
use Rattle.std.proofs.lemmas.Bool.{ne_eqb}
use Rattle.std.proofs.lemmas.List.{append-nil}
use Rattle.std.proofs.lemmas.Slice.Eq.{bytes_eq-Decides}
use Rattle.krieg_sheet.proofs.Common.{Pos, Side, TextFault, TextKind, OutOfPlace, ◌>>=◌, Place, place, on, goes_on, stops, whole, Either, listing_at, SpellsListing, Said, line_text, line_in, SpellVersion, version_at, Dialect, Line, Opens, Illegal, Done, Heard, Early, Over, SheetState, new_sheet, entered, may_open, may_follow, with_opening, followed_by, placed, next_form, led, entries_at, sheet_at, sheet_version_at, opens_lines, SpellsSheet}
use Rattle.krieg_text.proofs.Locality.{ok_is}
use Rattle.krieg_fen.proofs.Listings.{listing_spells}
use Rattle.krieg_text.proofs.Takings.{steps, whole_read}
use Rattle.krieg_wordtext.proofs.LineLaws.{line_spells}
use Rattle.krieg_wordtext.proofs.VersionSpellings.{version_spells}

-- the lines after the positions
abbrev NextIs : SheetState → List ℕ → Option Line → Type 0
NextIs s l None = l ≡ codes "end"
NextIs s l (Some line) = (l ≡ line_text s.dialect line) × (may_follow s line ≡ true)

next_is : (s : SheetState) (l : List ℕ) (o : Option Line) → next_form s l ≡ Ok o → NextIs s l o
unfolding next_form
next_is s l o e = go (bytes_eq l (codes "end")) (bytes_eq-Decides l (codes "end")).0 (line_in s.dialect l) refl e
  where
    by_place : (line : Line) → line_in s.dialect l ≡ Some line → (t : Bool) → may_follow s line ≡ t → cond t (Ok (Some line)) (Err OutOfPlace) ≡ Ok o → NextIs s l o
    by_place line is true may h = let same : Some line ≡ o = cc in subst (NextIs s l) same ((line_spells s.dialect l line is).2, may)
    by_place line is false may h = absurd cc

    go : (t : Bool) → (t ≡ true → l ≡ codes "end") → (x : Option Line) → line_in s.dialect l ≡ x → cond t (Ok None) (placed s x) ≡ Ok o → NextIs s l o
    go true w x is h = let same : None ≡ o = cc in subst (NextIs s l) same (w refl)
    go false w None is h = absurd cc
    go false w (Some line) is h = by_place line is (may_follow s line) refl h

abbrev with_more : SheetState → List Line → SheetState
with_more s ls = record { dialect = s.dialect; side = s.side; list = s.list; opens = s.opens; entries = ls }

abbrev behind_next : SheetState → ℕ → List (List ℕ) → Result (Option Line) TextKind → Result (SheetState × Place) TextFault
behind_next s n ls r = on n (r >>= λ l. Ok (led s l)) >>= λ step. elim step [ stops x ↦ Ok (x, place (n + 1) ls) | goes_on next ↦ entries_at next (place (n + 1) ls) ]

no_more : (b : Bool) (xs : List Line) (x : Line) → (b && eqb (length (xs ++ x ∷ [])) 0) ≡ false
no_more b xs x =
    let some : eqb (length (xs ++ x ∷ [])) 0 ≡ false = ne_eqb (length (xs ++ x ∷ [])) 0 (λ e. absurd (omega (arith, e, length-append xs (x ∷ [])))) in
    ap (λ (t : Bool). b && t) some ∙ and-false b

followed_entered : (s : SheetState) (l : Line) → may_open s ≡ false → may_follow s l ≡ true → followed_by s l ≡ entered s l
followed_entered s (Opens w) closed may = absurd cc
followed_entered s (Illegal m) closed may = refl
followed_entered s (Done m w) closed may = refl
followed_entered s (Heard w) closed may = refl
followed_entered s (Early m) closed may = refl
followed_entered s (Over m) closed may = refl

record TailAt (s t : SheetState) (ls : List (List ℕ)) (q : Place) : Type 0 where
  told : List Line
  is : with_more s (s.entries ++ told) ≡ t
  left : ls ≡ map (line_text s.dialect) told ++ (codes "end" ∷ q.left)

tail_more : (s t : SheetState) (line : Line) (l : List ℕ) (ls : List (List ℕ)) (q : Place) → l ≡ line_text s.dialect line → TailAt (entered s line) t ls q → TailAt s t (l ∷ ls) q
tail_more s t line l ls q is more = record {
  told = line ∷ more.told;
  is = ap (with_more s) (sym (append_assoc s.entries (line ∷ []) more.told)) ∙ more.is;
  left = ap (λ (x : List ℕ). x ∷ ls) is ∙ ap (λ (x : List (List ℕ)). line_text s.dialect line ∷ x) more.left;
}

tail_end : (s t : SheetState) (l : List ℕ) (ls : List (List ℕ)) (n : ℕ) (q : Place) → l ≡ codes "end" → ◌≡◌ {A = Result (SheetState × Place) TextFault} (Ok (s, place (n + 1) ls)) (Ok (t, q)) → TailAt s t (l ∷ ls) q
tail_end s t l ls n q is h =
    let same = ok_is {A = SheetState × Place} (s, place (n + 1) ls) (t, q) h in
    record {
      told = [];
      is = ap (with_more s) (append-nil s.entries) ∙ ap (λ (x : SheetState × Place). x.0) same;
      left = ap (λ (x : List ℕ). x ∷ ls) is ∙ ap (λ (x : SheetState × Place). codes "end" ∷ x.1.left) same;
    }

tail_spells : (ls : List (List ℕ)) (s t : SheetState) (n : ℕ) (q : Place) → may_open s ≡ false → entries_at s (place n ls) ≡ Ok (t, q) → TailAt s t ls q
tail_spells [] s t n q closed e = absurd cc
tail_spells (l ∷ ls) s t n q closed e = go (λ next. tail_spells ls next t (n + 1) q) (next_form s l) refl e
  where
    go : ((next : SheetState) → may_open next ≡ false → entries_at next (place (n + 1) ls) ≡ Ok (t, q) → TailAt next t ls q) →
        (r : Result (Option Line) TextKind) → next_form s l ≡ r → behind_next s n ls r ≡ Ok (t, q) → TailAt s t (l ∷ ls) q
    go more (Err kind) is h = absurd cc
    go more (Ok None) is h = tail_end s t l ls n q (next_is s l None is) h
    go more (Ok (Some line)) is h =
        let here = next_is s l (Some line) is in
        tail_more s t line l ls q here.0 (more (entered s line) (no_more (is_none s.opens) s.entries line) (ap (λ (x : SheetState). entries_at x (place (n + 1) ls)) (sym (followed_entered s line closed here.1)) ∙ h))

record BodyAt (d : Dialect) (who : Side) (list : List Pos) (t : SheetState) (ls : List (List ℕ)) (q : Place) : Type 0 where
  opens : Option Said
  told : List Line
  is : ◌≡◌ {A = SheetState} (record { dialect = d; side = who; list = list; opens = opens; entries = told }) t
  left : ls ≡ opens_lines d opens ++ (map (line_text d) told ++ (codes "end" ∷ q.left))

from_tail : (d : Dialect) (who : Side) (list : List Pos) (opens : Option Said) (t : SheetState) (ls : List (List ℕ)) (q : Place) → TailAt (new_sheet d who list opens) t ls q → BodyAt d who list t (opens_lines d opens ++ ls) q
from_tail d who list opens t ls q tail = record { opens = opens; told = tail.told; is = tail.is; left = ap (λ (x : List (List ℕ)). opens_lines d opens ++ x) tail.left }

body_spells : (d : Dialect) (who : Side) (list : List Pos) (ls : List (List ℕ)) (t : SheetState) (n : ℕ) (q : Place) → entries_at (new_sheet d who list None) (place n ls) ≡ Ok (t, q) → BodyAt d who list t ls q
body_spells d who list [] t n q e = absurd cc
body_spells d who list (l ∷ ls) t n q e = go (next_form s l) refl e
  where
    s : SheetState
    s = new_sheet d who list None

    plain : (line : Line) → l ≡ line_text d line → entries_at (entered s line) (place (n + 1) ls) ≡ Ok (t, q) → BodyAt d who list t (l ∷ ls) q
    plain line is h = from_tail d who list None t (l ∷ ls) q (tail_more s t line l ls q is (tail_spells ls (entered s line) t (n + 1) q refl h))

    by_line : (line : Line) → l ≡ line_text d line → entries_at (followed_by s line) (place (n + 1) ls) ≡ Ok (t, q) → BodyAt d who list t (l ∷ ls) q
    by_line (Opens w) is h =
        subst (λ (x : List ℕ). BodyAt d who list t (x ∷ ls) q) (sym is) (from_tail d who list (Some w) t ls q (tail_spells ls (with_opening s w) t (n + 1) q refl h))
    by_line (Illegal m) is h = plain (Illegal m) is h
    by_line (Done m w) is h = plain (Done m w) is h
    by_line (Heard w) is h = plain (Heard w) is h
    by_line (Early m) is h = plain (Early m) is h
    by_line (Over m) is h = plain (Over m) is h

    go : (r : Result (Option Line) TextKind) → next_form s l ≡ r → behind_next s n ls r ≡ Ok (t, q) → BodyAt d who list t (l ∷ ls) q
    go (Err kind) is h = absurd cc
    go (Ok None) is h = from_tail d who list None t (l ∷ ls) q (tail_end s t l ls n q (next_is s l None is) h)
    go (Ok (Some line)) is h = by_line line (next_is s l (Some line) is).0 h

abbrev by_listing : Dialect → (Side × List Pos) × Place → Result (SheetState × Place) TextFault
by_listing d listing = entries_at (new_sheet d listing.0.0 listing.0.1 None) listing.1

abbrev by_dialect : Dialect × Place → Result (SheetState × Place) TextFault
by_dialect d = listing_at Either d.1 >>= by_listing d.0

record AllAt (p q : Place) (t : SheetState) : Type 0 where
  header : List (List ℕ)
  listing : List (List ℕ)
  version : SpellVersion (codes "krieg sheet ") header t.dialect
  listed : SpellsListing Either listing t.side t.list
  left : p.left ≡ header ++ (listing ++ (opens_lines t.dialect t.opens ++ (map (line_text t.dialect) t.entries ++ (codes "end" ∷ q.left))))

all_spell : (p q : Place) (t : SheetState) → sheet_at p ≡ Ok (t, q) → AllAt p q t
unfolding sheet_at sheet_version_at
all_spell p q t e =
    let d = steps (version_at (codes "krieg sheet ") p) by_dialect (t, q) e in
    let listing = steps (listing_at Either d.mid.1) (by_listing d.mid.0) (t, q) d.second in
    let header = version_spells (codes "krieg sheet ") p d.mid.1 d.mid.0 d.first in
    let listed = listing_spells Either d.mid.1 listing.mid.1 listing.mid.0 listing.first in
    let body = body_spells d.mid.0 listing.mid.0.0 listing.mid.0.1 listing.mid.1.left t listing.mid.1.number q listing.second in
    subst (AllAt p q) body.is (record {
      header = header.lines;
      listing = listed.lines;
      version = header.version;
      listed = listed.spelled;
      left = header.left ∙ ap (λ (x : List (List ℕ)). header.lines ++ x) (listed.left ∙ ap (λ (x : List (List ℕ)). listed.lines ++ x) body.left);
    })

-- what is read is spelled so
pub sheet_spells : (ls : List (List ℕ)) (s : SheetState) → whole sheet_at ls ≡ Ok s → SpellsSheet s ls
sheet_spells ls s e =
    let r = whole_read sheet_at ls s e in
    let a = all_spell (place 1 ls) (place r.number []) s r.is in
    record { front = a.header; back = _; is = a.left; first = a.version; second = record { front = a.listing; back = _; is = refl; first = a.listed; second = refl } }
