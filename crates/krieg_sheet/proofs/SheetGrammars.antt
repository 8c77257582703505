-- The reader of sheets keeps to the grammar of sheets, and so keeps the promises of a reader.
use Rattle.std.proofs.Common.{◌≡◌, inl, inr, ℕ, Bool, true, false, cond, List, Option, Some, None, Result, Ok, Err, refl, sym, ap, subst, ◌∙◌}
use Rattle.std.specs.Prelude.{codes}
use Rattle.std.specs.Str.{bytes_eq}
use Rattle.std.proofs.lemmas.Slice.Eq.{bytes_eq-Decides}
use Rattle.krieg_sheet.proofs.Common.{TextFault, TextKind, OutOfPlace, Either, behind, ◌>>=◌, Always, IsReading, listing_at, One, Many, ◌⨾◌, ListingGrammar, Step, goes_on, stops, whole, line_in, SpellVersion, version_at, Dialect, Line, Opens, Illegal, Done, Heard, Early, Over, IsSheet, may_follow, followed_by, placed, next_form, led, entry_form, sheet_at, sheet_version_at, SpellsSheet, SheetGrammar, SheetState, new_sheet}
use Rattle.krieg_text.specs.Reading.{Gives}
use Rattle.krieg_text.proofs.Formats.{reading_by}
use Rattle.krieg_text.proofs.Grammars.{untold, KeepsTo, bind_keeps, then_keeps}
use Rattle.krieg_fen.proofs.ListGrammars.{listing_keeps}
use Rattle.krieg_text.proofs.LoopGrammars.{Goes, HasLoopForm, loop_keeps}
use Rattle.krieg_wordtext.proofs.VersionFormats.{version_keeps}
use Rattle.krieg_sheet.proofs.SheetsAgain.{spelled_again}
use Rattle.krieg_sheet.proofs.SheetsSpell.{sheet_spells}

abbrev IsLineOf : Dialect → List ℕ → Type 0
IsLineOf d l = (line : Line) × (line_in d l ≡ Some line)

same_dialect : (s : SheetState) (line : Line) → (followed_by s line).dialect ≡ s.dialect
same_dialect s (Opens w) = refl
same_dialect s (Illegal m) = refl
same_dialect s (Done m w) = refl
same_dialect s (Heard w) = refl
same_dialect s (Early m) = refl
same_dialect s (Over m) = refl

-- `end` is no line of a dialect
end_is_none : (d : Dialect) → line_in d (codes "end") ≡ None
unfolding line_in behind
end_is_none d = refl

abbrev step_of : SheetState → Result (Option Line) TextKind → Result (Step SheetState SheetState) TextKind
step_of s r = r >>= λ l. Ok (led s l)

-- by whether the line is `end`, and else by the line of the dialect that it is
abbrev by_line : SheetState → Bool → Option Line → Result (Step SheetState SheetState) TextKind
by_line s t o = step_of s (cond t (Ok None) (placed s o))

placed_keeps : (s t : SheetState) (line : Line) (b : Bool) → step_of s (cond b (Ok (Some line)) (Err OutOfPlace)) ≡ Ok (goes_on t) → t.dialect ≡ s.dialect
placed_keeps s t line true e = let same : followed_by s line ≡ t = cc in ap (λ (x : SheetState). x.dialect) (sym same) ∙ same_dialect s line
placed_keeps s t line false e = absurd cc

placed_stops : (s x : SheetState) (line : Line) (b : Bool) → step_of s (cond b (Ok (Some line)) (Err OutOfPlace)) ≡ Ok (stops x) → ⊥
placed_stops s x line true e = absurd cc
placed_stops s x line false e = absurd cc

placed_goes : (s : SheetState) (line : Line) (b : Bool) → Goes (step_of s (cond b (Ok (Some line)) (Err OutOfPlace)))
placed_goes s line true = inl (followed_by s line, refl)
placed_goes s line false = inr (OutOfPlace, refl, refl)

entries_form : (d : Dialect) → HasLoopForm entry_form (λ s. s.dialect ≡ d) Always (IsLineOf d) (λ l. l ≡ codes "end")
unfolding next_form
entries_form d = record {
  keeps = λ s t l i e. keeps s t l i (bytes_eq l (codes "end")) (line_in s.dialect l) refl e;
  ends = λ s x l i e. (tt, ends s x l (bytes_eq l (codes "end")) (bytes_eq-Decides l (codes "end")).0 (line_in s.dialect l) e);
  item = λ s l i f. item s l i f.0 f.1 (bytes_eq l (codes "end")) (bytes_eq-Decides l (codes "end")).0;
  last = λ s l i f. (s, ap (λ (k : List ℕ). entry_form s k) f);
  some = (codes "end", refl);
}
  where
    keeps : (s t : SheetState) (l : List ℕ) → s.dialect ≡ d → (b : Bool) (o : Option Line) → line_in s.dialect l ≡ o → by_line s b o ≡ Ok (goes_on t) → (t.dialect ≡ d) × IsLineOf d l
    keeps s t l i true o is e = absurd cc
    keeps s t l i false None is e = absurd cc
    keeps s t l i false (Some line) is e = (placed_keeps s t line (may_follow s line) e ∙ i, (line, ap (λ (x : Dialect). line_in x l) (sym i) ∙ is))

    ends : (s x : SheetState) (l : List ℕ) (b : Bool) → (b ≡ true → l ≡ codes "end") → (o : Option Line) → by_line s b o ≡ Ok (stops x) → l ≡ codes "end"
    ends s x l true is o e = is refl
    ends s x l false is None e = absurd cc
    ends s x l false is (Some line) e = absurd (placed_stops s x line (may_follow s line) e)

    item : (s : SheetState) (l : List ℕ) → s.dialect ≡ d → (line : Line) → line_in d l ≡ Some line → (b : Bool) → (b ≡ true → l ≡ codes "end") → Goes (by_line s b (line_in s.dialect l))
    item s l i line is true end = let none : Some line ≡ None = sym is ∙ ap (line_in d) (end refl) ∙ end_is_none d in absurd cc
    item s l i line is false end = subst (λ (o : Option Line). Goes (by_line s false o)) (sym (ap (λ (x : Dialect). line_in x l) i ∙ is)) (placed_goes s line (may_follow s line))

pub sheet_keeps : KeepsTo sheet_at Always untold (λ u. SheetGrammar)
unfolding sheet_at sheet_version_at
sheet_keeps =
    bind_keeps (version_at (codes "krieg sheet ")) _ Always (λ d. d) (λ d ls. SpellVersion (codes "krieg sheet ") ls d) Always untold (λ d u. ListingGrammar ⨾ Many (IsLineOf d) ⨾ One (λ l. l ≡ codes "end"))
    (version_keeps (codes "krieg sheet "))
    (λ d h. then_keeps (listing_at Either) _ Always ListingGrammar Always untold (λ u. Many (IsLineOf d) ⨾ One (λ l. l ≡ codes "end")) (listing_keeps Either)
    (λ x k. loop_keeps entry_form (λ s. s.dialect ≡ d) Always (IsLineOf d) (λ l. l ≡ codes "end") (entries_form d) (new_sheet d x.0 x.1 None) refl))

pub sheet_reading : (answer : Result SheetState TextFault) (ls : List (List ℕ)) → Gives (λ s. s) answer (whole sheet_at ls) → IsReading (λ s. s) sheet_at IsSheet SpellsSheet SheetGrammar ls answer
sheet_reading answer ls given = reading_by (λ s. s) answer sheet_at IsSheet SpellsSheet Always SheetGrammar sheet_spells spelled_again sheet_keeps ls given

pub ruleset reading = (sheet_reading)
