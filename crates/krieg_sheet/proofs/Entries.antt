-- What one line of a sheet leads to.
use Rattle.std.proofs.Common.{◌≡◌, Option, Some, None, Result, Ok, Err, refl}
use Rattle.krieg_sheet.proofs.Common.{TextFault, Place, taken, GivesOn, Line, SheetState, entry_form, next_form, led, followed_by, entries_at}
use Rattle.krieg_text.proofs.Takings.{loop_stops, loop_goes, loop_refused}

pub entries_bad : {X : Type 0} (view : X → SheetState) (s : SheetState) (from new : Place) (e : TextFault) (all : Result (SheetState × Place) TextFault) →
    GivesOn {X = Option Line} (λ o. o) (Err e) new (taken (next_form s) from) → entries_at s from ≡ all → GivesOn view (Err e) new all
entries_bad view s from new e all given so = loop_refused entry_form (next_form s) s (led s) (λ l. refl) view from new e all given so

pub entries_last : (s : SheetState) (from new : Place) (all : Result (SheetState × Place) TextFault) → taken (next_form s) from ≡ Ok (None, new) → entries_at s from ≡ all → all ≡ Ok (s, new)
entries_last s from new all read so = loop_stops entry_form (next_form s) s (led s) (λ l. refl) from new None s all read refl so

pub entries_more : (s : SheetState) (from new : Place) (line : Line) (all : Result (SheetState × Place) TextFault) → taken (next_form s) from ≡ Ok (Some line, new) → entries_at s from ≡ all →
    entries_at (followed_by s line) new ≡ all
entries_more s from new line all read so = loop_goes entry_form (next_form s) s (led s) (λ l. refl) from new (Some line) (followed_by s line) all read refl so

pub ruleset entries = (entries_last, entries_more)
