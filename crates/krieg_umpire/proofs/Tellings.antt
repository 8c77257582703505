-- What the umpire writes line by line is the text of a player's sheet, and of all lines.
use Rattle.std.proofs.Common.{◌≡◌, ℕ, List, [], ◌∷◌, ◌++◌, map, Option, Some, None, Result, refl, ap, subst, ◌∙◌}
use Rattle.std.specs.Prelude.{IfSome}
use Rattle.std.specs.List.{flat_map}
use Rattle.std.proofs.lemmas.List.{map-append, append-nil}
use Rattle.std.proofs.lemmas.List.Elements.{filter_map-append}
use Rattle.std.proofs.lemmas.Grind.{flat_map-append}
use Rattle.krieg_umpire.proofs.Common.{Pos, Side, Appends, opening, told, told_line, Dialect, Line, Event, Judged, next, judge, judged, last, line_for, lines_for, strip, entry_line, sheet_text, heard_lines, both_lines, marked_line, umpire_text}
use Rattle.krieg_wordtext.proofs.ToldLines.{told_line_fits}
use Rattle.krieg_umpire.proofs.Stripping.{lines_strip}

pub ruleset fitting = (told_line_fits)

-- one judged try more
pub heard_more : (d : Dialect) (who : Side) (log : List Judged) (j : Judged) → heard_lines d who (log ++ j ∷ []) ≡ heard_lines d who log ++ heard_lines d who (j ∷ [])
unfolding heard_lines
heard_more d who log j =
    ap (λ (ls : List Line). map (entry_line d) (map (told_line d) ls)) (filter_map-append (line_for who) log (j ∷ []))
    ∙ ap (map (entry_line d)) (map-append (told_line d) (lines_for who log) (lines_for who (j ∷ [])))
    ∙ map-append (entry_line d) (map (told_line d) (lines_for who log)) (map (told_line d) (lines_for who (j ∷ [])))

pub heard_is : (d : Dialect) (who : Side) (log : List Judged) → heard_lines d who log ≡ map (entry_line d) (map (told_line d) (lines_for who log))
unfolding heard_lines
heard_is d who log = refl

pub told_more : (d : Dialect) (log : List Judged) (j : Judged) → map (marked_line d) (flat_map (both_lines d) (log ++ j ∷ []))
    ≡ map (marked_line d) (flat_map (both_lines d) log) ++ map (marked_line d) (both_lines d j)
told_more d log j =
    ap (map (marked_line d)) (flat_map-append (both_lines d) log (j ∷ []) ∙ ap (λ (ls : List (Side × Line)). flat_map (both_lines d) log ++ ls) (append-nil (both_lines d j)))
    ∙ map-append (marked_line d) (flat_map (both_lines d) log) (both_lines d j)

-- one try more
pub judge_more : (p : Pos) (es : List Event) (e : Event) → judge p (es ++ e ∷ []) ≡ judge p es ++ judged (last p es) e ∷ []
judge_more p [] e = refl
judge_more p (x ∷ es) e = ap (λ (log : List Judged). judged p x ∷ log) (judge_more (next p x.who x.mv) es e)

pub last_more : (p : Pos) (es : List Event) (e : Event) → last p (es ++ e ∷ []) ≡ next (last p es) e.who e.mv
last_more p [] e = refl
last_more p (x ∷ es) e = last_more (next p x.who x.mv) es e

pub ruleset logs = (heard_more, heard_is, told_more, judge_more, last_more, map-append)

-- the sheet of the tries without the other player's that are not done
pub writes_stripped : {E : Type 0} (r : Result (Unit {0}) E) (old new : List ℕ) (d : Dialect) (p : Pos) (events : List Event) (who : Option Side) → Appends r old new (umpire_text d p events who) →
    IfSome who (λ w. Appends r old new (umpire_text d p (strip p events w) who))
writes_stripped r old new d p events None h = tt
writes_stripped r old new d p events (Some who) h =
    subst (λ (ls : List Line). Appends r old new (sheet_text (record { dialect = d; side = who; list = p ∷ []; opens = Some (told d (opening p)); entries = map (told_line d) ls }))) (lines_strip p events who) h

pub ruleset stripping = (writes_stripped)
