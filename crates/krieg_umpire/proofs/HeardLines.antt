-- Of the lines of both players, those of one are what he hears.
use Rattle.std.proofs.Common.{◌≡◌, List, [], ◌∷◌, ◌++◌, map, Option, Some, None, refl, ap, ◌∙◌}
use Rattle.std.specs.List.{flat_map, cons_option}
use Rattle.std.proofs.lemmas.List.Elements.{filter_map-append}
use Rattle.krieg_umpire.proofs.Common.{Side, White, Black, opening, told_line, Dialect, Line, Opens, Judged, judge, line_for, lines_for, players_line, both_lines, if_of, lines_of, LinesAreHeard}

-- a player's line of one try
abbrev own : Dialect → Option Line → List Line
own d None = []
own d (Some l) = told_line d l ∷ []

own_of : (d : Dialect) (who : Side) (o : Option Line) → lines_of who (players_line d who o) ≡ own d o
own_of d White None = refl
own_of d White (Some l) = refl
own_of d Black None = refl
own_of d Black (Some l) = refl

none_of_black : (d : Dialect) (o : Option Line) → lines_of White (players_line d Black o) ≡ []
none_of_black d None = refl
none_of_black d (Some l) = refl

none_of_white : (d : Dialect) (o : Option Line) → lines_of Black (players_line d White o) ≡ []
none_of_white d None = refl
none_of_white d (Some l) = refl

cut_both : (d : Dialect) (who : Side) (j : Judged) →
    lines_of who (both_lines d j) ≡ lines_of who (players_line d White (line_for White j)) ++ lines_of who (players_line d Black (line_for Black j))
cut_both d who j = filter_map-append (if_of who) (players_line d White (line_for White j)) (players_line d Black (line_for Black j))

append_nothing : (d : Dialect) (o : Option Line) → own d o ++ [] ≡ own d o
append_nothing d None = refl
append_nothing d (Some l) = refl

both_of : (d : Dialect) (who : Side) (j : Judged) → lines_of who (both_lines d j) ≡ own d (line_for who j)
both_of d White j =
    cut_both d White j
    ∙ ap (λ (t : List Line). t ++ lines_of White (players_line d Black (line_for Black j))) (own_of d White (line_for White j))
    ∙ ap (λ (t : List Line). own d (line_for White j) ++ t) (none_of_black d (line_for Black j))
    ∙ append_nothing d (line_for White j)
both_of d Black j =
    cut_both d Black j
    ∙ ap (λ (t : List Line). t ++ lines_of Black (players_line d Black (line_for Black j))) (none_of_white d (line_for White j))
    ∙ own_of d Black (line_for Black j)

told_cons : (d : Dialect) (o : Option Line) (ls : List Line) → own d o ++ map (told_line d) ls ≡ map (told_line d) (cons_option o ls)
told_cons d None ls = refl
told_cons d (Some l) ls = refl

log_of : (d : Dialect) (who : Side) (log : List Judged) → lines_of who (flat_map (both_lines d) log) ≡ map (told_line d) (lines_for who log)
log_of d who [] = refl
log_of d who (j ∷ js) =
    filter_map-append (if_of who) (both_lines d j) (flat_map (both_lines d) js)
    ∙ ap (λ (t : List Line). t ++ lines_of who (flat_map (both_lines d) js)) (both_of d who j)
    ∙ ap (λ (t : List Line). own d (line_for who j) ++ t) (log_of d who js)
    ∙ told_cons d (line_for who j) (lines_for who js)

pub lines_are_heard : LinesAreHeard
lines_are_heard d p events White = ap (λ (t : List Line). told_line d (Opens (opening p)) ∷ t) (log_of d White (judge p events))
lines_are_heard d p events Black = ap (λ (t : List Line). told_line d (Opens (opening p)) ∷ t) (log_of d Black (judge p events))

pub ruleset heard_lines = (lines_are_heard)
