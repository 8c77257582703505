-- What a player hears of one more try of a game.
use Rattle.std.proofs.Common.{◌≡◌, List, [], ◌∷◌, ◌++◌, refl, ap, ◌∙◌, map, option_to_list, Option, Some, None}
use Rattle.std.specs.List.{cons_option}
use Rattle.std.proofs.lemmas.List.{map-append, append-nil}
use Rattle.std.proofs.lemmas.List.Elements.{filter_map-append}
use Rattle.krieg_robot.proofs.Common.{Pos, Side, opening, told_line, Dialect, Line, judge, judged, last, heard, line_for, lines_for, Event, Judged}
use Rattle.krieg_wordtext.specs.declared.line.Line.TheVariants as line
use Rattle.krieg_play.proofs.Judging.{judge_end}

cons_of : (o : Option Line) (ls : List Line) → cons_option o ls ≡ option_to_list o ++ ls
cons_of None ls = refl
cons_of (Some l) ls = refl

lone : (who : Side) (j : Judged) → lines_for who (j ∷ []) ≡ option_to_list (line_for who j)
lone who j = cons_of (line_for who j) [] ∙ append-nil (option_to_list (line_for who j))

lines_end : (who : Side) (log : List Judged) (j : Judged) → lines_for who (log ++ j ∷ []) ≡ lines_for who log ++ option_to_list (line_for who j)
lines_end who log j = filter_map-append (line_for who) log (j ∷ []) ∙ ap (λ (ls : List Line). lines_for who log ++ ls) (lone who j)

-- a player who heard his lines of all tries hears this of one more
pub heard_end : (d : Dialect) (p : Pos) (es : List Event) (who : Side) (e : Event) →
    heard d p (es ++ e ∷ []) who ≡ heard d p es who ++ map (told_line d) (option_to_list (line_for who (judged (last p es) e)))
heard_end d p es who e =
    ap (λ (ls : List Line). told_line d (line.Opens (opening p)) ∷ ls)
    (ap (λ (js : List Judged). map (told_line d) (lines_for who js)) (judge_end p es e)
    ∙ (ap (map (told_line d)) (lines_end who (judge p es) (judged (last p es) e))
    ∙ map-append (told_line d) (lines_for who (judge p es)) (option_to_list (line_for who (judged (last p es) e)))))
