-- The position in which a game stands is consistent with the sheet of each player.
use Rattle.std.proofs.Common.{◌≡◌, Bool, true, false, not, cond, List, [], ◌∷◌, map, Option, Some, refl, arith}
use Rattle.std.specs.List.{cons_option}
use Rattle.krieg_umpire.proofs.Common.{is_same_side, Pos, Side, White, Black, Move, is_legal, is_ended, words, told_line, Dialect, Line, Event, Verdict, Over, Early, Illegal, Done, verdict, next, position_after, judge, judged, last, line_for, lines_for, own_line, others_line, LastIsConsistent}
use Rattle.krieg_sheet.specs.Games.{Gives}

-- the trier, the player and the side to move
not_mine : (mover who turn : Side) → is_same_side mover turn ≡ false → is_same_side mover who ≡ true → is_same_side turn who ≡ false
not_mine White White White h k = absurd cc
not_mine White White Black h k = refl
not_mine White Black turn h k = absurd cc
not_mine Black White turn h k = absurd cc
not_mine Black Black White h k = refl
not_mine Black Black Black h k = absurd cc

mine : (mover who turn : Side) → is_same_side mover turn ≡ true → is_same_side mover who ≡ true → is_same_side turn who ≡ true
mine White White White h k = refl
mine White White Black h k = absurd cc
mine White Black turn h k = absurd cc
mine Black White turn h k = absurd cc
mine Black Black White h k = absurd cc
mine Black Black Black h k = refl

theirs : (mover who turn : Side) → is_same_side mover turn ≡ true → is_same_side mover who ≡ false → is_same_side turn who ≡ false
theirs White White turn h k = absurd cc
theirs White Black White h k = refl
theirs White Black Black h k = absurd cc
theirs Black White White h k = absurd cc
theirs Black White Black h k = refl
theirs Black Black turn h k = absurd cc

-- some moves of the opponent give these lines from p, in a game that ends in q
record HiddenGame (d : Dialect) (p : Pos) (ls : List Line) (who : Side) (q : Pos) : Type 0 where
  replies : List Move
  gives : Gives d p ls who replies q

step : (d : Dialect) (who : Side) (p : Pos) (e : Event) (ls : List Line) (q : Pos) → HiddenGame d (next p e.who e.mv) (map (told_line d) ls) who q →
    HiddenGame d p (map (told_line d) (cons_option (line_for who (judged p e)) ls)) who q
unfolding verdict
step d who p e ls q g = by_tests (is_ended p) (is_same_side e.who p.side) (is_legal p e.mv) (is_same_side e.who who) refl refl refl refl g
  where
    v : Bool → Bool → Bool → Verdict
    v ended turn legal = cond ended Over (cond (not turn) Early (cond (not legal) Illegal (Done (words p e.mv))))

    heard_by : Bool → Verdict → Option Line
    heard_by own x = cond own (Some (own_line e.mv x)) (others_line x)

    by_tests : (ended turn legal own : Bool) → is_ended p ≡ ended → is_same_side e.who p.side ≡ turn → is_legal p e.mv ≡ legal → is_same_side e.who who ≡ own →
        HiddenGame d (position_after (v ended turn legal) p e.mv) (map (told_line d) ls) who q →
        HiddenGame d p (map (told_line d) (cons_option (heard_by own (v ended turn legal)) ls)) who q
    by_tests true turn legal true he ht hl ho g = record { replies = g.replies; gives = (he, g.gives) }
    by_tests true turn legal false he ht hl ho g = g
    by_tests false false legal true he ht hl ho g = record { replies = g.replies; gives = (he, not_mine e.who who p.side ht ho, g.gives) }
    by_tests false false legal false he ht hl ho g = g
    by_tests false true false true he ht hl ho g = record { replies = g.replies; gives = (he, mine e.who who p.side ht ho, hl, g.gives) }
    by_tests false true false false he ht hl ho g = g
    by_tests false true true true he ht hl ho g = record { replies = g.replies; gives = (mine e.who who p.side ht ho, hl, refl, g.gives) }
    by_tests false true true false he ht hl ho g = record { replies = e.mv ∷ g.replies; gives = (theirs e.who who p.side ht ho, hl, refl, g.gives) }

given : (d : Dialect) (who : Side) (p : Pos) (events : List Event) → HiddenGame d p (map (told_line d) (lines_for who (judge p events))) who (last p events)
given d who p [] = record { replies = []; gives = (refl, refl) }
given d who p (e ∷ es) = step d who p e (lines_for who (judge (next p e.who e.mv) es)) (last (next p e.who e.mv) es) (given d who (next p e.who e.mv) es)

pub last_is_consistent : LastIsConsistent
last_is_consistent d p events who =
    let g = given d who p events in
    record { start = p; replies = g.replies; is_listed = (0, omega arith, refl); opens = refl; gives = g.gives }

pub ruleset consistency = (last_is_consistent)
