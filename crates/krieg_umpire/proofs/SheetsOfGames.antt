-- A player's sheet of a game is a sheet.
use Rattle.std.proofs.Common.{◌≡◌, Bool, true, false, not, cond, List, [], ◌∷◌, map, Option, Some, None, refl, ap, subst, ◌∙◌}
use Rattle.std.specs.Prelude.{IfSome}
use Rattle.std.specs.List.{All, cons_option}
use Rattle.std.proofs.lemmas.List.Elements.{All-nil, All-cons, All-head, All-tail}
use Rattle.krieg_umpire.proofs.Common.{is_same_side, Pos, IsValid, Side, Move, IsOnBoard, is_legal, is_ended, Said, IsSaid, tries, words, opening, told_line, IsLine, Dialect, Line, Event, Verdict, Over, Early, Illegal, Done, verdict, next, position_after, judge, judged, line_for, lines_for, own_line, others_line, are_in_place, IsTold, AreTries, SheetsAreInPlace}
use Rattle.krieg_moves.proofs.LegalMoves.{legal}
use Rattle.krieg_moves.proofs.KeepsValid.{valid_after}
use Rattle.krieg_wordtext.specs.declared.line.Line.TheVariants as line
use Rattle.krieg_words.proofs.SaidLaws.{opening_said, words_said}
use Rattle.krieg_words.proofs.ToldLaws.{told_fits, told_said}
use Rattle.krieg_wordtext.proofs.ToldLines.{told_line_fits}
use Rattle.krieg_umpire.proofs.InPlace.{opening_ends, entries_in_place}

-- what a dialect tells of a line is a line
told_is_line : (d : Dialect) (l : Line) → IsLine l → IsLine (told_line d l)
told_is_line d (line.Opens w) h = told_said d w h
told_is_line d (line.Illegal m) h = h
told_is_line d (line.Done m w) h = (h.0, told_said d w h.1)
told_is_line d (line.Heard w) h = told_said d w h
told_is_line d (line.Early m) h = h
told_is_line d (line.Over m) h = h

-- a line of a try whose words, where it is done, can be said
line_by : (own : Bool) (m : Move) (v : Verdict) → IsOnBoard m → ((w : Said) → v ≡ Done w → IsSaid w) → IfSome (cond own (Some (own_line m v)) (others_line v)) IsLine
line_by true m Over on said = on
line_by true m Early on said = on
line_by true m Illegal on said = on
line_by true m (Done w) on said = (on, said w refl)
line_by false m Over on said = tt
line_by false m Early on said = tt
line_by false m Illegal on said = tt
line_by false m (Done w) on said = said w refl

-- one try: its words can be said, and the position after it is valid
record IsSound (p : Pos) (m : Move) (v : Verdict) : Type 0 where
  said : (w : Said) → v ≡ Done w → IsSaid w
  valid : IsValid (position_after v p m)

sound_by : (p : Pos) (m : Move) → IsValid p → (ended turn legal : Bool) → is_legal p m ≡ legal → IsSound p m (cond ended Over (cond (not turn) Early (cond (not legal) Illegal (Done (words p m)))))
sound_by p m valid true turn legal h = record { said = λ w e. absurd cc; valid = valid }
sound_by p m valid false false legal h = record { said = λ w e. absurd cc; valid = valid }
sound_by p m valid false true false h = record { said = λ w e. absurd cc; valid = valid }
sound_by p m valid false true true h = record {
  said = λ w e. let same : words p m ≡ w = cc in subst IsSaid same (words_said p m valid h);
  valid = valid_after p m valid h;
}

sound : (p : Pos) (e : Event) → IsValid p → IsSound p e.mv (verdict p e.who e.mv)
unfolding verdict
sound p e valid = sound_by p e.mv valid (is_ended p) (is_same_side e.who p.side) (is_legal p e.mv) refl

one_more : (d : Dialect) (o : Option Line) (ls : List Line) → IfSome o IsLine → All (IsTold d) (map (told_line d) ls) → All (IsTold d) (map (told_line d) (cons_option o ls))
one_more d None ls h all = all
one_more d (Some l) ls h all = All-cons (IsTold d) (told_line d l) (map (told_line d) ls) (told_is_line d l h, told_line_fits d l) all

all_told : (d : Dialect) (who : Side) (p : Pos) (events : List Event) → IsValid p → AreTries events → All (IsTold d) (map (told_line d) (lines_for who (judge p events)))
all_told d who p [] valid tries = All-nil (IsTold d)
all_told d who p (e ∷ es) valid tries =
    let s = sound p e valid in
    let on = All-head (λ x. IsOnBoard x.mv) e es tries in
    one_more d (line_for who (judged p e)) (lines_for who (judge (next p e.who e.mv) es)) (line_by (is_same_side e.who who) e.mv (verdict p e.who e.mv) on s.said)
    (all_told d who (next p e.who e.mv) es s.valid (All-tail (λ x. IsOnBoard x.mv) e es tries))

pub sheets_in_place : SheetsAreInPlace
sheets_in_place d p events who valid tries = record {
  listed = refl;
  valid = All-cons IsValid p [] valid (All-nil IsValid);
  fits = told_fits d (opening p);
  opening = told_said d (opening p) (opening_said p valid);
  told = all_told d who p events valid tries;
  in_place = ap (λ (t : Bool). are_in_place who p.side t (map (told_line d) (lines_for who (judge p events)))) (opening_ends d p) ∙ entries_in_place d who p events;
}

pub ruleset sheets = (sheets_in_place)
