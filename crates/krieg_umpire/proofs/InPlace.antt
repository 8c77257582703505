-- The entries of a player's sheet of a game are in place.
use Rattle.std.proofs.Common.{◌≡◌, Bool, true, false, not, cond, List, [], ◌∷◌, map, Option, Some, None, refl, sym, subst, ◌∙◌}
use Rattle.std.specs.List.{cons_option}
use Rattle.krieg_umpire.proofs.Common.{other, is_same_side, Pos, Side, White, Black, Move, is_legal, after, in_check, is_ended, is_mate, is_stalemate, Said, words, opening, end_of, has_ended, told, told_line, Dialect, Wild16, Anytry, Plain, Line, Event, Verdict, Over, Early, Illegal, Done, verdict, next, position_after, judge, judged, line_for, lines_for, own_line, others_line, ends, are_in_place}
use Rattle.krieg_moves.proofs.Turns.{side_after}
use Rattle.krieg_wordtext.specs.declared.line.Line.TheVariants as line
use Rattle.krieg_umpire.proofs.Ends.{ended_so}

-- words end the game exactly where the position has no legal move
end_is : (p : Pos) → has_ended (end_of p) ≡ is_ended p
unfolding is_mate is_stalemate
end_is p = ended_so (in_check p) (is_ended p)

told_end : (d : Dialect) (w : Said) → ends (told d w) ≡ ends w
told_end Wild16 w = refl
told_end Anytry w = refl
told_end Plain w = refl

pub opening_ends : (d : Dialect) (p : Pos) → ends (told d (opening p)) ≡ is_ended p
unfolding opening
opening_ends d p = told_end d (opening p) ∙ end_is p

words_end : (d : Dialect) (p : Pos) (m : Move) → ends (told d (words p m)) ≡ is_ended (after p m)
unfolding words
words_end d p m = told_end d (words p m) ∙ end_is (after p m)

-- One try by its verdict: its line is in place where those after it are.
over_line : (d : Dialect) (own : Bool) (who turn : Side) (m : Move) (ls : List Line) → are_in_place who turn true (map (told_line d) ls) ≡ true →
    are_in_place who turn true (map (told_line d) (cons_option (cond own (Some (line.Over m)) None) ls)) ≡ true
over_line d true who turn m ls rest = rest
over_line d false who turn m ls rest = rest

early_line : (d : Dialect) (mover who turn : Side) (m : Move) (ls : List Line) → is_same_side mover turn ≡ false → are_in_place who turn false (map (told_line d) ls) ≡ true →
    are_in_place who turn false (map (told_line d) (cons_option (cond (is_same_side mover who) (Some (line.Early m)) None) ls)) ≡ true
early_line d White White White m ls h rest = absurd cc
early_line d White White Black m ls h rest = rest
early_line d White Black White m ls h rest = absurd cc
early_line d White Black Black m ls h rest = rest
early_line d Black White White m ls h rest = rest
early_line d Black White Black m ls h rest = absurd cc
early_line d Black Black White m ls h rest = rest
early_line d Black Black Black m ls h rest = absurd cc

illegal_line : (d : Dialect) (mover who turn : Side) (m : Move) (ls : List Line) → is_same_side mover turn ≡ true → are_in_place who turn false (map (told_line d) ls) ≡ true →
    are_in_place who turn false (map (told_line d) (cons_option (cond (is_same_side mover who) (Some (line.Illegal m)) None) ls)) ≡ true
illegal_line d White White White m ls h rest = rest
illegal_line d White White Black m ls h rest = absurd cc
illegal_line d White Black White m ls h rest = rest
illegal_line d White Black Black m ls h rest = absurd cc
illegal_line d Black White White m ls h rest = absurd cc
illegal_line d Black White Black m ls h rest = rest
illegal_line d Black Black White m ls h rest = absurd cc
illegal_line d Black Black Black m ls h rest = rest

done_line : (d : Dialect) (mover who turn : Side) (m : Move) (w : Said) (ls : List Line) → is_same_side mover turn ≡ true → are_in_place who (other turn) (ends (told d w)) (map (told_line d) ls) ≡ true →
    are_in_place who turn false (map (told_line d) (cons_option (cond (is_same_side mover who) (Some (line.Done m w)) (Some (line.Heard w))) ls)) ≡ true
done_line d White White White m w ls h rest = rest
done_line d White White Black m w ls h rest = absurd cc
done_line d White Black White m w ls h rest = rest
done_line d White Black Black m w ls h rest = absurd cc
done_line d Black White White m w ls h rest = absurd cc
done_line d Black White Black m w ls h rest = rest
done_line d Black Black White m w ls h rest = absurd cc
done_line d Black Black Black m w ls h rest = rest

step : (d : Dialect) (who : Side) (p : Pos) (e : Event) (ls : List Line) →
    are_in_place who (next p e.who e.mv).side (is_ended (next p e.who e.mv)) (map (told_line d) ls) ≡ true →
    are_in_place who p.side (is_ended p) (map (told_line d) (cons_option (line_for who (judged p e)) ls)) ≡ true
unfolding verdict
step d who p e ls rest = by_tests (is_ended p) (is_same_side e.who p.side) (is_legal p e.mv) refl refl refl rest
  where
    v : Bool → Bool → Bool → Verdict
    v ended turn legal = cond ended Over (cond (not turn) Early (cond (not legal) Illegal (Done (words p e.mv))))

    heard_of : Verdict → Option Line
    heard_of x = cond (is_same_side e.who who) (Some (own_line e.mv x)) (others_line x)

    -- the lines are in place after p, where the game is over or not
    behind : Bool → List Line → Type 0
    behind ended ks = are_in_place who p.side ended (map (told_line d) ks) ≡ true

    by_tests : (ended turn legal : Bool) → is_ended p ≡ ended → is_same_side e.who p.side ≡ turn → is_legal p e.mv ≡ legal →
        are_in_place who (position_after (v ended turn legal) p e.mv).side (is_ended (position_after (v ended turn legal) p e.mv)) (map (told_line d) ls) ≡ true →
        behind (is_ended p) (cons_option (heard_of (v ended turn legal)) ls)
    by_tests true turn legal he ht hl rest =
        subst (λ t. behind t (cons_option (heard_of Over) ls)) (sym he) (over_line d (is_same_side e.who who) who p.side e.mv ls (subst (λ t. behind t ls) he rest))
    by_tests false false legal he ht hl rest =
        subst (λ t. behind t (cons_option (heard_of Early) ls)) (sym he) (early_line d e.who who p.side e.mv ls ht (subst (λ t. behind t ls) he rest))
    by_tests false true false he ht hl rest =
        subst (λ t. behind t (cons_option (heard_of Illegal) ls)) (sym he) (illegal_line d e.who who p.side e.mv ls ht (subst (λ t. behind t ls) he rest))
    by_tests false true true he ht hl rest =
        let here = subst (λ (s : Side). are_in_place who s (is_ended (after p e.mv)) (map (told_line d) ls) ≡ true) (side_after p e.mv hl) rest in
        let so = subst (λ (t : Bool). are_in_place who (other p.side) t (map (told_line d) ls) ≡ true) (sym (words_end d p e.mv)) here in
        subst (λ t. behind t (cons_option (heard_of (Done (words p e.mv))) ls)) (sym he) (done_line d e.who who p.side e.mv (words p e.mv) ls ht so)

pub entries_in_place : (d : Dialect) (who : Side) (p : Pos) (events : List Event) → are_in_place who p.side (is_ended p) (map (told_line d) (lines_for who (judge p events))) ≡ true
entries_in_place d who p [] = refl
entries_in_place d who p (e ∷ es) = step d who p e (lines_for who (judge (next p e.who e.mv) es)) (entries_in_place d who (next p e.who e.mv) es)
