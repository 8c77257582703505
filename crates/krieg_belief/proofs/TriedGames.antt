-- A game explains where it stands just where its tries give the entries of the sheet, with the opponent's moves.
use Rattle.std.proofs.Common.{◌≡◌, Bool, true, false, not, cond, List, [], ◌∷◌, map, Option, Some, None, refl, sym, ap, subst, ◌∙◌}
use Rattle.std.specs.List.{All, cons_option}
use Rattle.std.proofs.lemmas.Bool.{both_ways}
use Rattle.std.proofs.lemmas.List.Elements.{All-head, All-tail, All-cons, All-nil}
use Rattle.krieg_belief.proofs.Common.{other, is_same_side, Pos, Side, White, Black, Move, is_legal, after, is_ended, Said, words, told_line, Dialect, Line, Event, Verdict, verdict, next, is_done, position_after, judge, judged, last, line_for, lines_for, own_line, others_line, tries_of, try_of, Gives, is_shown, events_by}
use Rattle.krieg_board.proofs.MenLemmas.{same_side_eq, same_side_self, same_side_other}
use Rattle.krieg_wordtext.specs.declared.line.Line.TheVariants as line
use Rattle.krieg_umpire.specs.declared.verdict.Verdict.TheVariants.{Over, Early, Illegal, Done}

turned_round : (a b : Side) (own : Bool) → is_same_side a b ≡ own → is_same_side b a ≡ own
turned_round White White own h = h
turned_round White Black own h = h
turned_round Black White own h = h
turned_round Black Black own h = h

-- the other of two sides
pub others : (a b : Side) → is_same_side a b ≡ false → other b ≡ a
others White White h = absurd cc
others White Black h = refl
others Black White h = refl
others Black Black h = absurd cc

others_turn : (a b : Side) → is_same_side a b ≡ false → is_same_side (other b) a ≡ true
others_turn a b h = subst (λ (s : Side). is_same_side s a ≡ true) (sym (others a b h)) (same_side_self a)

-- whose try it is, by whose turn it was
mine : (mover who turn : Side) → is_same_side mover turn ≡ true → is_same_side mover who ≡ true → is_same_side turn who ≡ true
mine mover who turn h k = subst (λ (s : Side). is_same_side s who ≡ true) (same_side_eq mover turn h) k

not_mine : (mover who turn : Side) → is_same_side mover turn ≡ false → is_same_side mover who ≡ true → is_same_side turn who ≡ false
not_mine mover who turn h k = turned_round who turn false (subst (λ (s : Side). is_same_side s turn ≡ false) (same_side_eq mover who k) h)

theirs : (mover who turn : Side) → is_same_side mover turn ≡ true → is_same_side mover who ≡ false → is_same_side turn who ≡ false
theirs mover who turn h k = subst (λ (s : Side). is_same_side s who ≡ false) (same_side_eq mover turn h) k

-- the opponent's tries are those that are not the player's
pub try_is : (who : Side) (e : Event) (own : Bool) → is_same_side e.who who ≡ own → try_of (other who) e ≡ cond own None (Some e.mv)
try_is who e own h = ap (λ (b : Bool). cond b (Some e.mv) None) (turned e.who who ∙ ap not h) ∙ flipped own
  where
    turned : (a b : Side) → is_same_side a (other b) ≡ not (is_same_side a b)
    turned White White = refl
    turned White Black = refl
    turned Black White = refl
    turned Black Black = refl

    flipped : (b : Bool) → cond (not b) (Some e.mv) None ≡ cond b None (Some e.mv)
    flipped true = refl
    flipped false = refl

step : (d : Dialect) (who : Side) (p : Pos) (e : Event) (ls : List Line) (rs : List Move) (q : Pos) → is_shown who (judged p e) → Gives d (next p e.who e.mv) (map (told_line d) ls) who rs q →
    Gives d p (map (told_line d) (cons_option (line_for who (judged p e)) ls)) who (cons_option (try_of (other who) e) rs) q
unfolding verdict
step d who p e ls rs q shown g =
    subst (λ (o : Option Move). Gives d p (map (told_line d) (cons_option (line_for who (judged p e)) ls)) who (cons_option o rs) q) (sym (try_is who e (is_same_side e.who who) refl))
    (by_tests (is_ended p) (is_same_side e.who p.side) (is_legal p e.mv) (is_same_side e.who who) refl refl refl refl shown g)
  where
    v : Bool → Bool → Bool → Verdict
    v ended turn legal = cond ended Over (cond (not turn) Early (cond (not legal) Illegal (Done (words p e.mv))))

    heard_by : Bool → Verdict → Option Line
    heard_by own x = cond own (Some (own_line e.mv x)) (others_line x)

    by_tests : (ended turn legal own : Bool) → is_ended p ≡ ended → is_same_side e.who p.side ≡ turn → is_legal p e.mv ≡ legal → is_same_side e.who who ≡ own →
        (own ≡ false → is_done (v ended turn legal) ≡ true) → Gives d (position_after (v ended turn legal) p e.mv) (map (told_line d) ls) who rs q →
        Gives d p (map (told_line d) (cons_option (heard_by own (v ended turn legal)) ls)) who (cons_option (cond own None (Some e.mv)) rs) q
    by_tests true turn legal true he ht hl ho s g = (he, g)
    by_tests true turn legal false he ht hl ho s g = absurd (both_ways false refl (s refl))
    by_tests false false legal true he ht hl ho s g = (he, not_mine e.who who p.side ht ho, g)
    by_tests false false legal false he ht hl ho s g = absurd (both_ways false refl (s refl))
    by_tests false true false true he ht hl ho s g = (he, mine e.who who p.side ht ho, hl, g)
    by_tests false true false false he ht hl ho s g = absurd (both_ways false refl (s refl))
    by_tests false true true true he ht hl ho s g = (mine e.who who p.side ht ho, hl, refl, g)
    by_tests false true true false he ht hl ho s g = (theirs e.who who p.side ht ho, hl, refl, g)

-- the tries of a game give what the player hears, with the opponent's moves
pub game_gives : (d : Dialect) (who : Side) (p : Pos) (events : List Event) → All (is_shown who) (judge p events) →
    Gives d p (map (told_line d) (lines_for who (judge p events))) who (tries_of (other who) events) (last p events)
game_gives d who p [] shown = (refl, refl)
game_gives d who p (e ∷ es) shown =
    step d who p e (lines_for who (judge (next p e.who e.mv) es)) (tries_of (other who) es) (last (next p e.who e.mv) es) (All-head (is_shown who) (judged p e) (judge (next p e.who e.mv) es) shown)
    (game_gives d who (next p e.who e.mv) es (All-tail (is_shown who) (judged p e) (judge (next p e.who e.mv) es) shown))

-- ---- the other way: the tries by the entries and the opponent's moves

at_turn : (p : Pos) (who : Side) (m : Move) (ended turn legal : Bool) → is_ended p ≡ ended → is_same_side who p.side ≡ turn → is_legal p m ≡ legal →
    verdict p who m ≡ cond ended Over (cond (not turn) Early (cond (not legal) Illegal (Done (words p m))))
unfolding verdict
at_turn p who m ended turn legal he ht hl = λ i. cond (he i) Over (cond (not (ht i)) Early (cond (not (hl i)) Illegal (Done (words p m))))

-- what the tries give, where each of the opponent's is done, and where they lead to
pub record IsGame (d : Dialect) (who : Side) (p : Pos) (ls : List Line) (rs : List Move) (q : Pos) (events : List Event) : Type 0 where
  pub hears : map (told_line d) (lines_for who (judge p events)) ≡ ls
  pub shown : All (is_shown who) (judge p events)
  pub ends : last p events ≡ q
  pub replies : tries_of (other who) events ≡ rs

-- one try more, by its verdict
one_more : (d : Dialect) (who : Side) (p p' : Pos) (e : Event) (v : Verdict) (l : Line) (ls : List Line) (rs rs' : List Move) (q : Pos) (es : List Event) → verdict p e.who e.mv ≡ v → position_after v p e.mv ≡ p' →
    (own : Bool) → is_same_side e.who who ≡ own → (own ≡ false → is_done v ≡ true) → map (told_line d) (cons_option (cond own (Some (own_line e.mv v)) (others_line v)) []) ≡ l ∷ [] → cons_option (cond own None (Some e.mv)) rs ≡ rs' →
    IsGame d who p' ls rs q es → IsGame d who p (l ∷ ls) rs' q (e ∷ es)
one_more d who p p' e v l ls rs rs' q es v_is p_is own own_is done line_is rs_is g = record {
  hears = ap (λ (b : Bool). map (told_line d) (cons_option (cond b (Some (own_line e.mv (verdict p e.who e.mv))) (others_line (verdict p e.who e.mv))) (lines_for who (judge (next p e.who e.mv) es)))) own_is
      ∙ (ap (λ (x : Verdict). map (told_line d) (cons_option (cond own (Some (own_line e.mv x)) (others_line x)) (lines_for who (judge (next p e.who e.mv) es)))) v_is
      ∙ (first (cond own (Some (own_line e.mv v)) (others_line v)) (lines_for who (judge (next p e.who e.mv) es)) line_is
      ∙ ap (λ (x : List Line). l ∷ x) (ap (λ (x : Pos). map (told_line d) (lines_for who (judge x es))) there ∙ g.hears)));
  shown = All-cons (is_shown who) (judged p e) (judge (next p e.who e.mv) es) (λ n. ap is_done v_is ∙ done (sym own_is ∙ n)) (subst (λ (x : Pos). All (is_shown who) (judge x es)) (sym there) g.shown);
  ends = ap (λ (x : Pos). last x es) there ∙ g.ends;
  replies = ap (λ (o : Option Move). cons_option o (tries_of (other who) es)) (try_is who e own own_is) ∙ (ap (cons_option (cond own None (Some e.mv))) g.replies ∙ rs_is);
}
  where
    there : next p e.who e.mv ≡ p'
    there = ap (λ (x : Verdict). position_after x p e.mv) v_is ∙ p_is

    first : (o : Option Line) (rest : List Line) → map (told_line d) (cons_option o []) ≡ l ∷ [] → map (told_line d) (cons_option o rest) ≡ l ∷ map (told_line d) rest
    first None rest h = absurd cc
    first (Some x) rest h = ap (λ (y : Line). y ∷ map (told_line d) rest) cc

pub gives_game : (d : Dialect) (who : Side) (ls : List Line) (p : Pos) (rs : List Move) (q : Pos) → ((p : Pos) (m : Move) → is_legal p m ≡ true → is_ended p ≡ false) → Gives d p ls who rs q → IsGame d who p ls rs q (events_by who ls rs)
gives_game d who [] p rs q L g = record { hears = refl; shown = All-nil (is_shown who); ends = sym g.1; replies = sym g.0 }
gives_game d who (line.Opens w ∷ ls) p rs q L g = absurd g
gives_game d who (line.Illegal m ∷ ls) p rs q L g =
    one_more d who p p (record { who = who; mv = m }) Illegal (line.Illegal m) ls rs rs q (events_by who ls rs) (at_turn p who m false true false g.0 (turned_round p.side who true g.1) g.2) refl true (same_side_self who) (λ n. absurd cc) refl refl
    (gives_game d who ls p rs q L g.3)
gives_game d who (line.Done m w ∷ ls) p rs q L g =
    one_more d who p (after p m) (record { who = who; mv = m }) (Done (words p m)) (line.Done m w) ls rs rs q (events_by who ls rs) (at_turn p who m false true true (L p m g.1) (turned_round p.side who true g.0) g.1) refl true (same_side_self who) (λ n. absurd cc)
    (ap (λ (x : Said). line.Done m x ∷ []) (sym g.2)) refl (gives_game d who ls (after p m) rs q L g.3)
gives_game d who (line.Early m ∷ ls) p rs q L g =
    one_more d who p p (record { who = who; mv = m }) Early (line.Early m) ls rs rs q (events_by who ls rs) (at_turn p who m false false (is_legal p m) g.0 (turned_round p.side who false g.1) refl) refl true (same_side_self who) (λ n. absurd cc) refl refl
    (gives_game d who ls p rs q L g.2)
gives_game d who (line.Over m ∷ ls) p rs q L g =
    one_more d who p p (record { who = who; mv = m }) Over (line.Over m) ls rs rs q (events_by who ls rs) (at_turn p who m true (is_same_side who p.side) (is_legal p m) g.0 refl refl) refl true (same_side_self who) (λ n. absurd cc) refl refl
    (gives_game d who ls p rs q L g.1)
gives_game d who (line.Heard w ∷ ls) p [] q L g = absurd g
gives_game d who (line.Heard w ∷ ls) p (r ∷ rs) q L g =
    one_more d who p (after p r) (record { who = other who; mv = r }) (Done (words p r)) (line.Heard w) ls rs (r ∷ rs) q (events_by who ls rs) (at_turn p (other who) r false true true (L p r g.1) (turned_round p.side (other who) true (turned_round (other who) p.side true (others_turn p.side who g.0))) g.1) refl false
    (turned_round who (other who) false (same_side_other who)) (λ n. refl) (ap (λ (x : Said). line.Heard x ∷ []) (sym g.2)) refl (gives_game d who ls (after p r) rs q L g.3)
