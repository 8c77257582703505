-- A try of the other player that is not done changes nothing and is not heard.
use Rattle.std.proofs.Common.{◌≡◌, Bool, true, false, ◌||◌, refl, sym, ap, ◌∙◌, List, [], ◌∷◌, cond}
use Rattle.std.proofs.lemmas.Bool.{or_parts}
use Rattle.std.specs.Prelude.{Some, None, map}
use Rattle.std.specs.List.{cons_option}
use Rattle.krieg_board.specs.Men.{is_same_side}
use Rattle.krieg_board.specs.Pos.{Pos}
use Rattle.krieg_board.specs.declared.men.Side.{Side}
use Rattle.krieg_board.specs.declared.men.Move.{Move}
use Rattle.krieg_words.specs.WordsOfMoves.{opening}
use Rattle.krieg_wordtext.specs.Line.{told_line}
use Rattle.krieg_wordtext.specs.declared.line.Line.TheVariants as line
use Rattle.krieg_umpire.specs.declared.verdict.Event.{Event}
use Rattle.krieg_umpire.specs.declared.verdict.Verdict.{Verdict}
use Rattle.krieg_umpire.specs.declared.verdict.Verdict.TheVariants.{Over, Early, Illegal, Done}
use Rattle.krieg_umpire.specs.Verdicts.{verdict, next, is_done, position_after}
use Rattle.krieg_umpire.specs.Games.{judge, judged}
use Rattle.krieg_umpire.specs.Hearing.{strip, line_for, lines_for, others_line, own_line}
use Rattle.krieg_umpire.specs.Laws.{HearsNoMore}

position_kept : (v : Verdict) (p : Pos) (m : Move) → is_done v ≡ false → position_after v p m ≡ p
position_kept Over p m h = refl
position_kept Early p m h = refl
position_kept Illegal p m h = refl
position_kept (Done w) p m h = cc

not_heard : (v : Verdict) → is_done v ≡ false → others_line v ≡ None
not_heard Over h = refl
not_heard Early h = refl
not_heard Illegal h = refl
not_heard (Done w) h = cc

-- a try that the player did not make and that is not done gives him no line
no_line : (p : Pos) (e : Event) (who : Side) → is_same_side e.who who ≡ false → is_done (verdict p e.who e.mv) ≡ false → line_for who (judged p e) ≡ None
no_line p e who others not_done =
    ap (λ own. cond own (Some (own_line e.mv (verdict p e.who e.mv))) (others_line (verdict p e.who e.mv))) others ∙ not_heard (verdict p e.who e.mv) not_done

pub lines_strip : (p : Pos) (es : List Event) (who : Side) → lines_for who (judge p es) ≡ lines_for who (judge p (strip p es who))
lines_strip p [] who = refl
lines_strip p (e ∷ es) who = by_try (is_same_side e.who who || is_done (verdict p e.who e.mv)) refl (lines_strip (next p e.who e.mv) es who)
  where
    q : Pos
    q = next p e.who e.mv

    by_try : (kept : Bool) → (is_same_side e.who who || is_done (verdict p e.who e.mv)) ≡ kept → lines_for who (judge q es) ≡ lines_for who (judge q (strip q es who)) →
        lines_for who (judge p (e ∷ es)) ≡ lines_for who (judge p (cond (is_same_side e.who who || is_done (verdict p e.who e.mv)) (e ∷ strip q es who) (strip q es who)))
    by_try true kept rest =
        ap (cons_option (line_for who (judged p e))) rest
        ∙ sym (ap (λ b. lines_for who (judge p (cond b (e ∷ strip q es who) (strip q es who)))) kept)
    by_try false dropped rest =
        let neither = or_parts (is_same_side e.who who) (is_done (verdict p e.who e.mv)) dropped in
        ap (λ line. cons_option line (lines_for who (judge q es))) (no_line p e who neither.0 neither.1)
        ∙ (rest ∙ (ap (λ x. lines_for who (judge x (strip q es who))) (position_kept (verdict p e.who e.mv) p e.mv neither.1)
        ∙ sym (ap (λ b. lines_for who (judge p (cond b (e ∷ strip q es who) (strip q es who)))) dropped)))

pub hears_no_more : HearsNoMore
hears_no_more d p events who = ap (λ ls. told_line d (line.Opens (opening p)) ∷ map (told_line d) ls) (lines_strip p events who)

pub ruleset laws = (hears_no_more)
