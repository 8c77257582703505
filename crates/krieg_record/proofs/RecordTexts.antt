-- The written text of a record spells it, and is read as it again.
use Rattle.std.proofs.Common.{◌≡◌, List, [], ◌∷◌, ◌++◌, map, Ok, refl, sym, ap, subst, ◌∙◌}
use Rattle.std.specs.Prelude.{codes}
use Rattle.krieg_record.proofs.Common.{Pos, IsValid, Move, after, position_text, Always, UpToLast, lines, AreLines, whole, joined, RecordState, after_all, AreLegal, IsRecord, record_at, SpellsMove, SpellsRecord, move_line, move_lines, record_lines, record_text, san_text, side_mark}
use Rattle.krieg_fen.proofs.CleanTexts.{position_line, mark_line}
use Rattle.krieg_text.proofs.Formats.{whole_only}
use Rattle.krieg_text.proofs.LineTexts.{line_append, lines_again}
use Rattle.krieg_fen.proofs.ListSpellings.{written_spells}
use Rattle.krieg_text.proofs.Writings.{put_lines_is}
use Rattle.krieg_record.proofs.Sans.{san_only}
use Rattle.krieg_record.proofs.MoveLines.{MoveLine, EndLine, after_more}
use Rattle.krieg_record.proofs.RecordFormat.{record_format}
use Rattle.krieg_record.proofs.SanLines.{san_line}

moves_spelled : (start : Pos) (before ms : List Move) (p : Pos) → after_all start before ≡ p → AreLegal p ms →
    UpToLast (MoveLine start) EndLine before ms tt (map joined (move_lines p ms ++ ((codes "end" ∷ []) ∷ [])))
moves_spelled start before [] p e legal = (refl, refl)
moves_spelled start before (m ∷ ms) p e legal = (
  subst (λ (q : Pos). SpellsMove q (joined (move_line p m)) m) (sym e) (record { text = san_text p m; is = refl; only = san_only p m legal.0 }),
  moves_spelled start (before ++ m ∷ []) ms (after p m) (after_more start before m ∙ ap (λ (q : Pos). after q m) e) legal.1,
)

lines_spell : (r : RecordState) → IsRecord r → SpellsRecord r (map joined (record_lines r))
lines_spell r is = record {
  front = codes "krieg record 1" ∷ [];
  back = _;
  is = refl;
  first = record { line = _; is = refl; says = refl };
  second = record {
    front = _;
    back = _;
    is = refl;
    first = record { line = _; is = refl; says = record { text = position_text r.start; is = refl; says = written_spells r.start is.valid } };
    second = moves_spelled r.start [] r.moves r.start refl is.legal;
  };
}

moves_are : (p : Pos) (ms : List Move) → AreLines (map joined (move_lines p ms ++ ((codes "end" ∷ []) ∷ [])))
moves_are p [] = (refl, tt)
moves_are p (m ∷ ms) = (line_append (side_mark p.side) (san_text p m) (mark_line p.side) (san_line p m), moves_are (after p m) ms)

record_are : (r : RecordState) → AreLines (map joined (record_lines r))
record_are r = (refl, (line_append (codes "start ") (position_text r.start) refl (position_line r.start), moves_are r.start r.moves))

-- the written text of a record spells it
pub text_spells : (r : RecordState) → IsRecord r → SpellsRecord r (lines (record_text r))
unfolding record_text
text_spells r is = subst (SpellsRecord r) (sym (ap lines (put_lines_is [] (record_lines r)) ∙ lines_again (map joined (record_lines r)) (record_are r))) (lines_spell r is)

pub text_again : (r : RecordState) → IsRecord r → whole record_at (lines (record_text r)) ≡ Ok r
text_again r is = whole_only record_at Always SpellsRecord record_format (lines (record_text r)) r tt (text_spells r is)

pub spells_by : (r : RecordState) → IsValid r.start → AreLegal r.start r.moves → SpellsRecord r (lines (record_text r))
spells_by r valid legal = text_spells r (record { valid = valid; legal = legal })

pub again_by : (r : RecordState) → IsValid r.start → AreLegal r.start r.moves → whole record_at (lines (record_text r)) ≡ Ok r
again_by r valid legal = text_again r (record { valid = valid; legal = legal })

pub ruleset writes = (spells_by, again_by)
