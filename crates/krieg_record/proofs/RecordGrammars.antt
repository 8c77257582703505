-- The reader of a record keeps to the grammar.
use Rattle.std.proofs.Common.{◌≡◌, ◌⊎◌, inl, inr, ℕ, Bool, true, false, List, [], ◌∷◌, ◌++◌, Result, Ok, Err, refl, ap, subst, ◌∙◌}
use Rattle.std.specs.Prelude.{codes}
use Rattle.krieg_record.proofs.Common.{is_same_side, Pos, Move, TextKind, OutOfPlace, Has, is_beyond_form, Always, One, ◌>>=◌, taken, goes_on, stops, SanFault, RecordLine, Played, Means, after_all, record_version, marked, in_turn, move_by, move_form, led, step_form, moves_at, record_at, IsMoveLine, RecordGrammar, start_form, meant}
use Rattle.krieg_text.proofs.Formats.{IsStep}
use Rattle.krieg_text.proofs.Grammars.{untold, KeepsTo, HasForm, line_keeps, then_keeps, made_keeps}
use Rattle.krieg_fen.proofs.ListGrammars.{some_start}
use Rattle.krieg_text.proofs.FormGrammars.{form_of}
use Rattle.krieg_text.proofs.LoopGrammars.{Goes, HasLoopForm, loop_keeps}
use Rattle.krieg_record.specs.declared.san_reading.SanFault.TheVariants as fault
use Rattle.krieg_record.proofs.Meanings.{meant_means}
use Rattle.krieg_record.proofs.MoveLines.{MoveLine, EndLine, marks_again, line_again, step_is, moves_form}
use Rattle.krieg_record.proofs.RecordFormat.{versions_form}

turn_goes : (t : Bool) (r : Result Move SanFault) → (r ≡ Err fault.Syntax → ⊥) → ((m : Move) × (in_turn t r ≡ Ok m)) ⊎ ((kind : TextKind) × (is_beyond_form kind ≡ true) × (in_turn t r ≡ Err kind))
turn_goes true (Ok m) formed = inl (m, refl)
turn_goes false (Ok m) formed = inr (OutOfPlace, refl, refl)
turn_goes t (Err fault.Syntax) formed = absurd (formed refl)
turn_goes true (Err fault.Unknown) formed = inr (OutOfPlace, refl, refl)
turn_goes true (Err fault.Several) formed = inr (OutOfPlace, refl, refl)
turn_goes true (Err fault.NoMemory) formed = inr (OutOfPlace, refl, refl)
turn_goes false (Err fault.Unknown) formed = inr (OutOfPlace, refl, refl)
turn_goes false (Err fault.Several) formed = inr (OutOfPlace, refl, refl)
turn_goes false (Err fault.NoMemory) formed = inr (OutOfPlace, refl, refl)

step_goes : (start : Pos) (ms : List Move) (line : List ℕ) → IsMoveLine line → Goes (step_form start ms line)
unfolding move_form
step_goes start ms line f = go (turn_goes (is_same_side f.who p.side) (meant p f.text) formed)
  where
    p : Pos
    p = after_all start ms

    formed : meant p f.text ≡ Err fault.Syntax → ⊥
    formed e = subst (Means p f.text) e (meant_means p f.text) f.form

    is : move_form p line ≡ in_turn (is_same_side f.who p.side) (meant p f.text)
    is = ap (λ l. move_by p (marked l)) f.is ∙ ap (move_by p) (marks_again f.who f.text)

    step : step_form start ms line ≡ ((in_turn (is_same_side f.who p.side) (meant p f.text) >>= λ m. Ok (Played m)) >>= λ l. Ok (led ms l))
    step = ap (λ (r : Result RecordLine TextKind). r >>= λ l. Ok (led ms l)) (line_again p f.who line f.text f.is ∙ ap (λ (r : Result Move TextKind). r >>= λ m. Ok (Played m)) is)

    go : ((m : Move) × (in_turn (is_same_side f.who p.side) (meant p f.text) ≡ Ok m)) ⊎ ((kind : TextKind) × (is_beyond_form kind ≡ true) × (in_turn (is_same_side f.who p.side) (meant p f.text) ≡ Err kind)) → Goes (step_form start ms line)
    go (inl h) = inl (ms ++ h.0 ∷ [], step ∙ ap (λ (r : Result Move TextKind). (r >>= λ m. Ok (Played m)) >>= λ l. Ok (led ms l)) h.1)
    go (inr h) = inr (h.0, h.1, step ∙ ap (λ (r : Result Move TextKind). (r >>= λ m. Ok (Played m)) >>= λ l. Ok (led ms l)) h.2)

step_form_is : (start : Pos) → HasLoopForm (step_form start) (λ ms. Unit {0}) Always IsMoveLine (λ line. line ≡ codes "end")
step_form_is start = record {
  keeps = λ ms more line i h. (tt, keeps ms more line (step_is start ms line (goes_on more) h));
  ends = λ ms x line i h. (tt, (step_is start ms line (stops x) h).1);
  item = λ ms line i f. step_goes start ms line f;
  last = λ ms line i e. ((ms, tt), (moves_form start).last ms line tt e);
  some = (codes "end", refl);
}
  where
    keeps : (ms more : List Move) (line : List ℕ) → IsStep (MoveLine start) EndLine ms line (goes_on more) → IsMoveLine line
    keeps ms more line s = let m = s.2.only.matches in record { who = (after_all start ms).side; text = s.2.text; is = s.2.is; form = (m.notation, m.says) }

version_form_is : HasForm record_version Always untold (λ u line. line ≡ codes "krieg record 1")
version_form_is = record {
  holds = λ l x e. tt;
  said = λ l x e. (versions_form.found l x e).0;
  judged = λ l b h. inl (1, refl, versions_form.only l 1 (h, refl));
  some = (codes "krieg record 1", 1, versions_form.only (codes "krieg record 1") 1 (refl, refl));
}

pub record_keeps : KeepsTo record_at Always untold (λ u. RecordGrammar)
unfolding record_at
record_keeps =
    then_keeps (taken record_version) _ Always (One (λ line. line ≡ codes "krieg record 1")) Always untold _ (line_keeps record_version Always untold (λ u line. line ≡ codes "krieg record 1") version_form_is) (λ n h.
    then_keeps (taken start_form) _ Always (One (Has start_form)) Always untold _ (line_keeps start_form Always untold (λ u. Has start_form) (form_of start_form _ _ some_start)) (λ p h.
    made_keeps (moves_at p) (λ x. record { start = p; moves = x.0 }) Always untold _ Always untold (λ x h. tt) (λ x. refl)
    (loop_keeps (step_form p) (λ ms. Unit {0}) Always _ _ (step_form_is p) [] tt)))
