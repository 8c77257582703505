-- The lines of a record behind its start: a move, or the last line.
use Rattle.std.proofs.Common.{◌≡◌, ◌⊎◌, inl, inr, ℕ, Bool, true, false, cond, List, [], ◌∷◌, ◌++◌, Option, Some, None, Result, Ok, Err, refl, sym, ap, subst, ◌∙◌}
use Rattle.std.specs.Prelude.{codes}
use Rattle.std.specs.Str.{bytes_eq}
use Rattle.std.proofs.lemmas.Slice.Eq.{bytes_eq-Decides}
use Rattle.krieg_record.proofs.Common.{is_same_side, Pos, Side, White, Black, Move, after, is_legal, TextFault, TextKind, behind, ◌>>=◌, Place, Step, taken, up_to_last, GivesOn, SanFault, RecordLine, Played, End, Means, after_all, marked_by, marked, in_turn, move_by, move_form, line_form, led, step_form, SpellsMove, side_mark, meant}
use Rattle.krieg_board.proofs.MenLemmas.{same_side_eq, same_side_self}
use Rattle.krieg_text.proofs.Formats.{IsStep, IsItemForm}
use Rattle.krieg_text.proofs.NameLemmas.{behind_spells, behind_again}
use Rattle.krieg_text.proofs.Takings.{taken_at, loop_refused}
use Rattle.krieg_record.specs.declared.san_reading.SanFault.TheVariants as fault
use Rattle.krieg_record.proofs.Meanings.{meant_means, meant_only}

-- ---- the marks

marks_is : (line : List ℕ) (s : Side × List ℕ) → marked line ≡ Some s → line ≡ side_mark s.0 ++ s.1
unfolding marked
marks_is line s e = go (behind (codes "w ") line) (behind (codes "b ") line) refl refl e
  where
    go : (w b : Option (List ℕ)) → behind (codes "w ") line ≡ w → behind (codes "b ") line ≡ b → marked_by w b ≡ Some s → line ≡ side_mark s.0 ++ s.1
    go (Some t) b is js h =
        let same : ◌≡◌ {A = Side × List ℕ} (White, t) s = cc in
        behind_spells (codes "w ") line t is ∙ ap (λ (x : Side × List ℕ). side_mark x.0 ++ x.1) same
    go None (Some t) is js h =
        let same : ◌≡◌ {A = Side × List ℕ} (Black, t) s = cc in
        behind_spells (codes "b ") line t js ∙ ap (λ (x : Side × List ℕ). side_mark x.0 ++ x.1) same
    go None None is js h = absurd cc

not_white : (t : List ℕ) → behind (codes "w ") (codes "b " ++ t) ≡ None
unfolding behind
not_white t = refl

pub marks_again : (who : Side) (t : List ℕ) → marked (side_mark who ++ t) ≡ Some (who, t)
unfolding marked
marks_again White t = ap (λ o. marked_by o (behind (codes "b ") (codes "w " ++ t))) (behind_again (codes "w ") t)
marks_again Black t = ap (λ o. marked_by o (behind (codes "b ") (codes "b " ++ t))) (not_white t) ∙ ap (λ o. marked_by None o) (behind_again (codes "b ") t)

not_end : (who : Side) (t : List ℕ) → bytes_eq (side_mark who ++ t) (codes "end") ≡ false
not_end White t = refl
not_end Black t = refl

-- ---- a move

turn_is : (t : Bool) (r : Result Move SanFault) (m : Move) → in_turn t r ≡ Ok m → (t ≡ true) × (r ≡ Ok m)
turn_is true (Ok x) m e = (refl, (let same : x ≡ m = cc in ap (λ (y : Move). Ok y) same))
turn_is false (Ok x) m e = absurd cc
turn_is true (Err fault.Syntax) m e = absurd cc
turn_is true (Err fault.Unknown) m e = absurd cc
turn_is true (Err fault.Several) m e = absurd cc
turn_is true (Err fault.NoMemory) m e = absurd cc
turn_is false (Err fault.Syntax) m e = absurd cc
turn_is false (Err fault.Unknown) m e = absurd cc
turn_is false (Err fault.Several) m e = absurd cc
turn_is false (Err fault.NoMemory) m e = absurd cc

move_is : (p : Pos) (line : List ℕ) (m : Move) → move_form p line ≡ Ok m → SpellsMove p line m
unfolding move_form
move_is p line m e = go (marked line) refl e
  where
    go : (o : Option (Side × List ℕ)) → marked line ≡ o → move_by p o ≡ Ok m → SpellsMove p line m
    go None is h = absurd cc
    go (Some s) is h =
        let t = turn_is (is_same_side s.0 p.side) (meant p s.1) m h in
        record {
          text = s.1;
          is = marks_is line s is ∙ ap (λ w. side_mark w ++ s.1) (same_side_eq s.0 p.side t.0);
          only = subst (Means p s.1) t.1 (meant_means p s.1);
        }

move_again : (p : Pos) (line : List ℕ) (m : Move) → SpellsMove p line m → move_form p line ≡ Ok m
unfolding move_form
move_again p line m s =
    ap (λ l. move_by p (marked l)) s.is ∙ ap (move_by p) (marks_again p.side s.text)
    ∙ ap (λ t. in_turn t (meant p s.text)) (same_side_self p.side) ∙ ap (in_turn true) (meant_only p s.text m s.only)

-- ---- a line

end_is : (line : List ℕ) → bytes_eq line (codes "end") ≡ true → line ≡ codes "end"
end_is line e = (bytes_eq-Decides line (codes "end")).0 e

end_again : (p : Pos) (line : List ℕ) → line ≡ codes "end" → line_form p line ≡ Ok End
unfolding line_form
end_again p line e = ap (λ (l : List ℕ). cond (bytes_eq l (codes "end")) (Ok End) (move_form p l >>= λ m. Ok (Played m))) e

pub line_again : (p : Pos) (who : Side) (line text : List ℕ) → line ≡ side_mark who ++ text → line_form p line ≡ (move_form p line >>= λ m. Ok (Played m))
unfolding line_form
line_again p who line text e = ap (λ b. cond b (Ok End) (move_form p line >>= λ m. Ok (Played m))) (ap (λ (l : List ℕ). bytes_eq l (codes "end")) e ∙ not_end who text)

-- what a line after the start is
line_is : (p : Pos) (line : List ℕ) (l : RecordLine) → line_form p line ≡ Ok l → ((l ≡ End) × (line ≡ codes "end")) ⊎ ((m : Move) × (l ≡ Played m) × SpellsMove p line m)
unfolding line_form
line_is p line l e = go (bytes_eq line (codes "end")) refl (move_form p line) refl e
  where
    go : (b : Bool) → bytes_eq line (codes "end") ≡ b → (r : Result Move TextKind) → move_form p line ≡ r → cond b (Ok End) (r >>= λ m. Ok (Played m)) ≡ Ok l →
        ((l ≡ End) × (line ≡ codes "end")) ⊎ ((m : Move) × (l ≡ Played m) × SpellsMove p line m)
    go true is r js h = let same : End ≡ l = cc in inl (sym same, end_is line is)
    go false is (Ok m) js h = let same : Played m ≡ l = cc in inr (m, sym same, move_is p line m js)
    go false is (Err kind) js h = absurd cc

-- the move of a line is legal
pub played_legal : (p : Pos) (line : List ℕ) (m : Move) → line_form p line ≡ Ok (Played m) → is_legal p m ≡ true
played_legal p line m e = go (line_is p line (Played m) e)
  where
    go : ((Played m ≡ End) × (line ≡ codes "end")) ⊎ ((o : Move) × (Played m ≡ Played o) × SpellsMove p line o) → is_legal p m ≡ true
    go (inl h) = let bad = h.0 in absurd cc
    go (inr h) = let is = h.1 in let same : m ≡ h.0 = cc in ap (is_legal p) same ∙ h.2.only.matches.legal

-- what the lines of the moves spell, and the last line
abbrev pub MoveLine : Pos → List Move → List ℕ → Move → Type 0
MoveLine start before line m = SpellsMove (after_all start before) line m

abbrev pub EndLine : List Move → List ℕ → Unit {0} → Type 0
EndLine before line u = line ≡ codes "end"

pub step_is : (start : Pos) (ms : List Move) (line : List ℕ) (step : Step (List Move) (List Move × Unit {0})) → step_form start ms line ≡ Ok step → IsStep (MoveLine start) EndLine ms line step
step_is start ms line step e = go (line_form (after_all start ms) line) refl e
  where
    by : (l : RecordLine) → led ms l ≡ step → ((l ≡ End) × (line ≡ codes "end")) ⊎ ((m : Move) × (l ≡ Played m) × SpellsMove (after_all start ms) line m) → IsStep (MoveLine start) EndLine ms line step
    by l same (inl h) = subst (IsStep (MoveLine start) EndLine ms line) (ap (led ms) (sym h.0) ∙ same) (refl, h.1)
    by l same (inr h) = subst (IsStep (MoveLine start) EndLine ms line) (ap (led ms) (sym h.1) ∙ same) (h.0, refl, h.2)

    go : (r : Result RecordLine TextKind) → line_form (after_all start ms) line ≡ r → (r >>= λ l. Ok (led ms l)) ≡ Ok step → IsStep (MoveLine start) EndLine ms line step
    go (Err kind) is h = absurd cc
    go (Ok l) is h = let same : led ms l ≡ step = cc in by l same (line_is (after_all start ms) line l is)

pub moves_form : (start : Pos) → IsItemForm (step_form start) (MoveLine start) EndLine
moves_form start = record {
  found = step_is start;
  one = λ ms line m s.
      ap (λ (r : Result RecordLine TextKind). r >>= λ l. Ok (led ms l))
      (line_again (after_all start ms) (after_all start ms).side line s.text s.is ∙ ap (λ (r : Result Move TextKind). r >>= λ m. Ok (Played m)) (move_again (after_all start ms) line m s));
  last = λ ms line u e. ap (λ (r : Result RecordLine TextKind). r >>= λ l. Ok (led ms l)) (end_again (after_all start ms) line e);
}

-- ---- the position

pub after_more : (p : Pos) (ms : List Move) (m : Move) → after_all p (ms ++ m ∷ []) ≡ after (after_all p ms) m
after_more p [] m = refl
after_more p (x ∷ ms) m = after_more (after p x) ms m

pub taken_legal : (p : Pos) (from new : Place) (m : Move) → taken (line_form p) from ≡ Ok (Played m, new) → is_legal p m ≡ true
taken_legal p from new m e = let t = taken_at (line_form p) from new (Played m) e in played_legal p t.text m t.is

-- a line behind moves that is refused
pub moves_bad : {X : Type 0} (view : X → List Move × Unit {0}) (start p : Pos) (ms : List Move) (from new : Place) (e : TextFault) (all : Result ((List Move × Unit {0}) × Place) TextFault) → p ≡ after_all start ms →
    GivesOn {X = RecordLine} (λ l. l) (Err e) new (taken (line_form p) from) → up_to_last (step_form start) ms from.number from.left ≡ all → GivesOn view (Err e) new all
moves_bad view start p ms from new e all is given so = loop_refused (step_form start) (line_form p) ms (led ms) (λ l. ap (λ q. line_form q l >>= λ x. Ok (led ms x)) (sym is)) view from new e all given so

pub ruleset reads = (after_more, taken_legal, moves_bad)
