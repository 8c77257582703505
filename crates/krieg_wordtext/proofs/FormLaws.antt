-- The four parts of words: what each tells is read from its text and from no other part's, and is spelled so.
use Rattle.std.proofs.Common.{◌≡◌, ◌≢◌, ℕ, ◌<◌, ◌≤◌, true, false, not, ◌==◌, cond, List, [], ◌∷◌, ◌++◌, Option, Some, None, Result, Ok, Err, refl, sym, ap, ◌∙◌, arith, zero, suc, eqb-true, lit<, lit≤}
use Rattle.std.specs.Prelude.{codes}
use Rattle.std.specs.Str.{bytes_eq}
use Rattle.krieg_wordtext.proofs.Common.{behind, number_text, number_between, square_text, NumberFault, bits_of, Kinds, End, Goes, Mate, Stalemate, Took, Piece, MenTold, Apart, Alike, ChecksTold, ByKind, Bare, TriesTold, Number, Any, Untold, IsTaken, MOST_TRIES, took_told, checks_told, tries_told, no_kinds, some_kind, joined_by, kind_names, took_text, is_capture, checks_text, is_check, tries_text, are_tries, end_text, has_ended, square_in, pawn_or_piece, took_in, checks_named, checks_in, number_in, count_in, tries_in, end_in, read_parts}
use Rattle.krieg_text.proofs.NameLemmas.{behind_again}
use Rattle.krieg_fen.proofs.MoveTexts.{named_spells, named_again}
use Rattle.krieg_text.proofs.Numbers.{between_spells, between_again}
use Rattle.krieg_words.specs.declared.words.Took.TheVariants.{Nothing, Pawn}
use Rattle.krieg_words.proofs.OrderLaws.{bits_of_same}
use Rattle.krieg_words.proofs.Cases.{by_test, by_name}
use Rattle.krieg_wordtext.proofs.Cases.{by_front}
use Rattle.krieg_wordtext.proofs.PartLaws.{IsPart, AreParts, no_parts, parts_then}
use Rattle.krieg_wordtext.proofs.NameLaws.{named_again as kinds_again, named_spells as kinds_spell}
use Rattle.krieg_wordtext.proofs.CleanWords.{part_free, took_has, checks_have, tries_have, end_has}

-- What was captured.
square_again : (name : List ℕ) (s : ℕ) → s < 64 → square_in (behind name (name ++ square_text s)) ≡ Some s
square_again name s lt = ap square_in (behind_again name (square_text s)) ∙ named_again s lt

square_spells : (name s : List ℕ) (x : ℕ) → square_in (behind name s) ≡ Some x → (x < 64) × (s ≡ name ++ square_text x)
square_spells name s x e =
    by_front (λ y. square_in y ≡ Some x → (x < 64) × (s ≡ name ++ square_text x)) name s
    (λ rest is h. (let n = named_spells rest x h in (n.0, is ∙ ap (λ (t : List ℕ). name ++ t) n.1))) (λ h. absurd cc) e

abbrev pub TellsTook : MenTold → Took → Type 0
TellsTook men t = IsTaken t × (took_told men t ≡ t)

took_takes : (men : MenTold) (t : Took) → TellsTook men t → is_capture t ≡ true → took_in men (took_text men t) ≡ t
unfolding behind
took_takes men Nothing k there = absurd cc
took_takes Apart (Pawn s) k there = ap (λ (x : Option ℕ). pawn_or_piece x None) (square_again (codes "pawn ") s k.0)
took_takes Apart (Piece s) k there = ap (λ (x : Option ℕ). pawn_or_piece None x) (square_again (codes "piece ") s k.0)
took_takes Alike (Pawn s) k there = absurd (let e : Piece s ≡ Pawn s = k.1 in cc)
took_takes Alike (Piece s) k there = ap (λ (x : Option ℕ). pawn_or_piece None x) (square_again (codes "took ") s k.0)

record TookIs (men : MenTold) (s : List ℕ) (t : Took) : Type 0 where
  tells : TellsTook men t
  text : is_capture t ≡ true → (s ≡ took_text men t) × (took_text men t ≢ [])

took_cases : (P : Took → Type 0) (a b : Option ℕ) → ((x : ℕ) → a ≡ Some x → P (Pawn x)) → ((x : ℕ) → b ≡ Some x → P (Piece x)) → P Nothing → P (pawn_or_piece a b)
took_cases P (Some x) b pawn piece none = pawn x refl
took_cases P None (Some x) pawn piece none = piece x refl
took_cases P None None pawn piece none = none

took_is : (men : MenTold) (s : List ℕ) → TookIs men s (took_in men s)
took_is Apart s =
    took_cases (TookIs Apart s) (square_in (behind (codes "pawn ") s)) (square_in (behind (codes "piece ") s))
    (λ x h. (let p = square_spells (codes "pawn ") s x h in record { tells = (p.0, refl); text = λ _. (p.1, λ e. cc) }))
    (λ x h. (let p = square_spells (codes "piece ") s x h in record { tells = (p.0, refl); text = λ _. (p.1, λ e. cc) }))
    (record { tells = (tt, refl); text = λ there. absurd cc })
took_is Alike s =
    took_cases (TookIs Alike s) None (square_in (behind (codes "took ") s))
    (λ x h. absurd cc)
    (λ x h. (let p = square_spells (codes "took ") s x h in record { tells = (p.0, refl); text = λ _. (p.1, λ e. cc) }))
    (record { tells = (tt, refl); text = λ there. absurd cc })

no_capture : (t : Took) → is_capture t ≡ false → Nothing ≡ t
no_capture Nothing h = refl
no_capture _ h = absurd cc

pub took_part : (men : MenTold) → IsPart 44 (took_in men) is_capture (took_text men) (TellsTook men) Nothing
took_part men = record {
  takes = λ t k there. (took_takes men t k there, part_free (took_text men t) (took_has men t));
  absent = λ t k none. no_capture t none;
  tells = λ s. (took_is men s).tells;
  spells = λ s there. (took_is men s).text there;
}

-- The kinds of check.
abbrev pub TellsChecks : ChecksTold → Kinds → Type 0
TellsChecks checks k = checks_told checks k ≡ k

no_check : (k : Kinds) → is_check k ≡ false → no_kinds ≡ k
no_check k h = by_test (λ t. not t ≡ false → no_kinds ≡ k) (bits_of k == 0) (λ e h. sym (bits_of_same k no_kinds (eqb-true (bits_of k) 0 e))) (λ e h. absurd cc) h

checks_take : (checks : ChecksTold) (k : Kinds) → TellsChecks checks k → is_check k ≡ true → checks_in checks (checks_text checks k) ≡ k
checks_take ByKind k fits held = ap checks_named (behind_again (codes "check ") (joined_by (codes "+") (kind_names k))) ∙ kinds_again k
checks_take Bare k fits held = by_test (λ t. not t ≡ true → cond t no_kinds some_kind ≡ k → some_kind ≡ k) (bits_of k == 0) (λ z h e. absurd cc) (λ z h e. e) held fits

checks_tell : (checks : ChecksTold) (s : List ℕ) → TellsChecks checks (checks_in checks s)
checks_tell ByKind s = refl
checks_tell Bare s = by_name (λ t. TellsChecks Bare (cond t some_kind no_kinds)) s (codes "check") (λ is. refl) refl

checks_spell : (checks : ChecksTold) (s : List ℕ) → is_check (checks_in checks s) ≡ true → (s ≡ checks_text checks (checks_in checks s)) × (checks_text checks (checks_in checks s) ≢ [])
checks_spell ByKind s held =
    by_front (λ y. is_check (checks_named y) ≡ true → (s ≡ checks_text ByKind (checks_named y)) × (checks_text ByKind (checks_named y) ≢ [])) (codes "check ") s
    (λ rest is h. (is ∙ ap (λ (t : List ℕ). codes "check " ++ t) (kinds_spell rest h), λ e. cc)) (λ h. absurd cc) held
checks_spell Bare s held =
    by_name (λ t. is_check (cond t some_kind no_kinds) ≡ true → (s ≡ codes "check") × (codes "check" ≢ [])) s (codes "check") (λ is h. (is, λ e. cc)) (λ h. absurd cc) held

pub checks_part : (checks : ChecksTold) → IsPart 44 (checks_in checks) is_check (checks_text checks) (TellsChecks checks) no_kinds
checks_part checks = record {
  takes = λ k fits held. (checks_take checks k fits held, part_free (checks_text checks k) (checks_have checks k));
  absent = λ k fits none. no_check k none;
  tells = checks_tell checks;
  spells = checks_spell checks;
}

-- The pawn tries.
abbrev pub TellsTries : TriesTold → ℕ → Type 0
TellsTries tries n = (n ≤ MOST_TRIES) × (tries_told tries n ≡ n)

not_zero : (n : ℕ) → not (n == 0) ≡ true → 1 ≤ n
not_zero zero h = absurd cc
not_zero (suc n) h = omega arith

is_zero : (n : ℕ) → not (n == 0) ≡ false → 0 ≡ n
is_zero n h = by_test (λ t. not t ≡ false → 0 ≡ n) (n == 0) (λ e h. sym (eqb-true n 0 e)) (λ e h. absurd cc) h

no_tries : (tries : TriesTold) (n : ℕ) → TellsTries tries n → are_tries tries n ≡ false → 0 ≡ n
no_tries Number n k h = is_zero n h
no_tries Any n k h = is_zero n h
no_tries Untold n k h = k.1

tries_take : (tries : TriesTold) (n : ℕ) → TellsTries tries n → are_tries tries n ≡ true → tries_in tries (tries_text tries n) ≡ n
tries_take Number n k there =
    ap count_in (behind_again (codes "tries ") (number_text n)) ∙ ap number_in (between_again 1 MOST_TRIES n (not_zero n there) k.0 (lit< tt))
tries_take Any n k there = by_test (λ t. not t ≡ true → cond t 0 1 ≡ n → 1 ≡ n) (n == 0) (λ z h e. absurd cc) (λ z h e. e) there k.1
tries_take Untold n k there = absurd cc

record TriesAre (tries : TriesTold) (s : List ℕ) (n : ℕ) : Type 0 where
  tells : TellsTries tries n
  text : are_tries tries n ≡ true → (s ≡ tries_text tries n) × (tries_text tries n ≢ [])

number_is : (s rest : List ℕ) (r : Result ℕ NumberFault) → s ≡ codes "tries " ++ rest → number_between rest 1 MOST_TRIES ≡ r → TriesAre Number s (number_in r)
number_is s rest (Err fault) is e = record { tells = (lit≤ tt, refl); text = λ there. absurd cc }
number_is s rest (Ok n) is e =
    let b = between_spells rest 1 MOST_TRIES n (lit< tt) e in
    record { tells = (b.1, refl); text = λ there. (is ∙ ap (λ (t : List ℕ). codes "tries " ++ t) b.2, λ e. cc) }

tries_are : (tries : TriesTold) (s : List ℕ) → TriesAre tries s (tries_in tries s)
tries_are Number s =
    by_front (λ y. TriesAre Number s (count_in y)) (codes "tries ") s
    (λ rest is. number_is s rest (number_between rest 1 MOST_TRIES) is refl) (record { tells = (lit≤ tt, refl); text = λ there. absurd cc })
tries_are Any s =
    by_name (λ t. TriesAre Any s (cond t 1 0)) s (codes "tries some")
    (λ is. record { tells = (lit≤ tt, refl); text = λ there. (is, λ e. cc) }) (record { tells = (lit≤ tt, refl); text = λ there. absurd cc })
tries_are Untold s = record { tells = (lit≤ tt, refl); text = λ there. absurd cc }

pub tries_part : (tries : TriesTold) → IsPart 44 (tries_in tries) (are_tries tries) (tries_text tries) (TellsTries tries) 0
tries_part tries = record {
  takes = λ n k there. (tries_take tries n k there, part_free (tries_text tries n) (tries_have tries n k.0));
  absent = no_tries tries;
  tells = λ s. (tries_are tries s).tells;
  spells = λ s there. (tries_are tries s).text there;
}

-- The end.
no_end : (e : End) → has_ended e ≡ false → Goes ≡ e
no_end Goes h = refl
no_end _ h = absurd cc

end_takes : (e : End) → has_ended e ≡ true → end_in (end_text e) ≡ e
end_takes Goes h = absurd cc
end_takes Mate h = refl
end_takes Stalemate h = refl

end_spells : (s : List ℕ) → has_ended (end_in s) ≡ true → (s ≡ end_text (end_in s)) × (end_text (end_in s) ≢ [])
end_spells s there =
    by_name (λ a. has_ended (cond a Mate (cond (bytes_eq s (codes "stalemate")) Stalemate Goes)) ≡ true → Spelled (cond a Mate (cond (bytes_eq s (codes "stalemate")) Stalemate Goes))) s (codes "mate")
    (λ is h. (is, λ e. cc))
    (by_name (λ b. has_ended (cond b Stalemate Goes) ≡ true → Spelled (cond b Stalemate Goes)) s (codes "stalemate") (λ is h. (is, λ e. cc)) (λ h. absurd cc)) there
  where
    Spelled : End → Type 0
    Spelled e = (s ≡ end_text e) × (end_text e ≢ [])

pub end_part : IsPart 44 end_in has_ended end_text (λ e. Unit {0}) Goes
end_part = record {
  takes = λ e k there. (end_takes e there, part_free (end_text e) (end_has e));
  absent = λ e k none. no_end e none;
  tells = λ s. tt;
  spells = end_spells;
}

-- No form finds anything in the text of a part after its own, nor in an empty text.
took_leaves_checks : (men : MenTold) (checks : ChecksTold) (k : Kinds) → took_in men (checks_text checks k) ≡ Nothing
unfolding behind
took_leaves_checks Apart ByKind k = refl
took_leaves_checks Alike ByKind k = refl
took_leaves_checks _ _ k = refl

took_leaves_tries : (men : MenTold) (tries : TriesTold) (n : ℕ) → took_in men (tries_text tries n) ≡ Nothing
unfolding behind
took_leaves_tries Apart Number n = refl
took_leaves_tries Alike Number n = refl
took_leaves_tries _ _ n = refl

took_leaves_end : (men : MenTold) (e : End) → took_in men (end_text e) ≡ Nothing
unfolding behind
took_leaves_end Apart Goes = refl
took_leaves_end Alike Goes = refl
took_leaves_end _ _ = refl

checks_leave_tries : (checks : ChecksTold) (tries : TriesTold) (n : ℕ) → checks_in checks (tries_text tries n) ≡ no_kinds
unfolding behind
checks_leave_tries ByKind Number n = refl
checks_leave_tries Bare Number n = refl
checks_leave_tries _ _ n = refl

checks_leave_end : (checks : ChecksTold) (e : End) → checks_in checks (end_text e) ≡ no_kinds
unfolding behind
checks_leave_end ByKind Goes = refl
checks_leave_end Bare Goes = refl
checks_leave_end _ _ = refl

tries_leave_end : (tries : TriesTold) (e : End) → tries_in tries (end_text e) ≡ 0
unfolding behind
tries_leave_end Number Goes = refl
tries_leave_end Any Goes = refl
tries_leave_end _ _ = refl

leave_nothing : (men : MenTold) (checks : ChecksTold) (tries : TriesTold) → (took_in men [] ≡ Nothing) × (checks_in checks [] ≡ no_kinds) × (tries_in tries [] ≡ 0)
leave_nothing men checks tries = (took_leaves_end men Goes, checks_leave_end checks Goes, tries_leave_end tries Goes)

abbrev pub Told : Type 0
Told = Took × (Kinds × (ℕ × (End × Unit {0})))

-- the parts of words are read where they are written
pub four_parts : (men : MenTold) (checks : ChecksTold) (tries : TriesTold) →
    AreParts 44 (codes " ") (read_parts men checks tries)
    (λ (x : Told). (is_capture x.0, took_text men x.0) ∷ (is_check x.1.0, checks_text checks x.1.0) ∷ (are_tries tries x.1.1.0, tries_text tries x.1.1.0) ∷ (has_ended x.1.1.1.0, end_text x.1.1.1.0) ∷ [])
    (λ (x : Told). TellsTook men x.0 × (TellsChecks checks x.1.0 × (TellsTries tries x.1.1.0 × (Unit {0} × Unit {0}))))
four_parts men checks tries =
    let none = leave_nothing men checks tries in
    parts_then 44 (codes " ") (took_in men) is_capture (took_text men) Nothing (TellsTook men) _ _ _ (took_part men)
    (parts_then 44 (codes " ") (checks_in checks) is_check (checks_text checks) no_kinds (TellsChecks checks) _ _ _ (checks_part checks)
    (parts_then 44 (codes " ") (tries_in tries) (are_tries tries) (tries_text tries) 0 (TellsTries tries) _ _ _ (tries_part tries)
    (parts_then 44 (codes " ") end_in has_ended end_text Goes (λ e. Unit {0}) _ _ _ end_part (no_parts 44 (codes " ")) (λ y k. refl))
    (λ y k. ((λ h. (tries_leave_end tries y.0, part_free (end_text y.0) (end_has y.0))), none.2)))
    (λ y k. (
      (λ h. (checks_leave_tries checks tries y.0, part_free (tries_text tries y.0) (tries_have tries y.0 k.0.0))),
      ((λ h. (checks_leave_end checks y.1.0, part_free (end_text y.1.0) (end_has y.1.0))), none.1),
    )))
    (λ y k. (
      (λ h. (took_leaves_checks men checks y.0, part_free (checks_text checks y.0) (checks_have checks y.0))),
      (
        (λ h. (took_leaves_tries men tries y.1.0, part_free (tries_text tries y.1.0) (tries_have tries y.1.0 k.1.0.0))),
        ((λ h. (took_leaves_end men y.1.1.0, part_free (end_text y.1.1.0) (end_has y.1.1.0))), none.0),
      ),
    ))
