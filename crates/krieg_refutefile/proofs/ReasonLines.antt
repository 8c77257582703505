-- Which lines are those of reasons.
use Rattle.std.proofs.Common.{◌≡◌, ℕ, ◌+◌, ◌<◌, ◌≤◌, Bool, true, false, cond, List, ◌∷◌, ◌++◌, Option, Some, None, Result, Ok, Err, refl, sym, ap, subst, ◌∙◌, arith, append_assoc}
use Rattle.std.specs.Prelude.{codes, slice_index}
use Rattle.std.specs.Str.{bytes_eq}
use Rattle.std.proofs.lemmas.Slice.Eq.{bytes_eq-Decides}
use Rattle.krieg_refutefile.proofs.Common.{Move, TextKind, OutOfPlace, NumberFault, NotPlain, OutOfRange, number_text, number_between, Has, ranged, is_line, behind, cut, ◌>>=◌, joined, move_text, move_of, words_text, Dialect, Key, key_in, MOST_CLAIMS, Why, Lives, Stale, Class, Refused, Reason, place_form, cut_last, class_with, class_form, citing_form, why_form, reason_by, reason_form, a_reason, why_pieces, reason_line, CitesBelow, IsToldWhy, IsToldReason}
use Rattle.krieg_board.specs.declared.men.Promo.TheVariants.{Plain}
use Rattle.krieg_text.proofs.CleanTexts.{number_line}
use Rattle.krieg_text.proofs.Formats.{IsForm}
use Rattle.krieg_text.proofs.Free.{above_less}
use Rattle.krieg_text.proofs.LineTexts.{line_above, line_append}
use Rattle.krieg_text.proofs.NameLemmas.{behind_again, behind_spells, cut_again, cut_spells}
use Rattle.krieg_text.proofs.Numbers.{between_spells, between_again}
use Rattle.krieg_fen.proofs.CleanTexts.{move_above, move_line}
use Rattle.krieg_fen.proofs.MoveTexts.{move_spells, move_again}
use Rattle.krieg_wordtext.proofs.CleanWords.{words_above, above_free}
use Rattle.krieg_planfile.proofs.KeyForms.{key_spells, key_again}
use Rattle.krieg_format.proofs.Judged.{IsLine, Sample}
use Rattle.krieg_format.proofs.Leaves.{formed_law, formed_some}
use Rattle.krieg_format.proofs.Writing.{IsWritten}
use Rattle.krieg_refutefile.proofs.ClaimLines.{number_free}
use Rattle.krieg_text.proofs.LastCuts.{last_spells, last_again}

-- ---- the place of a claim

ranged_ok : (r : Result ℕ NumberFault) (i : ℕ) → ranged OutOfPlace r ≡ Ok i → r ≡ Ok i
ranged_ok (Ok k) i e = let same : k ≡ i = cc in ap Ok same
ranged_ok (Err NotPlain) i e = absurd cc
ranged_ok (Err OutOfRange) i e = absurd cc

place_spells : (text : List ℕ) (i : ℕ) → place_form text ≡ Ok i → (1 ≤ i) × (i ≤ MOST_CLAIMS) × (text ≡ number_text i)
place_spells text i e = between_spells text 1 MOST_CLAIMS i (omega arith) (ranged_ok (number_between text 1 MOST_CLAIMS) i e)

place_again : (i : ℕ) → 1 ≤ i → i < MOST_CLAIMS + 1 → place_form (number_text i) ≡ Ok i
place_again i low high = ap (ranged OutOfPlace) (between_again 1 MOST_CLAIMS i low (omega (arith, high)) (omega arith))

-- ---- why a try does not win

-- the text after the move and its space
abbrev IsWhy : Dialect → List ℕ → Why → Type 0
IsWhy d text y = (32 ∷ text ≡ joined (why_pieces d y)) × IsToldWhy d y × CitesBelow (MOST_CLAIMS + 1) y

by_place : (d : Dialect) (text class front back : List ℕ) (key : Option Key) (place : Result ℕ TextKind) (y : Why) → text ≡ codes "class " ++ class → class ≡ front ++ (32 ∷ back) → key_in d front ≡ key → place_form back ≡ place →
    class_with key place ≡ Ok y → IsWhy d text y
by_place d text class front back None place y named cut k p e = absurd cc
by_place d text class front back (Some key) (Err kind) y named cut k p e = absurd cc
by_place d text class front back (Some key) (Ok i) y named cut k p e =
    let a = key_spells d front key k in
    let b = place_spells back i p in
    let v = words_text d key.0 in
    let w = words_text d key.1 in
    let low : 1 ≤ i = b.0 in
    let high : i < MOST_CLAIMS + 1 = omega (arith, b.1) in
    let same : Class key i ≡ y = cc in
    let whole : class ≡ v ++ (codes " / " ++ (w ++ (codes " " ++ number_text i))) =
    cut ∙ ap (λ (x : List ℕ). x ++ (32 ∷ back)) a.0 ∙ ap (λ (x : List ℕ). (v ++ (codes " / " ++ w)) ++ (32 ∷ x)) b.2 ∙ append_assoc v (codes " / " ++ w) (32 ∷ number_text i) in
    subst (IsWhy d text) same (ap (λ (x : List ℕ). 32 ∷ x) (named ∙ ap (λ (x : List ℕ). codes "class " ++ x) whole), a.1, (low, high))

by_last : (d : Dialect) (text class : List ℕ) (x : Option (List ℕ × List ℕ)) (y : Why) → text ≡ codes "class " ++ class → cut_last 32 class ≡ x → class_form d x ≡ Ok y → IsWhy d text y
by_last d text class None y named cut e = absurd cc
by_last d text class (Some x) y named cut e = by_place d text class x.0 x.1 (key_in d x.0) (place_form x.1) y named (last_spells 32 class x cut) refl refl e

by_refused : (d : Dialect) (text rest : List ℕ) (place : Result ℕ TextKind) (y : Why) → text ≡ codes "refused " ++ rest → place_form rest ≡ place → (place >>= λ i. Ok (Refused i)) ≡ Ok y → IsWhy d text y
by_refused d text rest (Err kind) y named p e = absurd cc
by_refused d text rest (Ok i) y named p e =
    let b = place_spells rest i p in
    let low : 1 ≤ i = b.0 in
    let high : i < MOST_CLAIMS + 1 = omega (arith, b.1) in
    let same : Refused i ≡ y = cc in
    subst (IsWhy d text) same (ap (λ (x : List ℕ). 32 ∷ x) (named ∙ ap (λ (x : List ℕ). codes "refused " ++ x) b.2), tt, (low, high))

by_citing : (d : Dialect) (text : List ℕ) (class refused : Option (List ℕ)) (y : Why) → behind (codes "class ") text ≡ class → behind (codes "refused ") text ≡ refused → citing_form d class refused ≡ Ok y → IsWhy d text y
by_citing d text (Some class) refused y c r e = by_last d text class (cut_last 32 class) y (behind_spells (codes "class ") text class c) refl e
by_citing d text None (Some rest) y c r e = by_refused d text rest (place_form rest) y (behind_spells (codes "refused ") text rest r) refl e
by_citing d text None None y c r e = absurd cc

why_spells : (d : Dialect) (text : List ℕ) (y : Why) → why_form d text ≡ Ok y → IsWhy d text y
why_spells d text y e = go (bytes_eq text (codes "lives")) (bytes_eq text (codes "stale")) (bytes_eq-Decides text (codes "lives")).0 (bytes_eq-Decides text (codes "stale")).0 e
  where
    go : (a b : Bool) → (a ≡ true → text ≡ codes "lives") → (b ≡ true → text ≡ codes "stale") →
        cond a (Ok Lives) (cond b (Ok Stale) (citing_form d (behind (codes "class ") text) (behind (codes "refused ") text))) ≡ Ok y → IsWhy d text y
    go true b lives stale h = let same : Lives ≡ y = cc in subst (IsWhy d text) same (ap (λ (x : List ℕ). 32 ∷ x) (lives refl), tt, tt)
    go false true lives stale h = let same : Stale ≡ y = cc in subst (IsWhy d text) same (ap (λ (x : List ℕ). 32 ∷ x) (stale refl), tt, tt)
    go false false lives stale h = by_citing d text (behind (codes "class ") text) (behind (codes "refused ") text) y refl refl h

-- a text that is neither word
neither : (d : Dialect) (text : List ℕ) → (text ≡ codes "lives" → ⊥) → (text ≡ codes "stale" → ⊥) → why_form d text ≡ citing_form d (behind (codes "class ") text) (behind (codes "refused ") text)
neither d text lives stale = go (bytes_eq text (codes "lives")) (bytes_eq text (codes "stale")) (bytes_eq-Decides text (codes "lives")).0 (bytes_eq-Decides text (codes "stale")).0
  where
    rest : Result Why TextKind
    rest = citing_form d (behind (codes "class ") text) (behind (codes "refused ") text)

    go : (a b : Bool) → (a ≡ true → text ≡ codes "lives") → (b ≡ true → text ≡ codes "stale") → cond a (Ok Lives) (cond b (Ok Stale) rest) ≡ rest
    go true b l s = absurd (lives (l refl))
    go false true l s = absurd (stale (s refl))
    go false false l s = refl

-- `refused ` is no `class `
no_class : (rest : List ℕ) → behind (codes "class ") (codes "refused " ++ rest) ≡ None
no_class rest = go (behind (codes "class ") (codes "refused " ++ rest)) refl
  where
    go : (o : Option (List ℕ)) → behind (codes "class ") (codes "refused " ++ rest) ≡ o → o ≡ None
    go None is = refl
    go (Some x) is = let first : 114 ≡ 99 = ap (λ (t : List ℕ). slice_index t 0) (behind_spells (codes "class ") (codes "refused " ++ rest) x is) in absurd (omega (arith, first))

why_again : (d : Dialect) (text : List ℕ) (y : Why) → IsWhy d text y → why_form d text ≡ Ok y
why_again d text Lives s = let same : text ≡ codes "lives" = cc in ap (why_form d) same
why_again d text Stale s = let same : text ≡ codes "stale" = cc in ap (why_form d) same
why_again d text (Refused i) s =
    let same : text ≡ codes "refused " ++ number_text i = cc in
    let t : List ℕ = codes "refused " ++ number_text i in
    ap (why_form d) same
    ∙ neither d t (λ e. cc) (λ e. cc)
    ∙ ap (λ (o : Option (List ℕ)). citing_form d o (behind (codes "refused ") t)) (no_class (number_text i))
    ∙ ap (citing_form d None) (behind_again (codes "refused ") (number_text i))
    ∙ ap (λ (r : Result ℕ TextKind). r >>= λ i. Ok (Refused i)) (place_again i s.2.0 s.2.1)
why_again d text (Class (own, reply) i) s =
    let v = words_text d own in
    let w = words_text d reply in
    let rest : List ℕ = v ++ (codes " / " ++ (w ++ (32 ∷ number_text i))) in
    let same : text ≡ codes "class " ++ rest = cc in
    let high : i < MOST_CLAIMS + 1 = s.2.1 in
    let cut : cut_last 32 rest ≡ Some (v ++ (codes " / " ++ w), number_text i) =
    ap (cut_last 32) (sym (append_assoc v (codes " / " ++ w) (32 ∷ number_text i))) ∙ last_again 32 (v ++ (codes " / " ++ w)) (number_text i) (number_free i (omega (arith, high))) in
    ap (why_form d) same
    ∙ neither d (codes "class " ++ rest) (λ e. cc) (λ e. cc)
    ∙ ap (λ (o : Option (List ℕ)). citing_form d o (behind (codes "refused ") (codes "class " ++ rest))) (behind_again (codes "class ") rest)
    ∙ ap (class_form d) cut
    ∙ ap (λ (k : Option Key). class_with k (place_form (number_text i))) (key_again d (v ++ (codes " / " ++ w)) (own, reply) (refl, s.1))
    ∙ ap (class_with (Some (own, reply))) (place_again i s.2.0 s.2.1)

-- ---- the line

-- the move, and what is after it
why_joined : (d : Dialect) (m : Move) (y : Why) → joined (move_text m ∷ why_pieces d y) ≡ move_text m ++ joined (why_pieces d y)
why_joined d m Lives = refl
why_joined d m Stale = refl
why_joined d m (Class heard i) = refl
why_joined d m (Refused i) = refl

-- there is a space before it
why_spaced : (d : Dialect) (y : Why) → (text : List ℕ) × (32 ∷ text ≡ joined (why_pieces d y))
why_spaced d Lives = (codes "lives", refl)
why_spaced d Stale = (codes "stale", refl)
why_spaced d (Class heard i) = (codes "class " ++ (words_text d heard.0 ++ (codes " / " ++ (words_text d heard.1 ++ (32 ∷ number_text i)))), refl)
why_spaced d (Refused i) = (codes "refused " ++ number_text i, refl)

abbrev SaysReason : Dialect → List ℕ → Reason → Type 0
SaysReason d l r = (l ≡ joined (reason_line d r)) × IsToldReason d (MOST_CLAIMS + 1) r

by_why : (d : Dialect) (line first rest : List ℕ) (m : Move) (y : Result Why TextKind) (r : Reason) → line ≡ first ++ (32 ∷ rest) → move_of first ≡ Some m → why_form d rest ≡ y → (y >>= λ why. Ok (record { mv = m; why = why })) ≡ Ok r → SaysReason d line r
by_why d line first rest m (Err kind) r whole mv w e = absurd cc
by_why d line first rest m (Ok y) r whole mv w e =
    let a = move_spells first m mv in
    let b = why_spells d rest y w in
    let made : Reason = record { mv = m; why = y } in
    let same : made ≡ r = cc in
    subst (SaysReason d line) same (
      whole ∙ ap (λ (x : List ℕ). x ++ (32 ∷ rest)) a.1 ∙ ap (λ (x : List ℕ). move_text m ++ x) b.0 ∙ sym (why_joined d m y),
      record { on_board = a.0; told = b.1; cites = b.2 },
    )

by_move : (d : Dialect) (line first : List ℕ) (o : Option Move) (rest : Option (List ℕ)) (r : Reason) → (cut 32 line).0 ≡ first → move_of first ≡ o → (cut 32 line).1 ≡ rest → reason_by d o rest ≡ Ok r → SaysReason d line r
by_move d line first None rest r c is k e = absurd cc
by_move d line first (Some m) None r c is k e = absurd cc
by_move d line first (Some m) (Some rest) r c is k e = by_why d line first rest m (why_form d rest) r (cut_spells 32 line first rest c k) is refl e

reason_again : (d : Dialect) (line : List ℕ) (r : Reason) → SaysReason d line r → reason_form d line ≡ Ok r
unfolding reason_form
reason_again d line r s =
    let m = r.mv in
    let f = why_spaced d r.why in
    ap (reason_form d) (s.0 ∙ why_joined d m r.why ∙ ap (λ (x : List ℕ). move_text m ++ x) (sym f.1))
    ∙ ap (λ (x : List ℕ × Option (List ℕ)). reason_by d (move_of x.0) x.1) (cut_again 32 (move_text m) f.0 (above_free 32 (move_text m) (above_less 32 48 (move_text m) (omega arith) (move_above m))))
    ∙ ap (λ (o : Option Move). reason_by d o (Some f.0)) (move_again m s.1.on_board)
    ∙ ap (λ (y : Result Why TextKind). y >>= λ why. Ok (record { mv = m; why = why })) (why_again d f.0 r.why (f.1, s.1.told, s.1.cites))

reasons : (d : Dialect) → IsForm (reason_form d) (SaysReason d)
unfolding reason_form
reasons d = record { found = λ l r e. by_move d l (cut 32 l).0 (move_of (cut 32 l).0) (cut 32 l).1 r refl refl refl e; only = reason_again d }

pub reason_law : (d : Dialect) → IsLine (a_reason d)
reason_law d = formed_law (reasons d)

-- a reason that is always there
abbrev some_lives : Reason
some_lives = record { mv = record { from = 0; to = 0; promo = Plain }; why = Lives }

pub some_reason : (d : Dialect) → Sample Reason (Has (reason_form d))
some_reason d =
    formed_some (reason_form d) (joined (reason_line d some_lives)) some_lives
    (reason_again d (joined (reason_line d some_lives)) some_lives (refl, record { on_board = (omega arith, omega arith); told = tt; cites = tt }))

is_why : (d : Dialect) (y : Why) → IsToldWhy d y → CitesBelow (MOST_CLAIMS + 1) y → is_line (joined (why_pieces d y)) ≡ true
is_why d Lives told cites = refl
is_why d Stale told cites = refl
is_why d (Refused i) told cites =
    let high : i < MOST_CLAIMS + 1 = cites.1 in
    line_append (codes " refused ") (number_text i) refl (number_line i (omega (arith, high)))
is_why d (Class (own, reply) i) told cites =
    let v = words_text d own in
    let w = words_text d reply in
    let high : i < MOST_CLAIMS + 1 = cites.1 in
    let number : is_line (32 ∷ number_text i) ≡ true = number_line i (omega (arith, high)) in
    line_append (codes " class ") (v ++ (codes " / " ++ (w ++ (32 ∷ number_text i)))) refl
    (line_append v (codes " / " ++ (w ++ (32 ∷ number_text i))) (line_above 31 v (omega arith) (words_above d own told.0.0))
    (line_append (codes " / ") (w ++ (32 ∷ number_text i)) refl
    (line_append w (32 ∷ number_text i) (line_above 31 w (omega arith) (words_above d reply told.1.0)) number)))

pub reason_written : (d : Dialect) → IsWritten (a_reason d)
reason_written d r s =
    let clean : is_line (move_text r.mv ++ joined (why_pieces d r.why)) ≡ true = line_append (move_text r.mv) (joined (why_pieces d r.why)) (move_line r.mv) (is_why d r.why s.told s.cites) in
    ((refl, s), ap is_line (why_joined d r.mv r.why) ∙ clean)
