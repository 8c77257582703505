-- Which lines stand before the positions of a claim.
use Rattle.std.proofs.Common.{◌≡◌, ℕ, ◌<◌, ◌≤◌, ◌^◌, List, ◌∷◌, ◌++◌, Option, Some, None, Result, Ok, Err, refl, ap, subst, ◌∙◌, arith}
use Rattle.std.specs.Prelude.{codes}
use Rattle.krieg_refutefile.proofs.Common.{MOST_MOVES, NumberFault, NotPlain, OutOfRange, number_text, number_between, cut, joined, MOST_CLAIMED, both_numbers, sizes_by, sizes_form, claim_form, AreSizes, a_claim, claim_line}
use Rattle.krieg_text.proofs.CleanTexts.{number_above, number_line}
use Rattle.krieg_text.proofs.Formats.{IsForm, named_form}
use Rattle.krieg_text.proofs.Free.{above_less}
use Rattle.krieg_text.proofs.LineTexts.{line_append}
use Rattle.krieg_text.proofs.NameLemmas.{cut_again, cut_spells}
use Rattle.krieg_text.proofs.Numbers.{between_spells, between_again}
use Rattle.krieg_wordtext.proofs.CleanWords.{above_free}
use Rattle.krieg_wordtext.proofs.PartLaws.{Free}
use Rattle.krieg_format.proofs.Judged.{IsLine}
use Rattle.krieg_format.proofs.Leaves.{formed_law}
use Rattle.krieg_format.proofs.Writing.{IsWritten}

abbrev IsSizes : List ℕ → ℕ × ℕ → Type 0
IsSizes text h = (text ≡ number_text h.0 ++ (32 ∷ number_text h.1)) × AreSizes h

by_numbers : (text first rest : List ℕ) (a b : Result ℕ NumberFault) (h : ℕ × ℕ) → text ≡ first ++ (32 ∷ rest) → number_between first 1 MOST_MOVES ≡ a → number_between rest 1 MOST_CLAIMED ≡ b → both_numbers a b ≡ Ok h → IsSizes text h
by_numbers text first rest (Ok j) (Ok k) h whole a b e =
    let p = between_spells first 1 MOST_MOVES j (omega arith) a in
    let q = between_spells rest 1 MOST_CLAIMED k (omega arith) b in
    let same : (j, k) ≡ h = cc in
    subst (IsSizes text) same (whole ∙ ap (λ (x : List ℕ). x ++ (32 ∷ rest)) p.2 ∙ ap (λ (x : List ℕ). number_text j ++ (32 ∷ x)) q.2, (p.0, p.1, q.0, q.1))
by_numbers text first rest (Ok j) (Err NotPlain) h whole a b e = absurd cc
by_numbers text first rest (Ok j) (Err OutOfRange) h whole a b e = absurd cc
by_numbers text first rest (Err NotPlain) k h whole a b e = absurd cc
by_numbers text first rest (Err OutOfRange) (Ok k) h whole a b e = absurd cc
by_numbers text first rest (Err OutOfRange) (Err NotPlain) h whole a b e = absurd cc
by_numbers text first rest (Err OutOfRange) (Err OutOfRange) h whole a b e = absurd cc

by_rest : (text first : List ℕ) (rest : Option (List ℕ)) (h : ℕ × ℕ) → (cut 32 text).0 ≡ first → (cut 32 text).1 ≡ rest → sizes_by first rest ≡ Ok h → IsSizes text h
by_rest text first None h c r e = absurd cc
by_rest text first (Some rest) h c r e = by_numbers text first rest (number_between first 1 MOST_MOVES) (number_between rest 1 MOST_CLAIMED) h (cut_spells 32 text first rest c r) refl refl e

-- a number has no space
pub number_free : (n : ℕ) → n < 2 ^ 64 → Free 32 (number_text n)
number_free n fits = above_free 32 (number_text n) (above_less 32 47 (number_text n) (omega arith) (number_above n fits))

sizes_again : (text : List ℕ) (h : ℕ × ℕ) → IsSizes text h → sizes_form text ≡ Ok h
sizes_again text h s =
    let low : h.0 ≤ MOST_MOVES = s.1.1 in
    ap sizes_form s.0
    ∙ ap (λ (x : List ℕ × Option (List ℕ)). sizes_by x.0 x.1) (cut_again 32 (number_text h.0) (number_text h.1) (number_free h.0 (omega (arith, low))))
    ∙ ap (λ (a : Result ℕ NumberFault). both_numbers a (number_between (number_text h.1) 1 MOST_CLAIMED)) (between_again 1 MOST_MOVES h.0 s.1.0 s.1.1 (omega arith))
    ∙ ap (both_numbers (Ok h.0)) (between_again 1 MOST_CLAIMED h.1 s.1.2 s.1.3 (omega arith))

claims : IsForm claim_form a_claim.says
unfolding claim_form
claims =
    let n = named_form (codes "claim ") sizes_form IsSizes (record { found = λ t h e. by_rest t (cut 32 t).0 (cut 32 t).1 h refl refl e; only = sizes_again }) in
    record {
      found = λ l h e. let b = n.found l h e in (b.is ∙ ap (λ (x : List ℕ). codes "claim " ++ x) b.says.0, b.says.1);
      only = λ l h s. n.only l h (record { text = number_text h.0 ++ (32 ∷ number_text h.1); is = s.0; says = (refl, s.1) });
    }

pub claim_law : IsLine a_claim
claim_law = formed_law claims

pub some_claim : claim_form (joined (claim_line 1 1)) ≡ Ok (1, 1)
some_claim = claims.only (joined (claim_line 1 1)) (1, 1) (refl, (omega arith, omega arith, omega arith, omega arith))

pub claim_written : IsWritten a_claim
claim_written h s =
    let moves : h.0 ≤ MOST_MOVES = s.1 in
    let most : h.1 ≤ MOST_CLAIMED = s.3 in (
      (refl, s),
      line_append (codes "claim ") (number_text h.0 ++ (32 ∷ number_text h.1)) refl (line_append (number_text h.0) (32 ∷ number_text h.1) (number_line h.0 (omega (arith, moves))) (number_line h.1 (omega (arith, most)))),
    )
