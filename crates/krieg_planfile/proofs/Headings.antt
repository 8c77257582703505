-- The version and the dialect of a plan file as a format.
use Rattle.std.proofs.Common.{◌≡◌, inl, inr, ℕ, zero, suc, ◌+◌, ◌≤◌, eqb, List, [], ◌∷◌, ◌++◌, Result, Ok, refl, sym, ap, subst, ◌∙◌, arith}
use Rattle.std.specs.Prelude.{codes}
use Rattle.std.proofs.lemmas.Fmt.{decimal_digit}
use Rattle.krieg_planfile.proofs.Common.{TextFault, Version, number_text, Always, One, ◌>>=◌, Place, place, taken, unnamed_dialect, dialect_line, dialect_form, dialect_at, Dialect, plan_version_form, heading_at, IsVersion}
use Rattle.krieg_text.proofs.Formats.{IsFormat, format_of, format_keeps}
use Rattle.krieg_text.proofs.FormSpellings.{number_is}
use Rattle.krieg_text.proofs.Grammars.{Said, KeepsTo, line_keeps, bind_keeps, made_keeps}
use Rattle.krieg_text.proofs.FormGrammars.{value_form}
use Rattle.krieg_text.proofs.Locality.{IsLocal, ok_is, local_pure, local_taken, local_bind}
use Rattle.krieg_text.proofs.Takings.{steps, taken_at, taken_again, Read}
use Rattle.krieg_wordtext.proofs.VersionFormats.{DialectPart, dialect_keeps}
use Rattle.krieg_wordtext.proofs.VersionSpellings.{line_is, line_read, form_read, local_dialect}

-- ---- what is read

form_is : (l : List ℕ) (v : ℕ) → plan_version_form l ≡ Ok v → (1 ≤ v) × (v ≤ 2) × (l ≡ codes "krieg plan " ++ number_text v)
unfolding plan_version_form
form_is l v e = number_is Version (codes "krieg plan ") 1 2 l v (omega arith) e

first_line : (l : List ℕ) → plan_version_form l ≡ Ok 1 → l ≡ codes "krieg plan 1"
first_line l e = (form_is l 1 e).2 ∙ ap (λ (t : List ℕ). codes "krieg plan " ++ t) (decimal_digit 1 (omega arith))

second_line : (l : List ℕ) → plan_version_form l ≡ Ok 2 → l ≡ codes "krieg plan 2"
second_line l e = (form_is l 2 e).2 ∙ ap (λ (t : List ℕ). codes "krieg plan " ++ t) (decimal_digit 2 (omega arith))

abbrev HeadingSaid : List (List ℕ) → ℕ × Dialect → Place → Type 0
HeadingSaid ls h q = Said (λ (x : ℕ × Dialect). x) (λ (h : ℕ × Dialect). IsVersion h.0 h.1) ls h q

by_version : (p at q : Place) (v : ℕ) (d : Dialect) (l : List ℕ) → p.left ≡ l ∷ at.left → plan_version_form l ≡ Ok v → dialect_at v at ≡ Ok (d, q) → HeadingSaid p.left (v, d) q
by_version p at q zero d l left e second = let f = form_is l 0 e in absurd (omega (arith, f.0))
by_version p at q (suc zero) d l left e second =
    let same = ok_is {A = Dialect × Place} (unnamed_dialect, at) (d, q) second in
    record {
      used = l ∷ [];
      is = left ∙ ap (λ (t : Dialect × Place). l ∷ t.1.left) same;
      says = inl (refl, sym (ap (λ (t : Dialect × Place). t.0) same), ap (λ (t : List ℕ). t ∷ []) (first_line l e));
    }
by_version p at q (suc (suc zero)) d l left e second =
    let next = taken_at dialect_form at q d second in
    record {
      used = l ∷ next.text ∷ [];
      is = left ∙ ap (λ (t : List (List ℕ)). l ∷ t) next.left;
      says = inr (refl, ap (λ (t : List ℕ). t ∷ next.text ∷ []) (second_line l e) ∙ ap (λ (t : List ℕ). codes "krieg plan 2" ∷ t ∷ []) (line_is next.text d next.is));
    }
by_version p at q (suc (suc (suc v))) d l left e second = let f = form_is l (suc (suc (suc v))) e in absurd (omega (arith, f.1))

heading_found : (n : ℕ) (ls : List (List ℕ)) (h : ℕ × Dialect) (q : Place) → heading_at (place n ls) ≡ Ok (h, q) → HeadingSaid ls h q
unfolding heading_at
heading_found n ls h q e =
    let s = steps (taken plan_version_form (place n ls)) (λ (v : ℕ × Place). dialect_at v.0 v.1 >>= λ d. Ok ((v.0, d.0), d.1)) (h, q) e in
    let t = steps (dialect_at s.mid.0 s.mid.1) (λ (d : Dialect × Place). Ok ((s.mid.0, d.0), d.1)) (h, q) s.second in
    let same = ok_is {A = (ℕ × Dialect) × Place} ((s.mid.0, t.mid.0), t.mid.1) (h, q) t.second in
    let l = taken_at plan_version_form (place n ls) s.mid.1 s.mid.0 s.first in
    subst (λ (x : (ℕ × Dialect) × Place). HeadingSaid ls x.0 x.1) same (by_version (place n ls) s.mid.1 t.mid.1 s.mid.0 t.mid.0 l.text l.left l.is t.first)

-- ---- what is spelled

form_again : (v : ℕ) → 1 ≤ v → v ≤ 2 → number_text v ≡ (48 + v) ∷ [] → plan_version_form (codes "krieg plan " ++ ((48 + v) ∷ [])) ≡ Ok v
unfolding plan_version_form
form_again v low high text = form_read (codes "krieg plan ") v low high text

first_again : plan_version_form (codes "krieg plan 1") ≡ Ok 1
first_again = form_again 1 (omega arith) (omega arith) (decimal_digit 1 (omega arith))

second_again : plan_version_form (codes "krieg plan 2") ≡ Ok 2
second_again = form_again 2 (omega arith) (omega arith) (decimal_digit 2 (omega arith))

abbrev after_version : ℕ × Place → Result ((ℕ × Dialect) × Place) TextFault
after_version v = dialect_at v.0 v.1 >>= λ d. Ok ((v.0, d.0), d.1)

heading_reads : (n : ℕ) (used rest : List (List ℕ)) (h : ℕ × Dialect) → IsVersion h.0 h.1 used → Read (heading_at (place n (used ++ rest))) h rest
unfolding heading_at
heading_reads n used rest h (inl s) = record {
  number = n + 1;
  is = ap (λ (t : List (List ℕ)). heading_at (place n (t ++ rest))) s.2
      ∙ ap (λ (r : Result (ℕ × Place) TextFault). r >>= after_version) (taken_again plan_version_form n (codes "krieg plan 1") rest 1 first_again)
      ∙ ap (λ (v : ℕ). Ok ((v, unnamed_dialect), place (n + 1) rest)) (sym s.0) ∙ ap (λ (d : Dialect). Ok ((h.0, d), place (n + 1) rest)) (sym s.1);
}
heading_reads n used rest h (inr s) = record {
  number = n + 1 + 1;
  is = ap (λ (t : List (List ℕ)). heading_at (place n (t ++ rest))) s.1
      ∙ ap (λ (r : Result (ℕ × Place) TextFault). r >>= after_version) (taken_again plan_version_form n (codes "krieg plan 2") (dialect_line h.1 ∷ rest) 2 second_again)
      ∙ ap (λ (r : Result (Dialect × Place) TextFault). r >>= λ d. Ok ((2, d.0), d.1)) (taken_again dialect_form (n + 1) (dialect_line h.1) rest h.1 (line_read h.1))
      ∙ ap (λ (v : ℕ). Ok ((v, h.1), place (n + 1 + 1) rest)) (sym s.0);
}

local_heading : IsLocal heading_at
unfolding heading_at
local_heading =
    local_bind (taken plan_version_form) (λ v p. dialect_at v p >>= λ d. Ok ((v, d.0), d.1)) (local_taken plan_version_form)
    (λ v. local_bind (dialect_at v) (λ d p. Ok ((v, d), p)) (local_dialect v) (λ d. local_pure (v, d)))

pub heading_format : IsFormat heading_at (λ (h : ℕ × Dialect). IsVersion h.0 h.1)
heading_format = format_of heading_at Always (λ (h : ℕ × Dialect). IsVersion h.0 h.1) local_heading (λ n ls h q e. tt) heading_found (λ n used rest h k s. heading_reads n used rest h s)

-- ---- the grammar

pub heading_keeps : KeepsTo heading_at Always (λ (h : ℕ × Dialect). h) (λ (h : ℕ × Dialect). IsVersion h.0 h.1)
unfolding heading_at
heading_keeps =
    format_keeps heading_at (λ (h : ℕ × Dialect). IsVersion h.0 h.1) Always (λ (h : ℕ × Dialect). h.1) _ heading_format
    (bind_keeps (taken plan_version_form) (λ v p. dialect_at v p >>= λ d. Ok ((v, d.0), d.1)) Always (λ v. v) (λ v. One (λ l. plan_version_form l ≡ Ok v)) Always (λ (h : ℕ × Dialect). h.1) (λ v. DialectPart (eqb v 1))
    (line_keeps plan_version_form Always (λ v. v) (λ v l. plan_version_form l ≡ Ok v) (value_form plan_version_form (codes "krieg plan 1") 1 first_again))
    (λ v h. made_keeps (dialect_at v) (λ d. (v, d)) Always (λ d. d) (DialectPart (eqb v 1)) Always (λ (h : ℕ × Dialect). h.1) (λ x h. tt) (λ x. refl) (dialect_keeps v)))
