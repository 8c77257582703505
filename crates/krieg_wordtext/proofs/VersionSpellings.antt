-- The first lines of a text: what is read is spelled so, what is spelled so is read, and a fault rests on the lines up to it alone.
use Rattle.std.proofs.Common.{◌≡◌, inl, inr, ℕ, zero, suc, ◌+◌, ◌≤◌, Bool, true, false, cond, eqb, eqb-true, List, [], ◌∷◌, ◌++◌, Option, Some, None, Result, Ok, refl, sym, ap, ◌∙◌, arith}
use Rattle.std.specs.Prelude.{codes}
use Rattle.std.proofs.lemmas.Fmt.{decimal_digit}
use Rattle.krieg_wordtext.proofs.Common.{TextFault, Version, number_text, ◌>>=◌, version_form, Place, place, Dialect, Wild16, Anytry, Plain, dialect_text, dialect_of, dialect_line, second_version, version_lines, SpellVersion, dialect_or_syntax, dialect_behind, dialect_form, dialect_at, version_at}
use Rattle.krieg_text.specs.Reading.{taken}
use Rattle.krieg_text.proofs.Locality.{IsLocal, ok_is, local_pure, local_taken, local_cond, local_bind}
use Rattle.krieg_text.proofs.NameLemmas.{behind_again}
use Rattle.krieg_text.proofs.FormSpellings.{number_is, number_read}
use Rattle.krieg_text.proofs.Takings.{steps, TakenAt, taken_at, taken_again, Read}
use Rattle.krieg_wordtext.proofs.Cases.{by_front}
use Rattle.krieg_words.proofs.DialectNames.{dialect_spells, dialect_read}

-- The line of the dialect.
pub line_is : (line : List ℕ) (d : Dialect) → dialect_form line ≡ Ok d → line ≡ dialect_line d
unfolding dialect_form
line_is line d e =
    by_front (λ o. dialect_behind o ≡ Ok d → line ≡ dialect_line d) (codes "dialect ") line
    (λ name is h. is ∙ ap (λ (t : List ℕ). codes "dialect " ++ t) (named name (dialect_of name) refl h)) (λ h. absurd cc) e
  where
    named : (name : List ℕ) (o : Option Dialect) → dialect_of name ≡ o → dialect_or_syntax o ≡ Ok d → name ≡ dialect_text d
    named name None is h = absurd cc
    named name (Some x) is h = dialect_spells name d (is ∙ cc)

pub line_read : (d : Dialect) → dialect_form (dialect_line d) ≡ Ok d
unfolding dialect_form
line_read d = ap dialect_behind (behind_again (codes "dialect ") (dialect_text d)) ∙ ap dialect_or_syntax (dialect_read (dialect_text d) d refl)

-- What is read is spelled so.
other_than_one : (n : ℕ) → 1 ≤ n → n ≤ 2 → eqb n 1 ≡ false → n ≡ 2
other_than_one zero low high is = absurd (omega arith)
other_than_one (suc zero) low high is = absurd cc
other_than_one (suc (suc n)) low high is = omega arith

-- the lines that were taken
pub record VersionAt (name : List ℕ) (p q : Place) (d : Dialect) : Type 0 where
  pub lines : List (List ℕ)
  pub version : SpellVersion name lines d
  pub left : p.left ≡ lines ++ q.left

pub version_spells : (name : List ℕ) (p q : Place) (d : Dialect) → version_at name p ≡ Ok (d, q) → VersionAt name p q d
unfolding version_at
version_spells name p q d e =
    let s = steps (taken (version_form name 2) p) (λ v. dialect_at v.0 v.1) (d, q) e in
    by_version s.mid.0 s.mid.1 s.first s.second
  where
    by_version : (v : ℕ) (at : Place) → taken (version_form name 2) p ≡ Ok (v, at) → dialect_at v at ≡ Ok (d, q) → VersionAt name p q d
    by_version v at first second = go (eqb v 1) refl second
      where
        line : TakenAt (version_form name 2) p at v
        line = taken_at (version_form name 2) p at v first

        spelled : (1 ≤ v) × (v ≤ 2) × (line.text ≡ name ++ number_text v)
        spelled = number_is Version name 1 2 line.text v (omega arith) line.is

        digit : (n : ℕ) → v ≡ n → number_text n ≡ (48 + n) ∷ [] → line.text ≡ name ++ ((48 + n) ∷ [])
        digit n is text = spelled.2 ∙ ap (λ (k : ℕ). name ++ number_text k) is ∙ ap (λ (t : List ℕ). name ++ t) text

        go : (t : Bool) → eqb v 1 ≡ t → cond t (Ok (Wild16, at)) (taken dialect_form at) ≡ Ok (d, q) → VersionAt name p q d
        go true is h =
            let same = ok_is {A = Dialect × Place} (Wild16, at) (d, q) h in
            record {
              lines = line.text ∷ [];
              version = inl (ap (λ (l : List ℕ). l ∷ []) (digit 1 (eqb-true v 1 is) (decimal_digit 1 (omega arith))) ∙ ap (λ (t : Dialect × Place). version_lines name t.0) same);
              left = line.left ∙ ap (λ (t : Dialect × Place). line.text ∷ t.1.left) same;
            }
        go false is h =
            let next = taken_at dialect_form at q d h in
            record {
              lines = line.text ∷ next.text ∷ [];
              version = inr (ap (λ (l : List ℕ). l ∷ next.text ∷ []) (digit 2 (other_than_one v spelled.0 spelled.1 is) (decimal_digit 2 (omega arith)))
                  ∙ ap (λ (l : List ℕ). (name ++ codes "2") ∷ l ∷ []) (line_is next.text d next.is));
              left = line.left ∙ ap (λ (ls : List (List ℕ)). line.text ∷ ls) next.left;
            }

-- What is spelled so is read.
pub form_read : (name : List ℕ) (v : ℕ) → 1 ≤ v → v ≤ 2 → number_text v ≡ (48 + v) ∷ [] → version_form name 2 (name ++ ((48 + v) ∷ [])) ≡ Ok v
form_read name v low high text = ap (λ (t : List ℕ). version_form name 2 (name ++ t)) (sym text) ∙ number_read Version name 1 2 v (omega arith) low high

first_read : (name : List ℕ) (n : ℕ) (rest : List (List ℕ)) → version_at name (place n ((name ++ codes "1") ∷ rest)) ≡ Ok (Wild16, place (n + 1) rest)
unfolding version_at
first_read name n rest =
    ap (λ (r : Result (ℕ × Place) TextFault). r >>= λ v. dialect_at v.0 v.1)
    (taken_again (version_form name 2) n (name ++ codes "1") rest 1 (form_read name 1 (omega arith) (omega arith) (decimal_digit 1 (omega arith))))

second_read : (name : List ℕ) (d : Dialect) (n : ℕ) (rest : List (List ℕ)) → version_at name (place n (second_version name d ++ rest)) ≡ Ok (d, place (n + 1 + 1) rest)
unfolding version_at
second_read name d n rest =
    ap (λ (r : Result (ℕ × Place) TextFault). r >>= λ v. dialect_at v.0 v.1)
    (taken_again (version_form name 2) n (name ++ codes "2") (dialect_line d ∷ rest) 2 (form_read name 2 (omega arith) (omega arith) (decimal_digit 2 (omega arith))))
    ∙ taken_again dialect_form (n + 1) (dialect_line d) rest d (line_read d)

written_read : (name : List ℕ) (d : Dialect) (n : ℕ) (rest : List (List ℕ)) → Read (version_at name (place n (version_lines name d ++ rest))) d rest
written_read name Wild16 n rest = record { number = n + 1; is = first_read name n rest }
written_read name Anytry n rest = record { number = n + 1 + 1; is = second_read name Anytry n rest }
written_read name Plain n rest = record { number = n + 1 + 1; is = second_read name Plain n rest }

pub version_reads : (name : List ℕ) (ls : List (List ℕ)) (d : Dialect) (n : ℕ) (rest : List (List ℕ)) → SpellVersion name ls d → Read (version_at name (place n (ls ++ rest))) d rest
version_reads name ls d n rest (inl is) =
    let r = written_read name d n rest in
    record { number = r.number; is = ap (λ (t : List (List ℕ)). version_at name (place n (t ++ rest))) is ∙ r.is }
version_reads name ls d n rest (inr is) = record { number = n + 1 + 1; is = ap (λ (t : List (List ℕ)). version_at name (place n (t ++ rest))) is ∙ second_read name d n rest }

-- A fault rests on the lines up to it alone.
pub local_dialect : (version : ℕ) → IsLocal (dialect_at version)
local_dialect version = local_cond (eqb version 1) (λ p. Ok (Wild16, p)) (taken dialect_form) (local_pure Wild16) (local_taken dialect_form)

pub local_version : (name : List ℕ) → IsLocal (version_at name)
unfolding version_at
local_version name = local_bind (taken (version_form name 2)) dialect_at (local_taken (version_form name 2)) local_dialect
