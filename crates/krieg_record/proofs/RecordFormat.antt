-- What is read of a record is what is spelled.
use Rattle.std.proofs.Common.{◌≡◌, ℕ, List, [], ◌++◌, Ok, refl, sym, ap, subst, ◌∙◌, arith}
use Rattle.std.specs.Prelude.{codes}
use Rattle.std.proofs.lemmas.Fmt.{decimal_digit}
use Rattle.krieg_record.proofs.Common.{Pos, Version, Always, version_form, Language, Behind, One, UpToLast, LineReader, taken, start_form, Spells, record_version, step_form, moves_at, record_at, SpellsMoves, SpellsRecord}
use Rattle.krieg_fen.proofs.FormSpellings.{starts_form}
use Rattle.krieg_text.proofs.FormSpellings.{number_is, number_read}
use Rattle.krieg_text.proofs.Formats.{IsForm, IsFormat, IsFormatIf, line_format, last_part, part_then, items_format}
use Rattle.krieg_record.proofs.MoveLines.{MoveLine, EndLine, moves_form}

-- the same values from the same lines, said otherwise
said_as : {A : Type 0} (r : LineReader A) (K J : A → Type 0) (S T : A → Language) → IsFormatIf r K S →
    ((x : A) → K x → (ls : List (List ℕ)) → S x ls → J x × T x ls) → ((x : A) → J x → (ls : List (List ℕ)) → T x ls → K x × S x ls) → IsFormatIf r J T
said_as r K J S T is to from = record {
  local = is.local;
  holds = λ n ls x q e. let f = is.found n ls x q e in (to x (is.holds n ls x q e) f.used f.says).0;
  found = λ n ls x q e. let f = is.found n ls x q e in record { used = f.used; is = f.is; says = (to x (is.holds n ls x q e) f.used f.says).1 };
  only = λ n used rest x j t. let s = from x j used t in is.only n used rest x s.0 s.1;
}

pub versions_form : IsForm record_version (λ line n. (line ≡ codes "krieg record 1") × (n ≡ 1))
unfolding record_version
versions_form = record {
  found = λ line n e.
      let s = number_is Version (codes "krieg record ") 1 1 line n (omega arith) e in
      let one : n ≡ 1 = omega (arith, s.0, s.1) in
      (s.2 ∙ ap (λ (k : ℕ). codes "krieg record " ++ Rattle.krieg_text.specs.Decimals.number_text k) one ∙ ap (λ (t : List ℕ). codes "krieg record " ++ t) (decimal_digit 1 (omega arith)), one);
  only = λ line n h.
      ap (version_form (codes "krieg record ") 1) (h.0 ∙ sym (ap (λ (t : List ℕ). codes "krieg record " ++ t) (decimal_digit 1 (omega arith))))
      ∙ number_read Version (codes "krieg record ") 1 1 1 (omega arith) (omega arith) (omega arith) ∙ ap (λ (k : ℕ). Ok k) (sym h.1);
}

version_format : IsFormatIf (taken record_version) (λ n. n ≡ 1) (λ n. One (λ line. line ≡ codes "krieg record 1"))
version_format =
    said_as (taken record_version) Always (λ n. n ≡ 1) (λ n. One (λ line. (line ≡ codes "krieg record 1") × (n ≡ 1))) (λ n. One (λ line. line ≡ codes "krieg record 1"))
    (line_format record_version _ versions_form)
    (λ n k ls s. (s.says.1, record { line = s.line; is = s.is; says = s.says.0 }))
    (λ n j ls s. (tt, record { line = s.line; is = s.is; says = (s.says, j) }))

pub record_format : IsFormat record_at SpellsRecord
unfolding record_at
record_format =
    part_then (taken record_version) _ (λ n. n ≡ 1) (λ n. One (λ line. line ≡ codes "krieg record 1")) _ (λ r. 1) Always version_format (λ n h.
    part_then (taken start_form) _ Always (λ p. One (Behind (codes "start ") (λ t. Spells t p))) _ (λ r. r.start) (λ r. (1 ≡ n) × Unit {0}) (line_format start_form _ starts_form) (λ p k.
    said_as _ (λ r. (r.start ≡ p) × ((1 ≡ n) × Unit {0})) (λ r. (r.start ≡ p) × ((1 ≡ n) × Unit {0})) (λ r. SpellsMoves p r.moves) (λ r. SpellsMoves r.start r.moves)
    (last_part (moves_at p) Always (λ x. UpToLast (MoveLine p) EndLine [] x.0 x.1) (λ x. record { start = p; moves = x.0 }) (λ r. (r.moves, tt)) (λ r. (r.start ≡ p) × ((1 ≡ n) × Unit {0}))
    (λ x j. (refl, (sym h, tt))) (λ r j. tt) (λ x. refl) (λ r j. ap (λ (t : Pos). record { start = t; moves = r.moves }) (sym j.0))
    (items_format (step_form p) _ _ (moves_form p)))
    (λ r j ls s. (j, subst (λ (t : Pos). SpellsMoves t r.moves ls) (sym j.0) s))
    (λ r j ls s. (j, subst (λ (t : Pos). SpellsMoves t r.moves ls) j.0 s)))
    (λ r j. tt)) (λ r j. refl)
