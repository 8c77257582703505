-- The first lines of a text as a format, which is its own grammar.
use Rattle.std.proofs.Common.{◌≡◌, ℕ, Bool, true, false, cond, eqb, List, ◌++◌, Ok, arith}
use Rattle.std.specs.Prelude.{codes}
use Rattle.krieg_wordtext.proofs.Common.{version_form, Always, Language, One, place, Dialect, unnamed_dialect, dialect_line, SpellVersion, dialect_form, dialect_at, version_at}
use Rattle.krieg_text.specs.Languages.{Nothing}
use Rattle.krieg_text.specs.Reading.{taken}
use Rattle.krieg_text.proofs.Formats.{IsFormat, format_of, format_keeps}
use Rattle.krieg_text.proofs.Grammars.{KeepsTo, line_keeps, pure_keeps, bind_keeps}
use Rattle.krieg_text.proofs.FormGrammars.{value_form}
use Rattle.std.proofs.lemmas.Fmt.{decimal_digit}
use Rattle.krieg_wordtext.proofs.VersionSpellings.{line_read, form_read, version_spells, version_reads, local_version}

pub version_format : (name : List ℕ) → IsFormat (version_at name) (λ d ls. SpellVersion name ls d)
version_format name =
    format_of (version_at name) Always (λ d ls. SpellVersion name ls d) (local_version name) (λ n ls d q e. tt)
    (λ n ls d q e. let v = version_spells name (place n ls) q d e in record { used = v.lines; is = v.left; says = v.version })
    (λ n used rest d k s. version_reads name used d n rest s)

-- no line of the dialect, or one
abbrev pub DialectPart : Bool → Dialect → Language
DialectPart true d ls = (unnamed_dialect ≡ d) × Nothing ls
DialectPart false d ls = One (λ l. dialect_form l ≡ Ok d) ls

pub dialect_keeps : (version : ℕ) → KeepsTo (dialect_at version) Always (λ d. d) (DialectPart (eqb version 1))
dialect_keeps version = go (eqb version 1)
  where
    go : (t : Bool) → KeepsTo (λ p. cond t (Ok (unnamed_dialect, p)) (taken dialect_form p)) Always (λ d. d) (DialectPart t)
    go true = pure_keeps unnamed_dialect Always (λ d. d) tt
    go false = line_keeps dialect_form Always (λ d. d) (λ d l. dialect_form l ≡ Ok d) (value_form dialect_form (dialect_line unnamed_dialect) unnamed_dialect (line_read unnamed_dialect))

pub version_keeps : (name : List ℕ) → KeepsTo (version_at name) Always (λ d. d) (λ d ls. SpellVersion name ls d)
unfolding version_at
version_keeps name =
    format_keeps (version_at name) (λ d ls. SpellVersion name ls d) Always (λ d. d) _ (version_format name)
    (bind_keeps (taken (version_form name 2)) dialect_at Always (λ v. v) (λ v. One (λ l. version_form name 2 l ≡ Ok v)) Always (λ d. d) (λ v. DialectPart (eqb v 1))
    (line_keeps (version_form name 2) Always (λ v. v) (λ v l. version_form name 2 l ≡ Ok v)
    (value_form (version_form name 2) (name ++ codes "1") 1 (form_read name 1 (omega arith) (omega arith) (decimal_digit 1 (omega arith)))))
    (λ v h. dialect_keeps v))
