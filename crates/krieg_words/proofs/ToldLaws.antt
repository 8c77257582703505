-- What a dialect tells of words, it can tell again unchanged.
use Rattle.std.proofs.Common.{◌≡◌, ℕ, cond, ◌==◌, refl, ◌≤◌, lit≤}
use Rattle.krieg_words.proofs.Common.{Kinds, bits_of, Took, Piece, Dialect, MenTold, Apart, Alike, ChecksTold, ByKind, Bare, TriesTold, Number, Any, Untold, Said, IsSaid, IsTaken, MOST_TRIES, dialect_rules, told, took_told, checks_told, tries_told, no_kinds, some_kind, Fits}
use Rattle.krieg_words.specs.declared.words.Took.TheVariants.{Nothing, Pawn}
use Rattle.krieg_words.proofs.Cases.{by_test}

took_twice : (men : MenTold) (t : Took) → took_told men (took_told men t) ≡ took_told men t
took_twice Apart t = refl
took_twice Alike Nothing = refl
took_twice Alike _ = refl

checks_twice : (checks : ChecksTold) (k : Kinds) → checks_told checks (checks_told checks k) ≡ checks_told checks k
checks_twice ByKind k = refl
checks_twice Bare k = by_test (λ t. checks_told Bare (cond t no_kinds some_kind) ≡ cond t no_kinds some_kind) (bits_of k == 0) (λ h. refl) (λ h. refl)

tries_twice : (tries : TriesTold) (n : ℕ) → tries_told tries (tries_told tries n) ≡ tries_told tries n
tries_twice Number n = refl
tries_twice Any n = by_test (λ t. tries_told Any (cond t 0 1) ≡ cond t 0 1) (n == 0) (λ h. refl) (λ h. refl)
tries_twice Untold n = refl

-- told words fit the dialect
pub told_fits : (d : Dialect) (w : Said) → Fits d (told d w)
told_fits d w = λ i. record {
  end = w.end;
  took = took_twice (dialect_rules d).men w.took i;
  checks = checks_twice (dialect_rules d).checks w.checks i;
  tries = tries_twice (dialect_rules d).tries w.tries i;
}

told_taken : (men : MenTold) (t : Took) → IsTaken t → IsTaken (took_told men t)
told_taken Apart t h = h
told_taken Alike Nothing h = tt
told_taken Alike (Pawn s) h = h
told_taken Alike (Piece s) h = h

told_few : (tries : TriesTold) (n : ℕ) → n ≤ MOST_TRIES → tries_told tries n ≤ MOST_TRIES
told_few Number n h = h
told_few Any n h = by_test (λ t. cond t 0 1 ≤ MOST_TRIES) (n == 0) (λ z. lit≤ tt) (λ z. lit≤ tt)
told_few Untold n h = lit≤ tt

-- words that can be said are told as words that can be said
pub told_said : (d : Dialect) (w : Said) → IsSaid w → IsSaid (told d w)
told_said d w h = (told_few (dialect_rules d).tries w.tries h.0, told_taken (dialect_rules d).men w.took h.1)
