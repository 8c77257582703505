-- A text that is read as a dialect is its name, and the other way round.
use Rattle.std.proofs.Common.{◌≡◌, ℕ, cond, List, Some, None, refl, ap, ◌∙◌}
use Rattle.std.specs.Prelude.{codes}
use Rattle.std.specs.Str.{bytes_eq}
use Rattle.krieg_words.proofs.Common.{Dialect, Wild16, Anytry, Plain, dialect_text, dialect_of}
use Rattle.krieg_words.proofs.Cases.{by_name}

dialect_is : (text : List ℕ) (a d : Dialect) → text ≡ dialect_text a → Some a ≡ Some d → text ≡ dialect_text d
dialect_is text a d h e = h ∙ ap dialect_text (let same : a ≡ d = cc in same)

pub dialect_spells : (text : List ℕ) (d : Dialect) → dialect_of text ≡ Some d → text ≡ dialect_text d
dialect_spells text d e =
    by_name (λ a. cond a (Some Wild16) (cond (bytes_eq text (codes "anytry")) (Some Anytry) (cond (bytes_eq text (codes "plain")) (Some Plain) None)) ≡ Some d → text ≡ dialect_text d)
    text (codes "wild16") (dialect_is text Wild16 d)
    (by_name (λ b. cond b (Some Anytry) (cond (bytes_eq text (codes "plain")) (Some Plain) None) ≡ Some d → text ≡ dialect_text d)
    text (codes "anytry") (dialect_is text Anytry d)
    (by_name (λ c. cond c (Some Plain) None ≡ Some d → text ≡ dialect_text d) text (codes "plain") (dialect_is text Plain d) (λ h. absurd cc))) e

dialect_again : (d : Dialect) → dialect_of (dialect_text d) ≡ Some d
dialect_again Wild16 = refl
dialect_again Anytry = refl
dialect_again Plain = refl

pub dialect_read : (text : List ℕ) (d : Dialect) → text ≡ dialect_text d → dialect_of text ≡ Some d
dialect_read text d is = ap dialect_of is ∙ dialect_again d

pub ruleset dialects = (dialect_spells, dialect_read)
