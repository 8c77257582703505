-- What is read as words is spelled so, and what is spelled so is read.
use Rattle.std.proofs.Common.{◌≡◌, cond, ℕ, List, [], ◌∷◌, Option, Some, None, refl, sym, ap, ◌∙◌, subst, lit≤}
use Rattle.std.specs.Prelude.{codes}
use Rattle.std.specs.Option.{option_map}
use Rattle.krieg_wordtext.proofs.Common.{Dialect, Wild16, Anytry, Plain, Said, IsSaid, dialect_rules, Fits, texts, words_parts, spelled, words_text, behind, said_of, read_parts, parts_in, silent, words_in}
use Rattle.krieg_words.proofs.Cases.{by_name}
use Rattle.krieg_wordtext.proofs.PartLaws.{left}
use Rattle.krieg_wordtext.proofs.FormLaws.{Told, four_parts}

abbrev parts_from : Dialect → Option (List ℕ) → Option Said
parts_from d rest = option_map said_of (read_parts (dialect_rules d).men (dialect_rules d).checks (dialect_rules d).tries rest)

-- the parts, joined, are read again
parts_again : (d : Dialect) (w : Said) → IsSaid w → Fits d w → parts_from d (left 44 (codes " ") (texts (words_parts d w))) ≡ Some w
parts_again d w said fits =
    ap (option_map said_of) ((four_parts (dialect_rules d).men (dialect_rules d).checks (dialect_rules d).tries).again (w.took, (w.checks, (w.tries, (w.end, tt))))
    ((said.1, ap (λ (x : Said). x.took) fits), (ap (λ (x : Said). x.checks) fits, ((said.0, ap (λ (x : Said). x.tries) fits), (tt, tt)))))

-- `silent` has no part
silent_from : (d : Dialect) → parts_from d (Some (codes "silent")) ≡ None
unfolding behind
silent_from Wild16 = refl
silent_from Anytry = refl
silent_from Plain = refl

none_from : (d : Dialect) → parts_from d None ≡ Some silent
unfolding behind
none_from Wild16 = refl
none_from Anytry = refl
none_from Plain = refl

spelled_again : (d : Dialect) (w : Said) (ts : List (List ℕ)) → parts_from d (left 44 (codes " ") ts) ≡ Some w → words_in d (spelled ts) ≡ Some w
unfolding words_in parts_in
spelled_again d w [] e = sym (none_from d) ∙ e
spelled_again d w (t ∷ ts) e =
    by_name (λ b. cond b (Some silent) (parts_from d (Some (spelled (t ∷ ts)))) ≡ Some w) (spelled (t ∷ ts)) (codes "silent")
    (λ same. absurd (let k : None ≡ Some w = sym (silent_from d) ∙ ap (λ (x : List ℕ). parts_from d (Some x)) (sym same) ∙ e in cc)) e

-- the written words are read again
pub words_again : (d : Dialect) (w : Said) → IsSaid w → Fits d w → words_in d (words_text d w) ≡ Some w
unfolding words_text
words_again d w said fits = spelled_again d w (texts (words_parts d w)) (parts_again d w said fits)

spelled_is : (text : List ℕ) (ts : List (List ℕ)) → Some text ≡ left 44 (codes " ") ts → text ≡ spelled ts
spelled_is text [] e = absurd cc
spelled_is text (t ∷ ts) e = cc

record IsRead (d : Dialect) (text : List ℕ) (w : Said) : Type 0 where
  said : IsSaid w
  fits : Fits d w
  is : text ≡ spelled (texts (words_parts d w))

map_is : (o : Option Told) (w : Said) → option_map said_of o ≡ Some w → (x : Told) × (o ≡ Some x) × (said_of x ≡ w)
map_is None w e = absurd cc
map_is (Some x) w e = (x, refl, cc)

parts_spell : (d : Dialect) (text : List ℕ) (w : Said) → parts_from d (Some text) ≡ Some w → IsRead d text w
parts_spell d text w e =
    let m = map_is _ w e in
    let p = (four_parts (dialect_rules d).men (dialect_rules d).checks (dialect_rules d).tries).spells (Some text) m.0 m.1 in
    subst (IsRead d text) m.2 (record {
      said = (p.0.1.1.0.0, p.0.0.0);
      fits = λ i. record { end = m.0.1.1.1.0; took = p.0.0.1 i; checks = p.0.1.0 i; tries = p.0.1.1.0.1 i };
      is = spelled_is text (texts (words_parts d (said_of m.0))) p.1;
    })

silent_read : (d : Dialect) → IsRead d (codes "silent") silent
silent_read Wild16 = record { said = (lit≤ tt, tt); fits = refl; is = refl }
silent_read Anytry = record { said = (lit≤ tt, tt); fits = refl; is = refl }
silent_read Plain = record { said = (lit≤ tt, tt); fits = refl; is = refl }

some_said : (a b : Said) → Some a ≡ Some b → a ≡ b
some_said a b h = cc

read_as : (d : Dialect) (text : List ℕ) (w : Said) → words_in d text ≡ Some w → IsRead d text w
unfolding words_in parts_in
read_as d text w e =
    by_name (λ b. cond b (Some silent) (parts_from d (Some text)) ≡ Some w → IsRead d text w) text (codes "silent")
    (λ same h. subst (λ (x : List ℕ). IsRead d x w) (sym same) (subst (IsRead d (codes "silent")) (some_said silent w h) (silent_read d)))
    (λ h. parts_spell d text w h) e

-- what is read is spelled so, and the dialect can tell it
pub words_spell : (d : Dialect) (text : List ℕ) (w : Said) → words_in d text ≡ Some w → IsSaid w × Fits d w × (text ≡ words_text d w)
unfolding words_text
words_spell d text w e = let r = read_as d text w e in (r.said, r.fits, r.is)

-- what is spelled so is read
pub words_read : (d : Dialect) (text : List ℕ) (w : Said) → IsSaid w → Fits d w → text ≡ words_text d w → words_in d text ≡ Some w
words_read d text w said fits is = ap (words_in d) is ∙ words_again d w said fits

pub ruleset words = (words_spell, words_read)
