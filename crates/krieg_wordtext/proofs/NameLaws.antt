-- The names of the kinds of check, joined by `+`, are read as these kinds, and are all that is read so.
use Rattle.std.proofs.Common.{◌≡◌, ◌≢◌, Bool, true, false, ℕ, List, [], ◌∷◌, Option, Some, None, refl, sym, ap, ◌∙◌}
use Rattle.std.specs.Prelude.{codes, unwrap_or}
use Rattle.std.specs.Str.{bytes_eq}
use Rattle.std.specs.Option.{option_map}
use Rattle.std.proofs.lemmas.Slice.Eq.{bytes_eq-Decides}
use Rattle.krieg_wordtext.proofs.Common.{Kinds, no_kinds, Part, joined_by, PartsReader, no_more, kind_names, is_check, name_then, kinds_of, names_in, checks_named}
use Rattle.krieg_wordtext.proofs.PartLaws.{Free, left, Leaves, AreParts, no_parts, parts_then}

-- one name more in front of others
named_then : {B : Type 0} (name : List ℕ) (others : PartsReader B) (parts : B → List Part) (K : B → Type 0) → Free 43 name → name ≢ [] → AreParts 43 [] others parts K →
    ((y : B) → Leaves 43 (λ s. bytes_eq s name) false (parts y)) → AreParts 43 [] (name_then name others) (λ x. (x.0, name) ∷ parts x.1) (λ x. Unit {0} × K x.1)
named_then name others parts K free solid rest leaves =
    parts_then 43 [] (λ s. bytes_eq s name) (λ here. here) (λ here. name) false (λ here. Unit {0}) others parts K
    (record {
      takes = λ x k h. ((bytes_eq-Decides name name).1 refl ∙ sym h, free);
      absent = λ x k h. sym h;
      tells = λ s. tt;
      spells = λ s h. ((bytes_eq-Decides s name).0 h, solid);
    }) rest (λ y k. leaves y)

abbrev Named : Type 0
Named = Bool × (Bool × (Bool × (Bool × (Bool × Unit {0}))))

named_parts : AreParts 43 [] (name_then (codes "file") (name_then (codes "rank") (name_then (codes "long") (name_then (codes "short") (name_then (codes "knight") no_more)))))
    (λ (x : Named). (x.0, codes "file") ∷ (x.1.0, codes "rank") ∷ (x.1.1.0, codes "long") ∷ (x.1.1.1.0, codes "short") ∷ (x.1.1.1.1.0, codes "knight") ∷ [])
    (λ (x : Named). Unit {0} × (Unit {0} × (Unit {0} × (Unit {0} × (Unit {0} × Unit {0})))))
named_parts =
    named_then (codes "file") _ _ _ refl (λ e. cc)
    (named_then (codes "rank") _ _ _ refl (λ e. cc)
    (named_then (codes "long") _ _ _ refl (λ e. cc)
    (named_then (codes "short") _ _ _ refl (λ e. cc)
    (named_then (codes "knight") _ _ _ refl (λ e. cc) (no_parts 43 []) (λ y. refl))
    (λ y. ((λ h. (refl, refl)), refl)))
    (λ y. ((λ h. (refl, refl)), ((λ h. (refl, refl)), refl))))
    (λ y. ((λ h. (refl, refl)), ((λ h. (refl, refl)), ((λ h. (refl, refl)), refl)))))
    (λ y. ((λ h. (refl, refl)), ((λ h. (refl, refl)), ((λ h. (refl, refl)), ((λ h. (refl, refl)), refl)))))

-- the written names are read again
pub named_again : (k : Kinds) → checks_named (Some (joined_by (codes "+") (kind_names k))) ≡ k
named_again k =
    by_names (kind_names k)
    (ap (option_map kinds_of) (named_parts.again (k.file, (k.rank, (k.long, (k.short, (k.knight, tt))))) (tt, (tt, (tt, (tt, (tt, tt)))))))
  where
    by_names : (ts : List (List ℕ)) → names_in (left 43 [] ts) ≡ Some k → checks_named (Some (joined_by (codes "+") ts)) ≡ k
    by_names [] e = cc
    by_names (t ∷ ts) e = ap (λ (x : Option Kinds). unwrap_or x no_kinds) e

some_is : (names : List ℕ) (ts : List (List ℕ)) → Some names ≡ left 43 [] ts → names ≡ joined_by (codes "+") ts
some_is names [] e = absurd cc
some_is names (t ∷ ts) e = cc

map_is : (o : Option Named) (k : Kinds) → option_map kinds_of o ≡ Some k → (x : Named) × (o ≡ Some x) × (kinds_of x ≡ k)
map_is None k e = absurd cc
map_is (Some x) k e = (x, refl, cc)

-- names that are read as a check are these names
pub named_spells : (names : List ℕ) → is_check (checks_named (Some names)) ≡ true → names ≡ joined_by (codes "+") (kind_names (checks_named (Some names)))
named_spells names held = by_names (names_in (Some names)) refl held
  where
    by_names : (o : Option Kinds) → names_in (Some names) ≡ o → is_check (unwrap_or o no_kinds) ≡ true → names ≡ joined_by (codes "+") (kind_names (unwrap_or o no_kinds))
    by_names None e h = absurd cc
    by_names (Some k) e h =
        let m = map_is _ k e in
        some_is names (kind_names k) ((named_parts.spells (Some names) m.0 m.1).1 ∙ ap (λ (x : Kinds). left 43 [] (kind_names x)) m.2)
