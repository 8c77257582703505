-- Parts that are joined by a mark and a gap: each is found again at the front of what is left, and what was read part by part is joined so.
use Rattle.std.proofs.Common.{◌≡◌, ◌≢◌, ℕ, Bool, true, false, not, eqb, List, [], ◌∷◌, ◌++◌, Option, Some, None, refl, sym, ap, ◌∙◌, subst}
use Rattle.std.specs.Prelude.{unwrap_or}
use Rattle.std.specs.List.{list_all}
use Rattle.std.proofs.lemmas.Bool.{and_parts, not-true}
use Rattle.krieg_wordtext.proofs.Common.{behind, cut, Part, text_if, texts, joined_by, front, after_gap, past, left_by, PartsReader, no_more, with, part_then}
pub use Rattle.krieg_text.proofs.LastCuts.{Free}
use Rattle.krieg_text.proofs.NameLemmas.{behind_again, behind_spells, cut_again, cut_spells}

-- what is left to read of these parts
abbrev pub left : ℕ → List ℕ → List (List ℕ) → Option (List ℕ)
left mark gap [] = None
left mark gap (p ∷ ps) = Some (joined_by (mark ∷ gap) (p ∷ ps))

-- where something is left, it begins with a part that is not empty
abbrev pub IsSolid : List (List ℕ) → Type 0
IsSolid [] = Unit {0}
IsSolid (p ∷ ps) = p ≢ []

-- a text without the mark is one part
cut_end : (mark : ℕ) (text : List ℕ) → Free mark text → cut mark text ≡ (text, None)
cut_end mark [] free = refl
cut_end mark (b ∷ text) free =
    let p = and_parts (not (eqb b mark)) (list_all (λ b. not (eqb b mark)) text) free in
    let here : eqb b mark ≡ false = not-true (eqb b mark) p.0 in
    rw here (ap (λ (x : List ℕ × Option (List ℕ)). (b ∷ x.0, x.1)) (cut_end mark text p.1))

cut_whole : (mark : ℕ) (text : List ℕ) → (cut mark text).1 ≡ None → text ≡ (cut mark text).0
cut_whole mark [] e = refl
cut_whole mark (b ∷ text) e = by_test (eqb b mark) refl (cut_whole mark text)
  where
    by_test : (t : Bool) → eqb b mark ≡ t → ((cut mark text).1 ≡ None → text ≡ (cut mark text).0) → b ∷ text ≡ (cut mark (b ∷ text)).0
    by_test true h more = absurd (let k : Some text ≡ None = rw h at e in cc)
    by_test false h more = let k : (cut mark text).1 ≡ None = rw h at e in rw h (ap (λ (x : List ℕ). b ∷ x) (more k))

pub front_left : (mark : ℕ) (gap p : List ℕ) (ps : List (List ℕ)) → Free mark p → front mark (left mark gap (p ∷ ps)) ≡ p
front_left mark gap p [] free = ap (λ (x : List ℕ × Option (List ℕ)). x.0) (cut_end mark p free)
front_left mark gap p (q ∷ qs) free = ap (λ (x : List ℕ × Option (List ℕ)). x.0) (cut_again mark p (gap ++ joined_by (mark ∷ gap) (q ∷ qs)) free)

pub past_left : (mark : ℕ) (gap p : List ℕ) (ps : List (List ℕ)) → Free mark p → past mark gap (left mark gap (p ∷ ps)) ≡ left mark gap ps
past_left mark gap p [] free = ap (λ (x : List ℕ × Option (List ℕ)). after_gap gap x.1) (cut_end mark p free)
past_left mark gap p (q ∷ qs) free =
    ap (λ (x : List ℕ × Option (List ℕ)). after_gap gap x.1) (cut_again mark p (gap ++ joined_by (mark ∷ gap) (q ∷ qs)) free)
    ∙ ap (λ (x : Option (List ℕ)). Some (unwrap_or x [])) (behind_again gap (joined_by (mark ∷ gap) (q ∷ qs)))

-- a part that is there is found at the front, and leaves those after it; one that is not there leaves the same texts
pub part_again : {A : Type 0} (mark : ℕ) (gap : List ℕ) (form : List ℕ → A) (t : Bool) (text : List ℕ) (ps : List (List ℕ)) (x : A) →
    (t ≡ true → (form text ≡ x) × Free mark text) → (t ≡ false → form (front mark (left mark gap ps)) ≡ x) →
    (form (front mark (left mark gap (text_if t text ++ ps))) ≡ x) × (left_by mark gap t (left mark gap (text_if t text ++ ps)) ≡ left mark gap ps)
part_again mark gap form true text ps x takes leaves =
    let t = takes refl in
    (ap form (front_left mark gap text ps t.1) ∙ t.0, past_left mark gap text ps t.1)
part_again mark gap form false text ps x takes leaves = (leaves refl, refl)

not_joined : (separator q : List ℕ) (qs : List (List ℕ)) → q ≢ [] → [] ≡ joined_by separator (q ∷ qs) → ⊥
not_joined separator [] qs solid e = solid refl
not_joined separator (b ∷ q) [] solid e = cc
not_joined separator (b ∷ q) (r ∷ rs) solid e = cc

some_is : (x y : List ℕ) → Some x ≡ Some y → x ≡ y
some_is x y e = cc

back_gap : (mark : ℕ) (gap text t rest : List ℕ) (q : List ℕ) (qs : List (List ℕ)) (y : Option (List ℕ)) → text ≡ t ++ (mark ∷ rest) → behind gap rest ≡ y → q ≢ [] →
    unwrap_or y [] ≡ joined_by (mark ∷ gap) (q ∷ qs) → text ≡ joined_by (mark ∷ gap) (t ∷ q ∷ qs)
back_gap mark gap text t rest q qs None whole is solid e = absurd (not_joined (mark ∷ gap) q qs solid e)
back_gap mark gap text t rest q qs (Some more) whole is solid e =
    whole ∙ ap (λ (x : List ℕ). t ++ (mark ∷ x)) (behind_spells gap rest more is) ∙ ap (λ (x : List ℕ). t ++ (mark ∷ (gap ++ x))) e

back_rest : (mark : ℕ) (gap text t : List ℕ) (ps : List (List ℕ)) (x : Option (List ℕ)) → (cut mark text).0 ≡ t → (cut mark text).1 ≡ x → IsSolid ps →
    after_gap gap x ≡ left mark gap ps → Some text ≡ left mark gap (t ∷ ps)
back_rest mark gap text t [] None first is solid e = ap (λ (x : List ℕ). Some x) (cut_whole mark text is ∙ first)
back_rest mark gap text t [] (Some rest) first is solid e = absurd cc
back_rest mark gap text t (q ∷ qs) None first is solid e = absurd cc
back_rest mark gap text t (q ∷ qs) (Some rest) first is solid e =
    ap (λ (x : List ℕ). Some x) (back_gap mark gap text t rest q qs (behind gap rest) (cut_spells mark text t rest first is) refl solid (some_is _ _ e))

-- what was left before a part was taken or left
part_spells : (mark : ℕ) (gap : List ℕ) (taken : Bool) (t : List ℕ) (r : Option (List ℕ)) (ps : List (List ℕ)) → (taken ≡ true → (front mark r ≡ t) × (t ≢ [])) → IsSolid ps →
    left_by mark gap taken r ≡ left mark gap ps → (r ≡ left mark gap (text_if taken t ++ ps)) × IsSolid (text_if taken t ++ ps)
part_spells mark gap false t r ps takes solid e = (e, solid)
part_spells mark gap true t None ps takes solid e = let h = takes refl in absurd (h.1 (sym h.0))
part_spells mark gap true t (Some text) ps takes solid e =
    let h = takes refl in
    (back_rest mark gap text t ps (cut mark text).1 h.0 refl solid e, h.1)

-- A part of words: its text tells it, a text that tells something is its text, and what other texts tell is not there.
pub record IsPart {A : Type 0} (mark : ℕ) (form : List ℕ → A) (there : A → Bool) (text : A → List ℕ) (K : A → Type 0) (none : A) : Type 0 where
  pub takes : (x : A) → K x → there x ≡ true → (form (text x) ≡ x) × Free mark (text x)
  pub absent : (x : A) → K x → there x ≡ false → none ≡ x
  pub tells : (s : List ℕ) → K (form s)
  pub spells : (s : List ℕ) → there (form s) ≡ true → (s ≡ text (form s)) × (text (form s) ≢ [])

-- a form finds nothing in these parts, nor in an empty text
abbrev pub Leaves : {A : Type 0} → ℕ → (List ℕ → A) → A → List Part → Type 0
Leaves mark form none [] = form [] ≡ none
Leaves mark form none (p ∷ ps) = (p.0 ≡ true → (form p.1 ≡ none) × Free mark p.1) × Leaves mark form none ps

leaves_front : {A : Type 0} (mark : ℕ) (gap : List ℕ) (form : List ℕ → A) (none : A) (ps : List Part) → Leaves mark form none ps → form (front mark (left mark gap (texts ps))) ≡ none
leaves_front mark gap form none [] h = h
leaves_front mark gap form none (p ∷ ps) h = (part_again mark gap form p.0 p.1 (texts ps) none h.0 (λ _. leaves_front mark gap form none ps h.1)).0

-- Parts that are read are those that are written, and the other way round.
pub record AreParts {A : Type 0} (mark : ℕ) (gap : List ℕ) (r : PartsReader A) (parts : A → List Part) (K : A → Type 0) : Type 0 where
  pub again : (x : A) → K x → r (left mark gap (texts (parts x))) ≡ Some x
  pub spells : (rest : Option (List ℕ)) (x : A) → r rest ≡ Some x → K x × (rest ≡ left mark gap (texts (parts x))) × IsSolid (texts (parts x))

no_more_spells : (mark : ℕ) (gap : List ℕ) (rest : Option (List ℕ)) (x : Unit {0}) → no_more rest ≡ Some x → Unit {0} × (rest ≡ left mark gap []) × Unit {0}
no_more_spells mark gap None x e = (tt, refl, tt)
no_more_spells mark gap (Some text) x e = absurd cc

pub no_parts : (mark : ℕ) (gap : List ℕ) → AreParts mark gap no_more (λ x. []) (λ x. Unit {0})
no_parts mark gap = record { again = λ x k. refl; spells = no_more_spells mark gap }

with_is : {A B : Type 0} (v : A) (o : Option B) (x : A × B) → with v o ≡ Some x → (v ≡ x.0) × (o ≡ Some x.1)
with_is v None x e = absurd cc
with_is {A = A} {B = B} v (Some y) x e = let same : (v, y) ≡ x = some_pair (v, y) x e in (ap (λ (z : A × B). z.0) same, ap (λ (z : A × B). Some z.1) same)
  where
    some_pair : (a b : A × B) → Some a ≡ Some b → a ≡ b
    some_pair a b h = cc

-- one part more in front of others
pub parts_then : {A B : Type 0} (mark : ℕ) (gap : List ℕ) (form : List ℕ → A) (there : A → Bool) (text : A → List ℕ) (none : A) (KA : A → Type 0)
    (others : PartsReader B) (parts : B → List Part) (KB : B → Type 0) →
    IsPart mark form there text KA none → AreParts mark gap others parts KB → ((y : B) → KB y → Leaves mark form none (parts y)) →
    AreParts mark gap (part_then mark gap form there others) (λ x. (there x.0, text x.0) ∷ parts x.1) (λ x. KA x.0 × KB x.1)
parts_then {A = A} {B = B} mark gap form there text none KA others parts KB part rest leaves = record { again = again; spells = spells }
  where
    again : (x : A × B) → KA x.0 × KB x.1 → part_then mark gap form there others (left mark gap (text_if (there x.0) (text x.0) ++ texts (parts x.1))) ≡ Some x
    again x k =
        let p = part_again mark gap form (there x.0) (text x.0) (texts (parts x.1)) x.0 (part.takes x.0 k.0)
        (λ h. leaves_front mark gap form none (parts x.1) (leaves x.1 k.1) ∙ part.absent x.0 k.0 h) in
        ap (λ (v : A). with v (others (left_by mark gap (there v) (left mark gap (text_if (there x.0) (text x.0) ++ texts (parts x.1)))))) p.0
        ∙ ap (λ (r : Option (List ℕ)). with x.0 (others r)) p.1
        ∙ ap (with x.0) (rest.again x.1 k.1)

    spells : (r : Option (List ℕ)) (x : A × B) → part_then mark gap form there others r ≡ Some x →
        (KA x.0 × KB x.1) × (r ≡ left mark gap (text_if (there x.0) (text x.0) ++ texts (parts x.1))) × IsSolid (text_if (there x.0) (text x.0) ++ texts (parts x.1))
    spells r x e =
        let v = form (front mark r) in
        let w = with_is v (others (left_by mark gap (there v) r)) x e in
        let more = rest.spells (left_by mark gap (there v) r) x.1 w.1 in
        let here = part_spells mark gap (there v) (text v) r (texts (parts x.1)) (part.spells (front mark r)) more.2 more.1 in
        let P : A → Type 0 = λ y. KA y × (r ≡ left mark gap (text_if (there y) (text y) ++ texts (parts x.1))) × IsSolid (text_if (there y) (text y) ++ texts (parts x.1)) in
        let all : P x.0 = subst P w.0 (part.tells (front mark r), here.0, here.1) in
        ((all.0, more.0), all.1, all.2)
