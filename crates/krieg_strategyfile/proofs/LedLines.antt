-- Which lines are those of edges and roots: a line, and where it leads.
use Rattle.std.proofs.Common.{◌≡◌, ℕ, ◌+◌, ◌-◌, ◌<◌, ◌^◌, true, List, [], ◌∷◌, ◌++◌, Option, Some, None, Result, Ok, Err, refl, sym, ap, subst, ◌∙◌, append_assoc, arith}
use Rattle.std.specs.Prelude.{codes}
use Rattle.krieg_strategyfile.proofs.Common.{TextKind, OutOfPlace, NumberFault, NotPlain, OutOfRange, number_text, number_between, ranged, is_line, Has, ◌>>=◌, Pieces, joined, Said, Goes, no_kinds, words_text, Dialect, Wild16, Anytry, Key, RootKey, IsToldIn, IsToldKey, IsToldRoot, any_on_form, any_root_form, on_line, root_line, MOST_NODES, to_form, with_to, leading, cut_last, edge_form, root_form, led, edge_line, root_to_line, IsLed, an_edge, a_root}
use Rattle.krieg_words.specs.declared.dialects.Dialect.TheVariants.{Plain}
use Rattle.krieg_words.specs.declared.words.Took.TheVariants.{Nothing}
use Rattle.krieg_text.proofs.CleanTexts.{number_above, number_line}
use Rattle.krieg_text.proofs.Formats.{IsForm}
use Rattle.krieg_text.proofs.Free.{above_less}
use Rattle.krieg_text.proofs.LineTexts.{line_above, line_append}
use Rattle.krieg_text.proofs.Numbers.{between_spells, between_again}
use Rattle.krieg_wordtext.proofs.CleanWords.{above_free, words_above}
use Rattle.krieg_planfile.proofs.KeyForms.{any_on, any_root}
use Rattle.krieg_format.proofs.Judged.{IsLine, Sample}
use Rattle.krieg_format.proofs.Leaves.{formed_law, formed_some}
use Rattle.krieg_format.proofs.Writing.{IsWritten}
use Rattle.krieg_text.proofs.LastCuts.{Free, last_spells, last_again}

-- ---- the number of a node

by_number : (text : List ℕ) (r : Result ℕ NumberFault) (i : ℕ) → number_between text 1 MOST_NODES ≡ r → (ranged OutOfPlace r >>= λ k. Ok (k - 1)) ≡ Ok i → (text ≡ number_text (i + 1)) × (i < MOST_NODES)
by_number text (Err NotPlain) i is e = absurd cc
by_number text (Err OutOfRange) i is e = absurd cc
by_number text (Ok k) i is e =
    let s = between_spells text 1 MOST_NODES k (omega arith) is in
    let same : k - 1 ≡ i = cc in
    let next : k ≡ i + 1 = omega (arith, s.0) in
    (s.2 ∙ ap number_text next, omega (arith, s.1))

to_spells : (text : List ℕ) (i : ℕ) → to_form text ≡ Ok i → (text ≡ number_text (i + 1)) × (i < MOST_NODES)
to_spells text i e = by_number text (number_between text 1 MOST_NODES) i refl e

to_again : (i : ℕ) → i < MOST_NODES → to_form (number_text (i + 1)) ≡ Ok i
to_again i few =
    let back : i + 1 - 1 ≡ i = omega arith in
    ap (λ (r : Result ℕ NumberFault). ranged OutOfPlace r >>= λ k. Ok (k - 1)) (between_again 1 MOST_NODES (i + 1) (omega arith) (omega (arith, few)) (omega arith)) ∙ ap Ok back

-- a number has no space
pub number_free : (n : ℕ) → n < 2 ^ 64 → Free 32 (number_text n)
number_free n fits = above_free 32 (number_text n) (above_less 32 47 (number_text n) (omega arith) (number_above n fits))

-- ---- a line, and where it leads

joined_then : (ps : Pieces) (q : List ℕ) (qs : Pieces) → joined (ps ++ q ∷ qs) ≡ joined ps ++ joined (q ∷ qs)
joined_then [] q qs = refl
joined_then (p ∷ []) q qs = refl
joined_then (p ∷ r ∷ ps) q qs = ap (λ (t : List ℕ). p ++ t) (joined_then (r ∷ ps) q qs) ∙ sym (append_assoc p (joined (r ∷ ps)) (joined (q ∷ qs)))

pub led_is : (ps : Pieces) (i : ℕ) → joined (led ps i) ≡ joined ps ++ (32 ∷ number_text (i + 1))
led_is ps i = joined_then ps (codes " ") (number_text (i + 1) ∷ [])

module _ {K : Type 0} (form : List ℕ → Result K TextKind) (line : K → Pieces) (Told : K → Type 0)
    (found : (l : List ℕ) (key : K) → form l ≡ Ok key → (l ≡ joined (line key)) × Told key)
    (only : (key : K) → Told key → form (joined (line key)) ≡ Ok key) where
  abbrev SaysLed : List ℕ → K × ℕ → Type 0
  SaysLed l x = (l ≡ joined (led (line x.0) x.1)) × IsLed Told x

  by_to : (l front back : List ℕ) (key : Result K TextKind) (to : Result ℕ TextKind) (x : K × ℕ) → l ≡ front ++ (32 ∷ back) → form front ≡ key → to_form back ≡ to → (key >>= λ k. to >>= λ i. Ok (k, i)) ≡ Ok x → SaysLed l x
  by_to l front back (Err kind) to x whole k t e = absurd cc
  by_to l front back (Ok key) (Err kind) x whole k t e = absurd cc
  by_to l front back (Ok key) (Ok i) x whole k t e =
      let a = found front key k in
      let b = to_spells back i t in
      let same : (key, i) ≡ x = cc in
      subst (SaysLed l) same (
        whole ∙ ap (λ (y : List ℕ). y ++ (32 ∷ back)) a.0 ∙ ap (λ (y : List ℕ). joined (line key) ++ (32 ∷ y)) b.0 ∙ sym (led_is (line key) i),
        (a.1, b.1),
      )

  by_cut : (l : List ℕ) (o : Option (List ℕ × List ℕ)) (x : K × ℕ) → cut_last 32 l ≡ o → with_to form o ≡ Ok x → SaysLed l x
  by_cut l None x c e = absurd cc
  by_cut l (Some y) x c e = by_to l y.0 y.1 (form y.0) (to_form y.1) x (last_spells 32 l y c) refl refl e

  led_again : (l : List ℕ) (x : K × ℕ) → SaysLed l x → leading form l ≡ Ok x
  led_again l x s =
      let i = x.1 in
      let few : i < MOST_NODES = s.1.1 in
      ap (leading form) (s.0 ∙ led_is (line x.0) i)
      ∙ ap (with_to form) (last_again 32 (joined (line x.0)) (number_text (i + 1)) (number_free (i + 1) (omega (arith, few))))
      ∙ ap (λ (r : Result K TextKind). r >>= λ key. to_form (number_text (i + 1)) >>= λ to. Ok (key, to)) (only x.0 s.1.0)
      ∙ ap (λ (r : Result ℕ TextKind). ◌>>=◌ {B = K × ℕ} r (λ to. Ok (x.0, to))) (to_again i few)

  led_form : IsForm (leading form) SaysLed
  led_form = record { found = λ l x e. by_cut l (cut_last 32 l) x refl e; only = led_again }

led_clean : (ps : Pieces) (i : ℕ) → i < MOST_NODES → is_line (joined ps) ≡ true → is_line (joined (led ps i)) ≡ true
led_clean ps i few clean =
    let number : is_line (32 ∷ number_text (i + 1)) ≡ true = number_line (i + 1) (omega (arith, few)) in
    ap is_line (led_is ps i) ∙ line_append (joined ps) (32 ∷ number_text (i + 1)) clean number

-- words that every dialect can tell: nothing
abbrev some_said : Said
some_said = record { end = Goes; took = Nothing; checks = no_kinds; tries = 0 }

is_some_said : (d : Dialect) → IsToldIn d some_said
is_some_said Wild16 = ((omega arith, tt), refl)
is_some_said Anytry = ((omega arith, tt), refl)
is_some_said Plain = ((omega arith, tt), refl)

-- ---- edges

edges : (d : Dialect) → IsForm (edge_form d) (an_edge d).says
unfolding edge_form
edges d = led_form (any_on_form d) (on_line d) (IsToldKey d) (any_on d).found (λ key told. (any_on d).only (joined (on_line d key)) key (refl, told))

pub edge_law : (d : Dialect) → IsLine (an_edge d)
edge_law d = formed_law (edges d)

pub some_edge : (d : Dialect) → Sample (Key × ℕ) (Has (edge_form d))
some_edge d =
    let e : Key × ℕ = ((some_said, some_said), 0) in
    formed_some (edge_form d) (joined (edge_line d e)) e ((edges d).only (joined (edge_line d e)) e (refl, ((is_some_said d, is_some_said d), omega arith)))

on_clean : (d : Dialect) (key : Key) → IsToldKey d key → is_line (joined (on_line d key)) ≡ true
on_clean d key told =
    let v = words_text d key.0 in
    let w = words_text d key.1 in
    line_append (codes "on ") (v ++ (codes " / " ++ w)) refl (line_append v (codes " / " ++ w) (line_above 31 v (omega arith) (words_above d key.0 told.0.0))
    (line_append (codes " / ") w refl (line_above 31 w (omega arith) (words_above d key.1 told.1.0))))

pub edge_written : (d : Dialect) → IsWritten (an_edge d)
edge_written d e f = ((refl, f), led_clean (on_line d e.0) e.1 f.1 (on_clean d e.0 f.0))

-- ---- roots

roots : (d : Dialect) → IsForm (root_form d) (a_root d).says
unfolding root_form
roots d =
    led_form (any_root_form 2 d) (root_line d) (IsToldRoot d) (λ l key e. let s = (any_root 2 d).found l key e in (s.0, s.1))
    (λ key told. (any_root 2 d).only (joined (root_line d key)) key (refl, told, λ v. absurd (omega (arith, v))))

pub root_law : (d : Dialect) → IsLine (a_root d)
root_law d = formed_law (roots d)

pub some_root : (d : Dialect) → Sample (RootKey × ℕ) (Has (root_form d))
some_root d =
    let r : RootKey × ℕ = ((some_said, None), 0) in
    formed_some (root_form d) (joined (root_to_line d r)) r ((roots d).only (joined (root_to_line d r)) r (refl, (is_some_said d, omega arith)))

root_clean : (d : Dialect) (key : RootKey) → IsToldRoot d key → is_line (joined (root_line d key)) ≡ true
root_clean d (opens, None) told = line_append (codes "on ") (words_text d opens) refl (line_above 31 (words_text d opens) (omega arith) (words_above d opens told.0))
root_clean d (opens, Some heard) told = on_clean d (opens, heard) told

pub root_written : (d : Dialect) → IsWritten (a_root d)
root_written d r f = ((refl, f), led_clean (root_line d r.0) r.1 f.1 (root_clean d r.0 f.0))
