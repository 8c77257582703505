-- The lines of branches, be they edges or roots: what the reading of one needs of its form.
use Rattle.std.proofs.Common.{◌≡◌, inl, inr, ℕ, Bool, true, false, cond, List, Option, Result, Ok, Err, refl, sym, subst, arith}
use Rattle.std.specs.Prelude.{◌⊎◌, ◌&&◌, is_some}
use Rattle.krieg_planfile.proofs.Common.{TextKind, OutOfPlace, is_beyond_form, ◌>>=◌, Pieces, joined, no_kinds, Said, Dialect, Wild16, Anytry, Goes, Key, RootKey, key_lt, root_lt, follows, placed, on_form, on_line, IsToldIn, IsToldKey, is_root_of, root_placed, root_form, IsRootOf, root_line}
use Rattle.krieg_words.specs.declared.dialects.Dialect.TheVariants.{Plain}
use Rattle.krieg_words.specs.declared.words.Took.TheVariants.{Nothing}
use Rattle.krieg_planfile.proofs.KeyForms.{any_on, any_root, on_spells, on_again, root_spells, root_again}

-- A line of the form is that of a key that can be told, fits and follows the last one; in the grammar the key may be in any order.
pub record IsBranchForm {K : Type 0} (lt : K → K → Bool) (line : K → Pieces) (Told Fit : K → Type 0) (form : Option K → List ℕ → Result K TextKind) : Type 0 where
  pub found : (last : Option K) (l : List ℕ) (key : K) → form last l ≡ Ok key → (l ≡ joined (line key)) × Told key × Fit key × (follows lt last key ≡ true)
  pub only : (last : Option K) (key : K) → Told key → Fit key → follows lt last key ≡ true → form last (joined (line key)) ≡ Ok key
  pub judged : (last : Option K) (key : K) → Told key → ((x : K) × (form last (joined (line key)) ≡ Ok x)) ⊎ ((kind : TextKind) × (is_beyond_form kind ≡ true) × (form last (joined (line key)) ≡ Err kind))

-- words that every dialect can tell: nothing
abbrev pub some_said : Said
some_said = record { end = Goes; took = Nothing; checks = no_kinds; tries = 0 }

pub is_some_said : (d : Dialect) → IsToldIn d some_said
is_some_said Wild16 = ((omega arith, tt), refl)
is_some_said Anytry = ((omega arith, tt), refl)
is_some_said Plain = ((omega arith, tt), refl)

pub some_told : (d : Dialect) → IsToldKey d (some_said, some_said)
some_told d = (is_some_said d, is_some_said d)

chosen : {K : Type 0} (t : Bool) (key : K) → ((x : K) × (◌≡◌ {A = Result K TextKind} (cond t (Ok key) (Err OutOfPlace)) (Ok x))) ⊎ ((kind : TextKind) × (is_beyond_form kind ≡ true) × (◌≡◌ {A = Result K TextKind} (cond t (Ok key) (Err OutOfPlace)) (Err kind)))
chosen true key = inl (key, refl)
chosen false key = inr (OutOfPlace, refl, refl)

abbrev Judgement : {K : Type 0} → Result K TextKind → Type 0
Judgement {K = K} r = ((x : K) × (r ≡ Ok x)) ⊎ ((kind : TextKind) × (is_beyond_form kind ≡ true) × (r ≡ Err kind))

pub edges_form : (d : Dialect) → IsBranchForm key_lt (on_line d) (IsToldKey d) (λ key. Unit {0}) (on_form d)
edges_form d = record {
  found = λ last l key e. let s = on_spells d last l key e in (s.0.0, s.0.1, tt, s.1);
  only = λ last key told fit after. on_again d last (joined (on_line d key)) key (refl, told) after;
  judged = λ last key told. subst (λ (r : Result Key TextKind). Judgement (r >>= placed key_lt last)) (sym ((any_on d).only (joined (on_line d key)) key (refl, told))) (chosen (follows key_lt last key) key);
}

pub roots_form : (version : ℕ) (waiting : Bool) (d : Dialect) → IsBranchForm root_lt (root_line d) (IsRootOf version d) (λ key. is_some key.1 ≡ waiting) (root_form version waiting d)
roots_form version waiting d = record {
  found = λ last l key e. let s = root_spells version waiting d last l key e in (s.0.0, (s.0.1, s.0.2), s.1, s.2);
  only = λ last key told fit after. root_again version waiting d last (joined (root_line d key)) key (refl, told.0, told.1) fit after;
  judged = λ last key told. subst (λ (r : Result RootKey TextKind). Judgement (r >>= root_placed waiting last)) (sym ((any_root version d).only (joined (root_line d key)) key (refl, told.0, told.1))) (chosen (is_root_of waiting key && follows root_lt last key) key);
}
