-- Items whose keys ascend, each read after the last key.
use Rattle.std.proofs.Common.{◌≡◌, ℕ, zero, suc, Bool, true, List, [], ◌∷◌, map, length, Option, Some, None, refl}
use Rattle.std.specs.List.{All}
use Rattle.std.proofs.lemmas.Bool.{and_parts, and_from}
use Rattle.std.proofs.lemmas.List.Elements.{All-nil, All-cons, All-head, All-tail}
use Rattle.krieg_strategyfile.proofs.Common.{is_ascending, follows, EachFits}

module _ {K : Type 0} (lt : K → K → Bool) where
  -- the keys ascend, also behind the last one, where there is one
  abbrev pub behind_last : Option K → List K → Bool
  behind_last None ks = is_ascending lt ks
  behind_last (Some k) ks = is_ascending lt (k ∷ ks)

  first_of : (last : Option K) (k : K) (ks : List K) → behind_last last (k ∷ ks) ≡ true → (follows lt last k ≡ true) × (is_ascending lt (k ∷ ks) ≡ true)
  first_of None k ks up = (refl, up)
  first_of (Some l) k ks up = and_parts (lt l k) (is_ascending lt (k ∷ ks)) up

  onto : (last : Option K) (k : K) (ks : List K) → follows lt last k ≡ true → is_ascending lt (k ∷ ks) ≡ true → behind_last last (k ∷ ks) ≡ true
  onto None k ks first up = up
  onto (Some l) k ks first up = and_from (lt l k) (is_ascending lt (k ∷ ks)) first up

  none_left : (last : Option K) → behind_last last [] ≡ true
  none_left None = refl
  none_left (Some k) = refl

  module _ {A : Type 0} (key : A → K) (P : A → Type 0) (Q : Option K → A → Type 0) where
    abbrev next : Option K → A → Option K
    next last x = Some (key x)

    pub chain_to : ((last : Option K) (x : A) → P x → follows lt last (key x) ≡ true → Q last x) → (last : Option K) (xs : List A) → All P xs → behind_last last (map key xs) ≡ true → EachFits (length xs) Q next last xs
    chain_to to last [] all up = tt
    chain_to to last (x ∷ xs) all up =
        let first = first_of last (key x) (map key xs) up in
        (to last x (All-head P x xs all) first.0, chain_to to (Some (key x)) xs (All-tail P x xs all) first.1)

    pub chain_from : ((last : Option K) (x : A) → Q last x → P x × (follows lt last (key x) ≡ true)) → (n : ℕ) (last : Option K) (xs : List A) → EachFits n Q next last xs → All P xs × (behind_last last (map key xs) ≡ true)
    chain_from from zero last [] f = (All-nil P, none_left last)
    chain_from from zero last (x ∷ xs) f = absurd f
    chain_from from (suc n) last [] f = absurd f
    chain_from from (suc n) last (x ∷ xs) f =
        let here = from last x f.0 in
        let rest = chain_from from n (Some (key x)) xs f.1 in
        (All-cons P x xs here.0 rest.0, onto last (key x) (map key xs) here.1 rest.1)
