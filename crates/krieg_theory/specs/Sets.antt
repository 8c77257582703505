-- Sets as lists: each member stands once, and before those that come after it in the order.
use Rattle.std.specs.Prelude.{◌≡◌, Bool, true, false, not, ◌&&◌, List, [], ◌∷◌, map, ⊤, ◌⊎◌, if◌then◌else◌}

-- x stands in the list
abbrev pub In : {X : Type 0} → X → List X → Type 0
In x [] = ⊥
In x (y ∷ ys) = (y ≡ x) ⊎ In x ys

-- nothing stands in the list
abbrev pub is_nil : {X : Type 0} → List X → Bool
is_nil [] = true
is_nil (x ∷ xs) = false

-- lt is an order in which any two that differ stand one before the other
pub record IsOrder {X : Type 0} (lt : X → X → Bool) : Type 0 where
  pub never_itself : (a : X) → lt a a ≡ false
  pub trans : (a b c : X) → lt a b ≡ true → lt b c ≡ true → lt a c ≡ true
  pub total : (a b : X) → lt a b ≡ false → lt b a ≡ false → a ≡ b

-- neither stands before the other
abbrev pub same : {X : Type 0} → (X → X → Bool) → X → X → Bool
same lt a b = not (lt a b) && not (lt b a)

-- each stands before all that are behind it in the list
abbrev pub Ascending : {X : Type 0} → (X → X → Bool) → List X → Type 0
Ascending lt [] = ⊤
Ascending {X} lt (x ∷ xs) = ((y : X) → In y xs → lt x y ≡ true) × Ascending lt xs

-- x put at its place in an ascending list, unless it is there
abbrev pub insert_once : {X : Type 0} → (X → X → Bool) → X → List X → List X
insert_once lt x [] = x ∷ []
insert_once lt x (y ∷ ys) = if lt x y then x ∷ y ∷ ys else if lt y x then y ∷ insert_once lt x ys else y ∷ ys

-- the set of what stands in a list, ascending
abbrev pub as_set : {X : Type 0} → (X → X → Bool) → List X → List X
as_set lt [] = []
as_set lt (x ∷ xs) = insert_once lt x (as_set lt xs)

-- what stands in a list under a key
abbrev pub at_key : {K X : Type 0} → (K → K → Bool) → K → List (K × X) → List X
at_key lt key [] = []
at_key lt key (o ∷ os) = if same lt o.0 key then o.1 ∷ at_key lt key os else at_key lt key os

-- the keys under which anything stands, ascending
abbrev pub keys_in : {K X : Type 0} → (K → K → Bool) → List (K × X) → List K
keys_in lt os = as_set lt (map (λ o. o.0) os)
