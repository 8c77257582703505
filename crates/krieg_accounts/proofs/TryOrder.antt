-- The tries of a set, one after another.
use Rattle.std.proofs.Common.{◌≡◌, ℕ, zero, suc, ◌+◌, ◌≤◌, ◌<◌, Bool, true, false, cond, ◌⊎◌, List, [], ◌∷◌, length, filter, find, take, get_or, Some, None, refl, sym, ap, subst, inl, inr, ◌∙◌, arith}
use Rattle.std.proofs.lemmas.Bool.{cases_Bool, cond-true, cond-false, both_ways, and_parts, false_from_ne_true}
use Rattle.krieg_accounts.proofs.Common.{In, Ascending, Game, IsGame, legal_in_some, tries, begins, first_try, total, up_to}
use Rattle.krieg_theory.proofs.Lists.{filter_in}
use Rattle.krieg_theory.proofs.Ascending.{asym}
use Rattle.krieg_costs.proofs.Costs.{legal_try}

module _ {X : Type 0} (f : X → Bool) where
  -- all before the place fail
  abbrev pub FailsTo : ℕ → List X → Type 0
  FailsTo k xs = (x : X) → In x (take k xs) → f x ≡ false

  tail_fails : (x : X) (xs : List X) (k : ℕ) → FailsTo (suc k) (x ∷ xs) → FailsTo k xs
  tail_fails x xs k h y i = h y (inr i)

  pub find_here : (xs : List X) (k : ℕ) (d : X) → k < length xs → FailsTo k xs → f (get_or xs k d) ≡ true → find f xs ≡ Some (get_or xs k d)
  find_here [] k d l h e = absurd (omega arith)
  find_here (x ∷ xs) zero d l h e = cond-true (f x) (Some x) (find f xs) e
  find_here (x ∷ xs) (suc k) d l h e = cond-false (f x) (Some x) (find f xs) (h x (inl refl)) ∙ find_here xs k d (omega arith) (tail_fails x xs k h) e

  pub find_none : (xs : List X) (k : ℕ) → length xs ≤ k → FailsTo k xs → find f xs ≡ None
  find_none [] k l h = refl
  find_none (x ∷ xs) zero l h = absurd (omega arith)
  find_none (x ∷ xs) (suc k) l h = cond-false (f x) (Some x) (find f xs) (h x (inl refl)) ∙ find_none xs k (omega arith) (tail_fails x xs k h)

  pub up_to_here : (g : X → ℕ) (xs : List X) (k : ℕ) (d : X) → k < length xs → FailsTo k xs → f (get_or xs k d) ≡ true → total g (up_to f xs) ≡ total g (take k xs) + g (get_or xs k d)
  up_to_here g [] k d l h e = absurd (omega arith)
  up_to_here g (x ∷ xs) zero d l h e = let a : total g (cond (f x) [] (up_to f xs)) ≡ 0 = ap (λ b. total g (cond b [] (up_to f xs))) e in omega arith
  up_to_here g (x ∷ xs) (suc k) d l h e =
      let ih = up_to_here g xs k d (omega arith) (tail_fails x xs k h) e in
      let a : total g (cond (f x) [] (up_to f xs)) ≡ total g (up_to f xs) = ap (λ b. total g (cond b [] (up_to f xs))) (h x (inl refl)) in
      omega arith

  pub up_to_none : (g : X → ℕ) (xs : List X) (k : ℕ) → length xs ≤ k → FailsTo k xs → total g (up_to f xs) ≡ total g (take k xs)
  up_to_none g [] zero l h = refl
  up_to_none g [] (suc k) l h = refl
  up_to_none g (x ∷ xs) zero l h = absurd (omega arith)
  up_to_none g (x ∷ xs) (suc k) l h =
      let ih = up_to_none g xs k (omega arith) (tail_fails x xs k h) in
      let a : total g (cond (f x) [] (up_to f xs)) ≡ total g (up_to f xs) = ap (λ b. total g (cond b [] (up_to f xs))) (h x (inl refl)) in
      omega arith

module _ {X : Type 0} where
  pub get_in : (xs : List X) (k : ℕ) (d : X) → k < length xs → In (get_or xs k d) xs
  get_in [] k d l = absurd (omega arith)
  get_in (x ∷ xs) zero d l = inl refl
  get_in (x ∷ xs) (suc k) d l = inr (get_in xs k d (omega arith))

  -- one more
  pub take_more : (xs : List X) (k : ℕ) (d x : X) → k < length xs → In x (take (suc k) xs) → In x (take k xs) ⊎ (get_or xs k d ≡ x)
  take_more [] k d x l i = absurd (omega arith)
  take_more (y ∷ xs) zero d x l (inl e) = inr e
  take_more (y ∷ xs) zero d x l (inr i) = absurd i
  take_more (y ∷ xs) (suc k) d x l (inl e) = inl (inl e)
  take_more (y ∷ xs) (suc k) d x l (inr i) = go (take_more xs k d x (omega arith) i)
    where
      go : In x (take k xs) ⊎ (get_or xs k d ≡ x) → In x (take (suc k) (y ∷ xs)) ⊎ (get_or xs k d ≡ x)
      go (inl a) = inl (inr a)
      go (inr a) = inr a

  pub total_more : (f : X → ℕ) (xs : List X) (k : ℕ) (d : X) → k < length xs → total f (take (suc k) xs) ≡ total f (take k xs) + f (get_or xs k d)
  total_more f [] k d h = absurd (omega arith)
  total_more f (x ∷ xs) zero d h = omega arith
  total_more f (x ∷ xs) (suc k) d h = let ih = total_more f xs k d (omega arith) in omega arith

  pub total_take : (f : X → ℕ) (xs : List X) (k : ℕ) → total f (take k xs) ≤ total f xs
  total_take f xs zero = omega arith
  total_take f [] (suc k) = omega arith
  total_take f (x ∷ xs) (suc k) = let ih = total_take f xs k in omega arith

  pub in_all : (xs : List X) (k : ℕ) (x : X) → length xs ≤ k → In x xs → In x (take k xs)
  in_all [] k x l i = absurd i
  in_all (y ∷ xs) zero x l i = absurd (omega arith)
  in_all (y ∷ xs) (suc k) x l (inl e) = inl e
  in_all (y ∷ xs) (suc k) x l (inr i) = inr (in_all xs k x (omega arith) i)

  -- what is before a member of an ascending list stands before its place
  pub before_place : (lt : X → X → Bool) (xs : List X) (k : ℕ) (d x : X) → ((a : X) → lt a a ≡ false) → ((a b : X) → lt a b ≡ true → lt b a ≡ false) → Ascending lt xs → k < length xs → In x xs → lt x (get_or xs k d) ≡ true → In x (take k xs)
  before_place lt [] k d x n s up l i h = absurd i
  before_place lt (y ∷ xs) zero d x n s up l (inl e) h = absurd (both_ways _ (n y) (subst (λ z. lt z y ≡ true) (sym e) h))
  before_place lt (y ∷ xs) zero d x n s up l (inr i) h = absurd (both_ways _ (s y x (up.0 x i)) h)
  before_place lt (y ∷ xs) (suc k) d x n s up l (inl e) h = inl e
  before_place lt (y ∷ xs) (suc k) d x n s up l (inr i) h = inr (before_place lt xs k d x n s up.1 (omega arith) i h)

-- what is left of an ascending list ascends
ascending_filter : {X : Type 0} (lt : X → X → Bool) (f : X → Bool) (xs : List X) → Ascending lt xs → Ascending lt (filter f xs)
ascending_filter lt f [] a = tt
ascending_filter {X = X} lt f (x ∷ xs) a = go (cases_Bool (f x)) (ascending_filter lt f xs a.1)
  where
    first : (y : X) → In y (filter f xs) → lt x y ≡ true
    first y i = a.0 y (filter_in f xs y i).0

    go : (f x ≡ true) ⊎ (f x ≡ false) → Ascending lt (filter f xs) → Ascending lt (filter f (x ∷ xs))
    go (inl e) r = subst (Ascending lt) (sym (cond-true (f x) (x ∷ filter f xs) (filter f xs) e)) (first, r)
    go (inr e) r = subst (Ascending lt) (sym (cond-false (f x) (x ∷ filter f xs) (filter f xs) e)) r

-- only what passes a weaker test is looked at
pub find_filter : {X : Type 0} (p f : X → Bool) (xs : List X) → ((x : X) → f x ≡ true → p x ≡ true) → find f (filter p xs) ≡ find f xs
find_filter p f [] h = refl
find_filter p f (x ∷ xs) h = go (cases_Bool (p x)) (find_filter p f xs h)
  where
    go : (p x ≡ true) ⊎ (p x ≡ false) → find f (filter p xs) ≡ find f xs → find f (filter p (x ∷ xs)) ≡ find f (x ∷ xs)
    go (inl e) r = ap (find f) (cond-true (p x) (x ∷ filter p xs) (filter p xs) e) ∙ ap (cond (f x) (Some x)) r
    go (inr e) r =
        ap (find f) (cond-false (p x) (x ∷ filter p xs) (filter p xs) e) ∙ r
        ∙ sym (cond-false (f x) (Some x) (find f xs) (false_from_ne_true (f x) (λ t. both_ways (p x) e (h x t))))

module _ (G : Game) (L : IsGame G) where
  begins_legal : (j : ℕ) (B : List G.Position) (t : G.Move) → begins G j B t ≡ true → legal_in_some G B t ≡ true
  begins_legal zero B t h = absurd (both_ways false refl h)
  begins_legal (suc j) B t h = (and_parts (legal_in_some G B t) _ h).0

  -- the first try is found among those that are legal in some member
  pub first_is : (j : ℕ) (B : List G.Position) → find (begins G j B) (tries G B) ≡ first_try G j B
  first_is j B = find_filter (legal_in_some G B) (begins G j B) G.moves (begins_legal j B)

  pub tries_up : (B : List G.Position) → Ascending G.move_lt (tries G B)
  tries_up B = ascending_filter G.move_lt (legal_in_some G B) G.moves L.in_order

  pub earlier_tried : (B : List G.Position) (k : ℕ) (d t : G.Move) → k < length (tries G B) → legal_in_some G B t ≡ true → G.move_lt t (get_or (tries G B) k d) ≡ true → In t (take k (tries G B))
  earlier_tried B k d t l e h = before_place G.move_lt (tries G B) k d t L.move_order.never_itself (asym G.move_lt L.move_order) (tries_up B) l (legal_try G L B t e) h
