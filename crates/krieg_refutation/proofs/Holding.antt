-- What a reason says, by the parts of its try.
use Rattle.std.proofs.Common.{◌≡◌, ℕ, ◌<◌, Bool, true, false, not, ◌&&◌, ◌||◌, ◌⊎◌, List, [], ◌∷◌, map, length, refl, sym, ap, subst, inl, inr, ◌∙◌, arith}
use Rattle.std.specs.Prelude.{◌==◌}
use Rattle.std.proofs.lemmas.Bool.{cases_Bool, cond-true, cond-false, both_ways, false_from_ne_true, eqb-true}
use Rattle.krieg_refutation.proofs.Common.{Pos, Move, Dialect, set_of, is_nil, same, keys, class, lives_in_some, Key, key_lt, chess, class_pair, Parted, IsParted, Why, why_of, class_in}
use Rattle.krieg_theory.specs.Sets.{In}
use Rattle.krieg_theory.proofs.Lists.{nil_or_member}
use Rattle.krieg_theory.proofs.Ascending.{same_eq, same_refl}
use Rattle.krieg_theory.proofs.Theorems.{classes_are_split}
use Rattle.krieg_costs.specs.Refutation as theory
use Rattle.krieg_costs.proofs.Reached.{not_nil}
use Rattle.krieg_game.proofs.KeyLaws.{key_order}
use Rattle.krieg_game.proofs.ChessLaws.{chess_is_game}
use Rattle.krieg_refutation.proofs.ClassesAt.{lives_is}

-- the set at a key of a list of classes
class_here : (f : Key → List Pos) (ks : List Key) (key : Key) → (f key ≡ [] ⊎ In key ks) → class_in (map (λ k. (k, f k)) ks) key ≡ f key
class_here f [] key (inl e) = sym e
class_here f [] key (inr i) = absurd i
class_here f (k ∷ ks) key h = go (cases_Bool (same key_lt k key)) (λ n. class_here f ks key (more n h))
  where
    more : same key_lt k key ≡ false → (f key ≡ [] ⊎ In key (k ∷ ks)) → f key ≡ [] ⊎ In key ks
    more n (inl e) = inl e
    more n (inr (inl e)) = absurd (both_ways _ n (subst (λ x. same key_lt k x ≡ true) e (same_refl key_lt key_order k)))
    more n (inr (inr i)) = inr i

    go : (same key_lt k key ≡ true) ⊎ (same key_lt k key ≡ false) → (same key_lt k key ≡ false → class_in (map (λ k. (k, f k)) ks) key ≡ f key) → class_in (map (λ k. (k, f k)) (k ∷ ks)) key ≡ f key
    go (inl e) ih = cond-true (same key_lt k key) (f k) (class_in (map (λ k. (k, f k)) ks) key) e ∙ ap f (same_eq key_lt key_order k key e)
    go (inr e) ih = cond-false (same key_lt k key) (f k) (class_in (map (λ k. (k, f k)) ks) key) e ∙ ih e

pub empty_is : {X : Type 0} (xs : List X) (n : ℕ) → n ≡ length xs → (n == 0) ≡ is_nil xs
empty_is [] n e = ap (λ (k : ℕ). k == 0) e
empty_is (x ∷ xs) n e = false_from_ne_true _ (λ h. (let y = eqb-true n 0 h in omega arith))

pub no_set : set_of [] ≡ []
unfolding set_of
no_set = refl

nil_is : (xs : List Pos) → is_nil xs ≡ true → xs ≡ []
nil_is [] h = refl
nil_is (x ∷ xs) h = absurd (both_ways false refl h)

map_nil : {X Y Z : Type 0} (f : X → Y) (g : Z → Y) (xs : List X) (zs : List Z) → map f xs ≡ map g zs → is_nil xs ≡ is_nil zs
map_nil f g [] [] e = refl
map_nil f g [] (z ∷ zs) e = absurd (cc)
map_nil f g (x ∷ xs) [] e = absurd (cc)
map_nil f g (x ∷ xs) (z ∷ zs) e = refl

module _ (d : Dialect) (B : List Pos) (t : Move) where
  -- the class of words, whether they may be heard or not
  pub class_at : (key : Key) (cs : List (Key × List Pos)) → cs ≡ map (λ key. (key, class (chess d) B t key)) (keys (chess d) B t) → class_in cs key ≡ class (chess d) B t key
  class_at key cs e = ap (λ (x : List (Key × List Pos)). class_in x key) e ∙ class_here (class (chess d) B t) (keys (chess d) B t) key (occurs (nil_or_member (class (chess d) B t key)))
    where
      occurs : (is_nil (class (chess d) B t key) ≡ true) ⊎ ((x : Pos) × In x (class (chess d) B t key)) → class (chess d) B t key ≡ [] ⊎ In key (keys (chess d) B t)
      occurs (inl n) = inl (nil_is (class (chess d) B t key) n)
      occurs (inr m) = inr ((classes_are_split (chess d) (chess_is_game d) B t key).2.1 (not_nil (class (chess d) B t key) m.0 m.1))

  module _ (parted : Parted) (q : IsParted d B t parted) where
    -- whether the try lives, by its parts
    pub lives_stale : parted.stale ≡ true → parted.stale ≡ lives_in_some (chess d) B t
    lives_stale e = e ∙ sym (lives_is (chess d) (chess_is_game d) B t ∙ ap (λ (b : Bool). b || not (is_nil (keys (chess d) B t))) (sym q.stale_part ∙ e))

    pub lives_heard : (b : Bool) → parted.stale ≡ false → b ≡ is_nil parted.classes.items → not b ≡ lives_in_some (chess d) B t
    lives_heard b e n =
        ap not (n ∙ map_nil class_pair (λ key. (key, class (chess d) B t key)) parted.classes.items (keys (chess d) B t) q.classes_part)
        ∙ sym (lives_is (chess d) (chess_is_game d) B t ∙ ap (λ (b : Bool). b || not (is_nil (keys (chess d) B t))) (sym q.stale_part ∙ e))

    -- a reason by a class
    pub class_holds : (cs : List (theory.Claim (chess d))) (fewer place : ℕ) (key : Key) (why : Why) (b : Bool) → why_of why ≡ theory.ByClass key place → 0 < fewer
        → b ≡ theory.is_shown (chess d) (theory.cited cs place) fewer (class_in (map class_pair parted.classes.items) key) → b ≡ theory.holds (chess d) cs fewer B t (why_of why)
    class_holds cs fewer place key why b w h e =
        e ∙ ap (λ (X : List Pos). theory.is_shown (chess d) (theory.cited cs place) fewer X) (class_at key (map class_pair parted.classes.items) q.classes_part)
        ∙ sym (ap (λ (z : Bool). not z && theory.is_shown (chess d) (theory.cited cs place) fewer (class (chess d) B t key)) zero)
        ∙ sym (ap (theory.holds (chess d) cs fewer B t) w)
      where
        zero : (fewer == 0) ≡ false
        zero = false_from_ne_true _ (λ x. (let y = eqb-true fewer 0 x in omega arith))
