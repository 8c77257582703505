-- How the test of one try ends, in the order in which a search looks: at the classes, and then at the refused part.
use Rattle.std.proofs.Common.{◌≡◌, ℕ, zero, suc, ◌<◌, Bool, true, false, cond, not, ◌&&◌, ◌||◌, ◌⊎◌, List, [], ◌∷◌, map, find, Some, None, refl, sym, ap, subst, inl, inr, ◌∙◌, arith}
use Rattle.std.specs.Prelude.{◌==◌, IfSome, option_map}
use Rattle.std.specs.List.{list_all}
use Rattle.std.proofs.lemmas.Bool.{cases_Bool, cond-true, cond-false, both_ways, and_parts, and_left, and_right, not_from_false, not_from_true}
use Rattle.krieg_accounts.proofs.Common.{In, is_nil, Game, IsGame, refused, legal_in_some, stale_in_some, keys, class, can, begins, Pair, Block, Lives, Stale, LostClass, LostRefused, NoBlock, lives_in_some, by_class, block, pair_of, block_pair, Table, StoredLost, StoredWon, classes, AnswersSet, AnswersTry, AnswersSets}
use Rattle.krieg_theory.proofs.Lists.{in_map}
use Rattle.krieg_costs.proofs.Blocks.{lives_by_key, found}

pub all_map : {X Y : Type 0} (f : X → Y) (p : Y → Bool) (xs : List X) → list_all p (map f xs) ≡ list_all (λ x. p (f x)) xs
all_map f p [] = refl
all_map f p (x ∷ xs) = ap (λ b. p (f x) && b) (all_map f p xs)

pub find_map : {X Y : Type 0} (f : Y → Bool) (g : X → Y) (xs : List X) → find f (map g xs) ≡ option_map g (find (λ x. f (g x)) xs)
find_map f g [] = refl
find_map f g (x ∷ xs) = let ih = find_map f g xs in elim (f (g x)) as (λ b. cond b (Some (g x)) (find f (map g xs)) ≡ option_map g (cond b (Some x) (find (λ x. f (g x)) xs))) [ true ↦ refl | false ↦ ih ]

pub none_fails : {X : Type 0} (p : X → Bool) (xs : List X) → list_all p xs ≡ true → find (λ x. not (p x)) xs ≡ None
none_fails p [] a = refl
none_fails p (x ∷ xs) a = let b = and_parts (p x) (list_all p xs) a in cond-false (not (p x)) (Some x) _ (not_from_true _ b.0) ∙ none_fails p xs b.1

pub some_fails : {X : Type 0} (p : X → Bool) (xs : List X) → list_all p xs ≡ false → (x : X) × (find (λ x. not (p x)) xs ≡ Some x)
some_fails p [] a = absurd (both_ways true a refl)
some_fails p (x ∷ xs) a = go (cases_Bool (p x)) (some_fails p xs)
  where
    go : (p x ≡ true) ⊎ (p x ≡ false) → (list_all p xs ≡ false → (y : _) × (find (λ x. not (p x)) xs ≡ Some y)) → (y : _) × (find (λ x. not (p x)) (x ∷ xs) ≡ Some y)
    go (inl e) r = let b = r (sym (ap (λ b. b && list_all p xs) e) ∙ a) in (b.0, cond-false (not (p x)) (Some x) _ (not_from_true _ e) ∙ b.1)
    go (inr e) r = (x, cond-true (not (p x)) (Some x) _ (not_from_false _ e))

module _ (G : Game) (L : IsGame G) where
  pub begins_class : (i : ℕ) (B : List G.Position) (t : G.Move) → list_all (can G i) (classes G B t) ≡ false → begins G (suc i) B t ≡ false
  begins_class i B t e = and_right (legal_in_some G B t) _ (and_right (not (stale_in_some G B t)) _ (and_left _ _ (sym (all_map (λ key. class G B t key) (can G i) (keys G B t)) ∙ e)))

  pub begins_rest : (i : ℕ) (B : List G.Position) (t : G.Move) → legal_in_some G B t ≡ true → stale_in_some G B t ≡ false → list_all (can G i) (classes G B t) ≡ true → begins G (suc i) B t ≡ (is_nil (refused G B t) || can G (suc i) (refused G B t))
  begins_rest i B t a b c =
      ap (λ x. x && (not (stale_in_some G B t) && (list_all (λ key. can G i (class G B t key)) (keys G B t) && (is_nil (refused G B t) || can G (suc i) (refused G B t))))) a
      ∙ ap (λ x. not x && (list_all (λ key. can G i (class G B t key)) (keys G B t) && (is_nil (refused G B t) || can G (suc i) (refused G B t)))) b
      ∙ ap (λ x. x && (is_nil (refused G B t) || can G (suc i) (refused G B t))) (sym (all_map (λ key. class G B t key) (can G i) (keys G B t)) ∙ c)

  module _ (Q : Pair G → Type 0) (i : ℕ) (B : List G.Position) (t : G.Move) where
    by_block : (b : Block G.Key) → block G (suc i) B t ≡ b → IfSome (pair_of G i B t b) Q → IfSome (block_pair G (suc i) B t) Q
    by_block b e h = subst (λ x. IfSome (pair_of G i B t x) Q) (sym e) h

    -- with one move left a reply is the block, else what is found
    after_lives : (b : Block G.Key) → cond (stale_in_some G B t) Stale (by_class G (suc i) B t (find (λ key. not (can G i (class G B t key))) (keys G B t))) ≡ b → (0 < i ⊎ lives_in_some G B t ≡ false → IfSome (pair_of G i B t b) Q) → IfSome (block_pair G (suc i) B t) Q
    after_lives b e h = go (cases_Bool ((i == 0) && lives_in_some G B t))
      where
        some : (n : ℕ) → ((n == 0) && lives_in_some G B t) ≡ false → 0 < n ⊎ lives_in_some G B t ≡ false
        some zero d = inr d
        some (suc n) d = inl (omega arith)

        go : (((i == 0) && lives_in_some G B t) ≡ true) ⊎ (((i == 0) && lives_in_some G B t) ≡ false) → IfSome (block_pair G (suc i) B t) Q
        go (inl d) = by_block Lives (cond-true _ _ _ d) tt
        go (inr d) = by_block b (cond-false _ _ _ d ∙ e) (h (some i d))

    pub blocked_stale : stale_in_some G B t ≡ true → IfSome (block_pair G (suc i) B t) Q
    blocked_stale s = after_lives Stale (cond-true _ _ _ s) (λ l. tt)

    pub blocked_class : stale_in_some G B t ≡ false → list_all (can G i) (classes G B t) ≡ false → IfSome (find (λ C. not (can G i C)) (classes G B t)) (λ C. 0 < i → Q (C, i)) → IfSome (block_pair G (suc i) B t) Q
    blocked_class s a h =
        let f = some_fails (λ key. can G i (class G B t key)) (keys G B t) (sym (all_map (λ key. class G B t key) (can G i) (keys G B t)) ∙ a) in
        let is : block G (suc i) B t ≡ block G (suc i) B t = refl in
        after_lives (LostClass f.0) (cond-false _ _ _ s ∙ ap (by_class G (suc i) B t) f.1)
        (λ l. there f.0 f.1 l (subst (λ o. IfSome o (λ C. 0 < i → Q (C, i))) (find_map (λ C. not (can G i C)) (λ key. class G B t key) (keys G B t) ∙ ap (option_map (λ key. class G B t key)) f.1) h))
      where
        there : (key : G.Key) → find (λ key. not (can G i (class G B t key))) (keys G B t) ≡ Some key → 0 < i ⊎ lives_in_some G B t ≡ false → (0 < i → Q (class G B t key, i)) → Q (class G B t key, i)
        there key f (inl l) r = r l
        there key f (inr l) r = absurd (both_ways _ l (lives_by_key G L B t key (found (λ key. not (can G i (class G B t key))) (keys G B t) key f).0))

    pub blocked_refused : stale_in_some G B t ≡ false → list_all (can G i) (classes G B t) ≡ true → is_nil (refused G B t) ≡ false → can G (suc i) (refused G B t) ≡ false → Q (refused G B t, suc i) → IfSome (block_pair G (suc i) B t) Q
    blocked_refused s a e c h =
        let f = none_fails (λ key. can G i (class G B t key)) (keys G B t) (sym (all_map (λ key. class G B t key) (can G i) (keys G B t)) ∙ a) in
        after_lives LostRefused (cond-false _ _ _ s ∙ ap (by_class G (suc i) B t) f ∙ cond-false (is_nil (refused G B t) || can G (suc i) (refused G B t)) NoBlock LostRefused (ap (λ x. x || can G (suc i) (refused G B t)) e ∙ c)) (λ l. h)

module _ (G : Game) (L : IsGame G) (cut : Bool) (T : Table G) (B : List G.Position) (i : ℕ) (t : G.Move) where
  -- some class cannot be won
  pub answered_class : stale_in_some G B t ≡ false → list_all (can G i) (classes G B t) ≡ false → AnswersSets G T (classes G B t) i false → AnswersTry G cut T B (suc i) t false
  answered_class s a r = record {
    classes = λ e. absurd (both_ways false refl e);
    refused_part = λ e. absurd (both_ways false refl e);
    blocked = λ c e. blocked_class G L (λ q. StoredLost G T q) i B t s a (r.lost refl);
  }

  won_classes : ((C : List G.Position) → In C (classes G B t) → StoredWon G T C) → (key : G.Key) → In key (keys G B t) → StoredWon G T (class G B t key)
  won_classes w key k = w (class G B t key) (in_map (λ key. class G B t key) (keys G B t) key k)

  -- all classes are won, and no member refuses the try
  pub answered_all : ((C : List G.Position) → In C (classes G B t) → StoredWon G T C) → is_nil (refused G B t) ≡ true → AnswersTry G cut T B (suc i) t true
  answered_all w n = record {
    classes = λ e. won_classes w;
    refused_part = λ e f. absurd (both_ways _ f n);
    blocked = λ c e. absurd (both_ways true e refl);
  }

  -- all classes are won, and the refused part decides
  pub answered_rest : (won : Bool) → stale_in_some G B t ≡ false → list_all (can G i) (classes G B t) ≡ true → ((C : List G.Position) → In C (classes G B t) → StoredWon G T C) → is_nil (refused G B t) ≡ false → won ≡ can G (suc i) (refused G B t) → AnswersSet G T (refused G B t) (suc i) won → AnswersTry G cut T B (suc i) t won
  answered_rest won s a w n c r = record {
    classes = λ e. won_classes w;
    refused_part = λ e f. r.won e;
    blocked = λ x e. blocked_refused G L (λ q. StoredLost G T q) i B t s a n (sym c ∙ e) (r.lost e (omega arith));
  }
