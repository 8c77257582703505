-- What a table of results that is sound says of the block of a try, where the set is stored as lost.
use Rattle.std.proofs.Common.{◌≡◌, ℕ, suc, ◌≤◌, Bool, true, false, not, ◌&&◌, ◌⊎◌, List, [], ◌∷◌, find, Option, Some, None, refl, sym, ap, subst, inl, inr, ◌∙◌, arith}
use Rattle.std.specs.Prelude.{◌==◌, IfSome}
use Rattle.std.proofs.lemmas.Bool.{cases_Bool, cond-true, cond-false, both_ways, and_from, and_parts, not-true, not_from_false, false_from_ne_true, eq-eqb}
use Rattle.krieg_claims.proofs.Common.{In, is_nil, Game, IsGame, refused, legal_in_some, stale_in_some, keys, class, mates_at, can, begins, tries, Pair, up_to, made, floor_price, Block, Lives, Stale, LostClass, LostRefused, NoBlock, lives_in_some, by_class, block, pair_of, block_pair, ByLife, ByStalemate, Table, known, StoredLost, IsSound, pairs, charged, reason_of, is_loss}
use Rattle.krieg_theory.proofs.Lists.{any_at, any_from}
use Rattle.krieg_theory.proofs.Steps.{can_from}
use Rattle.krieg_costs.proofs.Costs.{legal_try}
use Rattle.krieg_costs.proofs.Blocks.{BlockSays, block_says}
use Rattle.krieg_accounts.proofs.Tables.{result_can, known_in}
use Rattle.krieg_accounts.proofs.Canonical.{in_total}
use Rattle.krieg_claims.proofs.Denied.{lost_blocked}

-- a test that passes only where another does, and where that one passes first, finds the same
pub find_agree : {X : Type 0} (f g : X → Bool) (xs : List X) (o : Option X) → ((x : X) → f x ≡ true → g x ≡ true) → find g xs ≡ o → IfSome o (λ x. f x ≡ true) → find f xs ≡ o
find_agree f g [] o h e k = e
find_agree {X} f g (x ∷ xs) o h e k = go (cases_Bool (g x)) (find_agree f g xs o h)
  where
    here : (o : Option X) → Some x ≡ o → IfSome o (λ y. f y ≡ true) → f x ≡ true
    here None q k = absurd (cc)
    here (Some y) q k = subst (λ z. f z ≡ true) (let s : x ≡ y = cc in sym s) k

    go : (g x ≡ true) ⊎ (g x ≡ false) → (find g xs ≡ o → IfSome o (λ y. f y ≡ true) → find f xs ≡ o) → find f (x ∷ xs) ≡ o
    go (inl t) ih = let q = sym (cond-true (g x) (Some x) (find g xs) t) ∙ e in cond-true (f x) (Some x) (find f xs) (here o q k) ∙ q
    go (inr t) ih = cond-false (f x) (Some x) (find f xs) (false_from_ne_true _ (λ p. both_ways _ t (h x p))) ∙ ih (sym (cond-false (g x) (Some x) (find g xs) t) ∙ e) k

-- where nothing passes, all come before what passes first
in_up_to : {X : Type 0} (f : X → Bool) (xs : List X) (x : X) → ((y : X) → f y ≡ false) → In x xs → In x (up_to f xs)
in_up_to f [] x h i = i
in_up_to f (y ∷ ys) x h (inl e) = inl e
in_up_to f (y ∷ ys) x h (inr i) = inr (subst (In x) (sym (cond-false (f y) [] (up_to f ys) (h y))) (in_up_to f ys x h i))

module _ (G : Game) (L : IsGame G) (T : Table G) (sound : IsSound G false T) (B : List G.Position) (j : ℕ) (lost : known G T (B, suc j) ≡ Some None) (t : G.Move) (legal : legal_in_some G B t ≡ true) where
  cannot : can G (suc j) B ≡ false
  cannot = result_can G L false T sound B (suc j) None lost

  -- the pair of the block is stored as lost
  pub block_lost : IfSome (block_pair G (suc j) B t) (λ q. StoredLost G T q)
  block_lost = (sound.backed B (suc j) None lost).earlier refl t legal tt

  abbrev pub loss : G.Key → Bool
  loss key = is_loss (known G T (class G B t key, j))

  blocked : block G (suc j) B t ≡ NoBlock → ⊥
  blocked = lost_blocked G L j B t cannot legal

  loss_is : (o : Option (Option G.Move)) → is_loss o ≡ true → o ≡ Some None
  loss_is None e = absurd (both_ways false refl e)
  loss_is (Some None) e = refl
  loss_is (Some (Some m)) e = absurd (both_ways false refl e)

  loss_cannot : (key : G.Key) → loss key ≡ true → not (can G j (class G B t key)) ≡ true
  loss_cannot key e = not_from_false _ (result_can G L false T sound (class G B t key) j None (loss_is (known G T (class G B t key, j)) e))

  module _ (alive : ((j == 0) && lives_in_some G B t) ≡ false) (fresh : stale_in_some G B t ≡ false) where
    block_is : (o : Option G.Key) → find (λ key. not (can G j (class G B t key))) (keys G B t) ≡ o → block G (suc j) B t ≡ by_class G (suc j) B t o
    block_is o e = cond-false _ _ _ alive ∙ cond-false _ _ _ fresh ∙ ap (by_class G (suc j) B t) e

    stored_loss : (o : Option G.Key) → block G (suc j) B t ≡ by_class G (suc j) B t o → IfSome o (λ key. loss key ≡ true)
    stored_loss None e = tt
    stored_loss (Some key) e =
        let s : StoredLost G T (class G B t key, j) = subst (λ (b : Block G.Key). IfSome (pair_of G j B t b) (λ q. StoredLost G T q)) e block_lost in
        ap is_loss s

    -- the first class that is stored as lost is the first that cannot be won
    pub first_loss : find loss (keys G B t) ≡ find (λ key. not (can G j (class G B t key))) (keys G B t)
    first_loss = let o = find (λ key. not (can G j (class G B t key))) (keys G B t) in find_agree loss (λ key. not (can G j (class G B t key))) (keys G B t) o loss_cannot refl (stored_loss o (block_is o refl))

    -- so it is the block
    pub class_blocks : (key : G.Key) → find loss (keys G B t) ≡ Some key → block G (suc j) B t ≡ LostClass key
    class_blocks key e = block_is (Some key) (sym first_loss ∙ e)

    -- and where there is none the refused part is
    pub refused_blocks : find loss (keys G B t) ≡ None → block G (suc j) B t ≡ LostRefused
    refused_blocks e = go (cases_Bool (Rattle.std.specs.Prelude.◌||◌ (is_nil (refused G B t)) (can G (suc j) (refused G B t))))
      where
        is : block G (suc j) B t ≡ by_class G (suc j) B t None
        is = block_is None (sym first_loss ∙ e)

        go : ((Rattle.std.specs.Prelude.◌||◌ (is_nil (refused G B t)) (can G (suc j) (refused G B t))) ≡ true) ⊎ ((Rattle.std.specs.Prelude.◌||◌ (is_nil (refused G B t)) (can G (suc j) (refused G B t))) ≡ false) → block G (suc j) B t ≡ LostRefused
        go (inl x) = absurd (blocked (is ∙ cond-true _ NoBlock LostRefused x))
        go (inr x) = is ∙ cond-false _ NoBlock LostRefused x

  -- A try that fails at once: with one move left it lives, and else it stalemates.
  pub at_once : (qs : List (Pair G)) → block_pair G (suc j) B t ≡ None → reason_of G qs j B t (block G (suc j) B t) ≡ (Rattle.std.specs.Prelude.if◌then◌else◌ (j == 0) ByLife ByStalemate)
  at_once qs none = go (block G (suc j) B t) refl (block_says G L j B t) none
    where
      stale_lives : stale_in_some G B t ≡ true → lives_in_some G B t ≡ true
      stale_lives e = found (any_at (λ p. G.legal p t && G.stalemates p t) B e)
        where
          found : ((p : G.Position) × In p B × ((G.legal p t && G.stalemates p t) ≡ true)) → lives_in_some G B t ≡ true
          found s =
              let a = and_parts (G.legal s.0 t) (G.stalemates s.0 t) s.2 in
              any_from (λ p. G.legal p t && not (mates_at G p t)) B s.0 s.1
              (and_from _ _ a.0 (not_from_false _ (false_from_ne_true _ (λ m. both_ways _ (not-true _ (and_parts (not (G.stalemates s.0 t)) _ (and_parts (G.legal s.0 t) _ m).1).0) a.1))))

      go : (b : Block G.Key) → block G (suc j) B t ≡ b → BlockSays G L j B t b → pair_of G j B t b ≡ None → reason_of G qs j B t b ≡ (Rattle.std.specs.Prelude.if◌then◌else◌ (j == 0) ByLife ByStalemate)
      go Lives e s n = sym (cond-true (j == 0) ByLife ByStalemate (eq-eqb j 0 s.0))
      go Stale e s n = sym (cond-false (j == 0) ByLife ByStalemate (false_from_ne_true _ (λ z. wrong (sym e ∙ cond-true _ _ _ (and_from _ _ z (stale_lives s))))))
        where
          wrong : ◌≡◌ {A = Block G.Key} Stale Lives → ⊥
          wrong q = cc
      go (LostClass key) e s n = absurd (cc)
      go LostRefused e s n = absurd (cc)
      go NoBlock e s n = absurd (blocked e)

  -- The split of each of its tries was charged, since none of them wins.
  none_begins : (y : G.Move) → begins G (suc j) B y ≡ false
  none_begins y = false_from_ne_true _ (λ e. both_ways _ cannot (can_from G L j B y e))

  pub loss_paid : made G B t ≤ charged G T
  loss_paid =
      let a = in_total (made G B) (up_to (begins G (suc j) B) (tries G B)) t (in_up_to (begins G (suc j) B) (tries G B) t none_begins (legal_try G L B t legal)) in
      let b = in_total (floor_price G) (pairs T) (B, suc j) (known_in G L T (B, suc j) None lost) in
      omega arith
