-- What backs a set that cannot be won.
use Rattle.std.proofs.Common.{◌≡◌, ℕ, zero, suc, ◌≤◌, ◌<◌, true, false, List, [], ◌∷◌, length, Option, Some, None, refl, subst, inl, inr, arith}
use Rattle.std.specs.Prelude.{IfSome}
use Rattle.std.proofs.lemmas.Bool.{both_ways}
use Rattle.krieg_costs.proofs.Common.{In, is_nil, Game, IsGame, refused, legal_in_some, tries, class, can, Pair, Block, Lives, Stale, LostClass, LostRefused, NoBlock, block, pair_of, block_pair, behind, lost_within, lost, KeepsLost}
use Rattle.krieg_theory.proofs.Lists.{in_flat, flat_in}
use Rattle.krieg_theory.proofs.Steps.{refused_lt}
use Rattle.krieg_costs.proofs.Costs.{try_legal, legal_try}
use Rattle.krieg_costs.proofs.Reached.{Inside, class_some}
use Rattle.krieg_costs.proofs.Blocks.{BlockSays, block_says}

module _ (G : Game) (L : IsGame G) where
  -- the pair of each block stands in R
  abbrev pub HasBlocks : List (Pair G) → List G.Position → ℕ → Type 0
  HasBlocks R B j = (t : G.Move) → legal_in_some G B t ≡ true → IfSome (block_pair G j B t) (λ q. In q R)

  root_within : (j n : ℕ) (B : List G.Position) → length B ≤ n → is_nil B ≡ false → In (B, suc j) (lost_within G j (lost G j) n B)
  root_within j n [] l e = absurd (both_ways _ e refl)
  root_within j zero (p ∷ B) l e = absurd (omega arith)
  root_within j (suc n) (p ∷ B) l e = inl refl

  pub lost_root : (j : ℕ) (B : List G.Position) → is_nil B ≡ false → 0 < j → In (B, j) (lost G j B)
  lost_root zero B e h = absurd (omega arith)
  lost_root (suc j) B e h = root_within j (length B) B (omega arith) e

  -- from each place of one level a property of the pair
  lost_place : (j n : ℕ) (B : List G.Position) (Q : Pair G → Type 0) → Q (B, suc j)
      → ((t : G.Move) → In t (tries G B) → (q : Pair G) → In q (behind G (lost G j) (lost_within G j (lost G j) n) B t (block G (suc j) B t)) → Q q)
      → (q : Pair G) → In q (lost_within G j (lost G j) (suc n) B) → Q q
  lost_place j n B Q itself each q (inl e) = subst Q e itself
  lost_place j n B Q itself each q (inr m) = let f = flat_in (λ t. behind G (lost G j) (lost_within G j (lost G j) n) B t (block G (suc j) B t)) (tries G B) q m in each f.0 f.1 q f.2

  in_behind : (j n : ℕ) (B : List G.Position) (t : G.Move) → In t (tries G B) → (q : Pair G) → In q (behind G (lost G j) (lost_within G j (lost G j) n) B t (block G (suc j) B t)) → In q (lost_within G j (lost G j) (suc n) B)
  in_behind j n B t a q m = inr (in_flat (λ t. behind G (lost G j) (lost_within G j (lost G j) n) B t (block G (suc j) B t)) (tries G B) t q a m)

  -- the pair of a block is the first of what is behind it
  pub behind_root : (j : ℕ) (B : List G.Position) (t : G.Move) (less here : List G.Position → List (Pair G)) (b : Block G.Key) → BlockSays G L j B t b
      → ((key : G.Key) → is_nil (class G B t key) ≡ false → 0 < j → In (class G B t key, j) (less (class G B t key)))
      → (is_nil (refused G B t) ≡ false → In (refused G B t, suc j) (here (refused G B t)))
      → IfSome (pair_of G j B t b) (λ q. In q (behind G less here B t b))
  behind_root j B t less here Lives s f g = tt
  behind_root j B t less here Stale s f g = tt
  behind_root j B t less here (LostClass key) s f g = f key (class_some G L B t key s.0) s.2
  behind_root j B t less here LostRefused s f g = g s.0
  behind_root j B t less here NoBlock s f g = tt

  pub some_inside : (o : Option (Pair G)) (small R : List (Pair G)) → Inside G L small R → IfSome o (λ q. In q small) → IfSome o (λ q. In q R)
  some_inside None small R f h = tt
  some_inside (Some q) small R f h = f q h

  -- each pair has the pairs of its blocks
  abbrev pub Backs : List (Pair G) → List (Pair G) → Type 0
  Backs small R = (C : List G.Position) (i : ℕ) → In (C, i) small → HasBlocks R C i

  lost_backs_within : (j n : ℕ) → ((B : List G.Position) (R : List (Pair G)) → Inside G L (lost G j B) R → Backs (lost G j B) R) → (B : List G.Position) (R : List (Pair G)) → length B ≤ n → Inside G L (lost_within G j (lost G j) n B) R → Backs (lost_within G j (lost G j) n B) R
  lost_backs_within j zero ih B R l inside C i m = absurd m
  lost_backs_within j (suc n) ih B R l inside C i m = lost_place j n B (λ q. HasBlocks R q.0 q.1) itself (λ t a q k. below t (block G (suc j) B t) (refused_lt G L B t (try_legal G L B t a)) (λ x y. inside x (in_behind j n B t a x y)) (λ h f. lost_backs_within j n ih (refused G B t) R h f) q k) (C, i) m
    where
      itself : HasBlocks R B (suc j)
      itself t e =
          let a = legal_try G L B t e in
          let d = refused_lt G L B t e in
          let b = block G (suc j) B t in
          some_inside (pair_of G j B t b) (behind G (lost G j) (lost_within G j (lost G j) n) B t b) R (λ x y. inside x (in_behind j n B t a x y))
          (behind_root j B t (lost G j) (lost_within G j (lost G j) n) b (block_says G L j B t) (λ key f h. lost_root j (class G B t key) f h) (λ f. root_within j n (refused G B t) (omega arith) f))

      below : (t : G.Move) (b : Block G.Key) → length (refused G B t) < length B → Inside G L (behind G (lost G j) (lost_within G j (lost G j) n) B t b) R → (length (refused G B t) ≤ n → Inside G L (lost_within G j (lost G j) n (refused G B t)) R → Backs (lost_within G j (lost G j) n (refused G B t)) R) → (q : Pair G) → In q (behind G (lost G j) (lost_within G j (lost G j) n) B t b) → HasBlocks R q.0 q.1
      below t Lives d f again q k = absurd k
      below t Stale d f again q k = absurd k
      below t (LostClass key) d f again q k = ih (class G B t key) R f q.0 q.1 k
      below t LostRefused d f again q k = again (omega arith) f q.0 q.1 k
      below t NoBlock d f again q k = absurd k

  pub lost_backs : (j : ℕ) (B : List G.Position) (R : List (Pair G)) → Inside G L (lost G j B) R → Backs (lost G j B) R
  lost_backs zero B R inside C i m = absurd m
  lost_backs (suc j) B R inside C i m = lost_backs_within j (length B) (lost_backs j) B R (omega arith) inside C i m

  -- what is behind a block cannot be won
  abbrev pub AreLost : List (Pair G) → Type 0
  AreLost small = (q : Pair G) → In q small → can G q.1 q.0 ≡ false

  pub behind_lost : (j : ℕ) (B : List G.Position) (t : G.Move) (less here : List G.Position → List (Pair G)) (b : Block G.Key) → BlockSays G L j B t b
      → ((C : List G.Position) → can G j C ≡ false → AreLost (less C)) → (can G (suc j) (refused G B t) ≡ false → AreLost (here (refused G B t))) → AreLost (behind G less here B t b)
  behind_lost j B t less here Lives s f g q k = absurd k
  behind_lost j B t less here Stale s f g q k = absurd k
  behind_lost j B t less here (LostClass key) s f g q k = f (class G B t key) s.1 q k
  behind_lost j B t less here LostRefused s f g q k = g s.1 q k
  behind_lost j B t less here NoBlock s f g q k = absurd k

  lost_lost_within : (j n : ℕ) → ((B : List G.Position) → can G j B ≡ false → AreLost (lost G j B)) → (B : List G.Position) → can G (suc j) B ≡ false → AreLost (lost_within G j (lost G j) n B)
  lost_lost_within j zero ih B c q m = absurd m
  lost_lost_within j (suc n) ih B c q m =
      lost_place j n B (λ q. can G q.1 q.0 ≡ false) c
      (λ t a. behind_lost j B t (lost G j) (lost_within G j (lost G j) n) (block G (suc j) B t) (block_says G L j B t) ih (λ d. lost_lost_within j n ih (refused G B t) d)) q m

  pub lost_lost : (j : ℕ) (B : List G.Position) → can G j B ≡ false → AreLost (lost G j B)
  lost_lost zero B c q m = absurd m
  lost_lost (suc j) B c q m = lost_lost_within j (length B) (lost_lost j) B c q m

  -- a list that keeps the rule and has the pair has all that backs it
  pub behind_inside : (j : ℕ) (B : List G.Position) (t : G.Move) (less here : List G.Position → List (Pair G)) (R : List (Pair G)) (b : Block G.Key) → BlockSays G L j B t b
      → IfSome (pair_of G j B t b) (λ q. In q R)
      → ((C : List G.Position) → can G j C ≡ false → In (C, j) R → Inside G L (less C) R)
      → (can G (suc j) (refused G B t) ≡ false → In (refused G B t, suc j) R → Inside G L (here (refused G B t)) R)
      → Inside G L (behind G less here B t b) R
  behind_inside j B t less here R Lives s k f g q m = absurd m
  behind_inside j B t less here R Stale s k f g q m = absurd m
  behind_inside j B t less here R (LostClass key) s k f g q m = f (class G B t key) s.1 k q m
  behind_inside j B t less here R LostRefused s k f g q m = g s.1 k q m
  behind_inside j B t less here R NoBlock s k f g q m = absurd m

  lost_inside_within : (j n : ℕ) (R : List (Pair G)) → KeepsLost G R → ((B : List G.Position) → can G j B ≡ false → In (B, j) R → Inside G L (lost G j B) R) → (B : List G.Position) → can G (suc j) B ≡ false → In (B, suc j) R → Inside G L (lost_within G j (lost G j) n B) R
  lost_inside_within j zero R keeps ih B c i q m = absurd m
  lost_inside_within j (suc n) R keeps ih B c i q m =
      lost_place j n B (λ q. In q R) i
      (λ t a. behind_inside j B t (lost G j) (lost_within G j (lost G j) n) R (block G (suc j) B t) (block_says G L j B t) (keeps B (suc j) i c t (try_legal G L B t a)) ih (λ d k. lost_inside_within j n R keeps ih (refused G B t) d k)) q m

  pub lost_inside : (j : ℕ) (R : List (Pair G)) → KeepsLost G R → (B : List G.Position) → can G j B ≡ false → In (B, j) R → Inside G L (lost G j B) R
  lost_inside zero R keeps B c i q m = absurd m
  lost_inside (suc j) R keeps B c i q m = lost_inside_within j (length B) R keeps (lost_inside j R keeps) B c i q m
