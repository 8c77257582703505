-- Pairs that stand on those before them.
use Rattle.std.proofs.Common.{◌≡◌, ℕ, zero, suc, ◌≤◌, ◌<◌, false, ◌⊎◌, List, [], ◌∷◌, ◌++◌, length, flat_map, refl, sym, ap, subst, inl, inr, append_assoc, append-nil, arith}
use Rattle.std.specs.Prelude.{IfSome}
use Rattle.std.proofs.lemmas.Bool.{both_ways}
use Rattle.krieg_claims.proofs.Common.{In, is_nil, Game, IsGame, refused, tries, class, Pair, Block, Lives, Stale, LostClass, LostRefused, NoBlock, block, pair_of, block_pair, behind, claimed_within, claimed, add_all, IsLostPair, HasBlocks, Stands, behind_try}
use Rattle.krieg_theory.proofs.Lists.{in_append_left, in_append_right, append_in, flat_in}
use Rattle.krieg_theory.proofs.Steps.{refused_lt}
use Rattle.krieg_costs.proofs.Costs.{try_legal}
use Rattle.krieg_costs.proofs.Reached.{class_some}
use Rattle.krieg_costs.proofs.Blocks.{BlockSays, block_says}
use Rattle.krieg_costs.proofs.LostSets.{some_inside}
use Rattle.krieg_claims.proofs.Adding.{all_there}

-- images that agree at each member
flat_agree : {X Y : Type 0} (f g : X → List Y) (xs : List X) → ((x : X) → In x xs → f x ≡ g x) → flat_map f xs ≡ flat_map g xs
flat_agree f g [] h = refl
flat_agree f g (x ∷ xs) h = let a = h x (inl refl) in let b = flat_agree f g xs (λ y i. h y (inr i)) in λ i. a i ++ b i

not_empty : {X : Type 0} (B : List X) → is_nil B ≡ false → length B ≡ 0 → ⊥
not_empty [] n e = both_ways _ n refl
not_empty (x ∷ B) n e = absurd (omega arith)

module _ (G : Game) (L : IsGame G) where
  -- the bound on the members does not matter
  behind_same : (j : ℕ) (B : List G.Position) (t : G.Move) (less here here' : List G.Position → List (Pair G)) (b : Block G.Key) → BlockSays G L j B t b
      → (is_nil (refused G B t) ≡ false → here (refused G B t) ≡ here' (refused G B t)) → behind G less here B t b ≡ behind G less here' B t b
  behind_same j B t less here here' Lives s e = refl
  behind_same j B t less here here' Stale s e = refl
  behind_same j B t less here here' (LostClass key) s e = refl
  behind_same j B t less here here' LostRefused s e = e s.0
  behind_same j B t less here here' NoBlock s e = refl

  within_same : (j : ℕ) (less : List G.Position → List (Pair G)) (n m : ℕ) (B : List G.Position) → is_nil B ≡ false → length B ≤ n → length B ≤ m → claimed_within G j less n B ≡ claimed_within G j less m B
  within_same j less zero m B e a b = absurd (not_empty B e (omega arith))
  within_same j less (suc n) zero B e a b = absurd (not_empty B e (omega arith))
  within_same j less (suc n) (suc m) B e a b =
      ap (λ x. x ++ (B, suc j) ∷ [])
      (flat_agree (λ t. behind G less (claimed_within G j less n) B t (block G (suc j) B t)) (λ t. behind G less (claimed_within G j less m) B t (block G (suc j) B t)) (tries G B)
      (λ t i. (let d = refused_lt G L B t (try_legal G L B t i) in
      behind_same j B t less (claimed_within G j less n) (claimed_within G j less m) (block G (suc j) B t) (block_says G L j B t) (λ f. within_same j less n m (refused G B t) f (omega arith) (omega arith)))))

  -- one level, with no bound
  pub claimed_step : (j : ℕ) (B : List G.Position) → is_nil B ≡ false → claimed G (suc j) B ≡ flat_map (behind_try G j B) (tries G B) ++ (B, suc j) ∷ []
  claimed_step j [] e = absurd (both_ways _ e refl)
  claimed_step j (p ∷ B) e =
      ap (λ x. x ++ (p ∷ B, suc j) ∷ [])
      (flat_agree (λ t. behind G (claimed G j) (claimed_within G j (claimed G j) (length B)) (p ∷ B) t (block G (suc j) (p ∷ B) t)) (behind_try G j (p ∷ B)) (tries G (p ∷ B))
      (λ t i. (let d = refused_lt G L (p ∷ B) t (try_legal G L (p ∷ B) t i) in
      behind_same j (p ∷ B) t (claimed G j) (claimed_within G j (claimed G j) (length B)) (claimed G (suc j)) (block G (suc j) (p ∷ B) t) (block_says G L j (p ∷ B) t)
      (λ f. within_same j (claimed G j) (length B) (length (refused G (p ∷ B) t)) (refused G (p ∷ B) t) f (omega arith) (omega arith)))))

  -- the pair itself is claimed
  pub claimed_root : (j : ℕ) (B : List G.Position) → is_nil B ≡ false → 0 < j → In (B, j) (claimed G j B)
  claimed_root zero B e h = absurd (omega arith)
  claimed_root (suc j) B e h = subst (In (B, suc j)) (sym (claimed_step j B e)) (in_append_right (flat_map (behind_try G j B) (tries G B)) ((B, suc j) ∷ []) (B, suc j) (inl refl))

  pub blocks_keep : (small R : List (Pair G)) (B : List G.Position) (j : ℕ) → ((q : Pair G) → In q small → In q R) → HasBlocks G small B j → HasBlocks G R B j
  blocks_keep small R B j f h t e = some_inside G L (block_pair G j B t) small R f (h t e)

  pub stands_more : (before qs : List (Pair G)) (q : Pair G) → Stands G before qs → IsLostPair G q → HasBlocks G (before ++ qs) q.0 q.1 → Stands G before (qs ++ q ∷ [])
  stands_more before [] q s l h = (l, subst (λ (R : List (Pair G)). HasBlocks G R q.0 q.1) (append-nil before) h, tt)
  stands_more before (p ∷ qs) q s l h = (s.0, s.1, stands_more (before ++ p ∷ []) qs q s.2 l (subst (λ (R : List (Pair G)). HasBlocks G R q.0 q.1) (sym (append_assoc before (p ∷ []) qs)) h))

  pub stands_at : (before qs : List (Pair G)) → Stands G before qs → (q : Pair G) → In q qs → IsLostPair G q × HasBlocks G (before ++ qs) q.0 q.1
  stands_at before [] s q i = absurd i
  stands_at before (p ∷ qs) s q (inl e) =
      (subst (IsLostPair G) e s.0, subst (λ (x : Pair G). HasBlocks G (before ++ p ∷ qs) x.0 x.1) e (blocks_keep before (before ++ p ∷ qs) p.0 p.1 (λ x k. in_append_left before (p ∷ qs) x k) s.1))
  stands_at before (p ∷ qs) s q (inr i) =
      let r = stands_at (before ++ p ∷ []) qs s.2 q i in
      (r.0, subst (λ (R : List (Pair G)). HasBlocks G R q.0 q.1) (append_assoc before (p ∷ []) qs) r.1)

  -- what is claimed with a pair that stands there is there
  behind_there : (j : ℕ) (B : List G.Position) (t : G.Move) (qs : List (Pair G)) (b : Block G.Key) → BlockSays G L j B t b → IfSome (pair_of G j B t b) (λ q. In q qs)
      → ((C : List G.Position) → In (C, j) qs → (q : Pair G) → In q (claimed G j C) → In q qs)
      → (In (refused G B t, suc j) qs → (q : Pair G) → In q (claimed G (suc j) (refused G B t)) → In q qs)
      → (q : Pair G) → In q (behind G (claimed G j) (claimed G (suc j)) B t b) → In q qs
  behind_there j B t qs Lives s k f g q m = absurd m
  behind_there j B t qs Stale s k f g q m = absurd m
  behind_there j B t qs (LostClass key) s k f g q m = f (class G B t key) k q m
  behind_there j B t qs LostRefused s k f g q m = g k q m
  behind_there j B t qs NoBlock s k f g q m = absurd m

  there_within : (j n : ℕ) (qs : List (Pair G)) → Stands G [] qs → ((C : List G.Position) → In (C, j) qs → (q : Pair G) → In q (claimed G j C) → In q qs)
      → (B : List G.Position) → length B ≤ n → In (B, suc j) qs → (q : Pair G) → In q (claimed G (suc j) B) → In q qs
  there_within j zero qs s ih B l i q m = absurd (not_empty B (stands_at [] qs s (B, suc j) i).0.some (omega arith))
  there_within j (suc n) qs s ih B l i q m =
      let a = stands_at [] qs s (B, suc j) i in
      go a.1 (λ R h x. there_within j n qs s ih R h x) (append_in (flat_map (behind_try G j B) (tries G B)) ((B, suc j) ∷ []) q (subst (In q) (claimed_step j B a.0.some) m))
    where
      go : HasBlocks G qs B (suc j) → ((R : List G.Position) → length R ≤ n → In (R, suc j) qs → (x : Pair G) → In x (claimed G (suc j) R) → In x qs) → In q (flat_map (behind_try G j B) (tries G B)) ⊎ In q ((B, suc j) ∷ []) → In q qs
      go h again (inl k) =
          let f = flat_in (behind_try G j B) (tries G B) q k in
          let e = try_legal G L B f.0 f.1 in
          let d = refused_lt G L B f.0 e in
          behind_there j B f.0 qs (block G (suc j) B f.0) (block_says G L j B f.0) (h f.0 e) ih (again (refused G B f.0) (omega arith)) q f.2
      go h again (inr (inl e)) = subst (λ x. In x qs) e i
      go h again (inr (inr k)) = absurd k

  pub there : (j : ℕ) (qs : List (Pair G)) → Stands G [] qs → (B : List G.Position) → In (B, j) qs → (q : Pair G) → In q (claimed G j B) → In q qs
  there zero qs s B i q m = absurd m
  there (suc j) qs s B i q m = there_within j (length B) qs s (there j qs s) B (omega arith) i q m

  -- so it adds nothing
  pub claimed_there : (j : ℕ) (qs : List (Pair G)) → Stands G [] qs → (B : List G.Position) → In (B, j) qs → add_all G qs (claimed G j B) ≡ qs
  claimed_there j qs s B i = all_there G L qs (claimed G j B) (there j qs s B i)

  -- what is claimed is the pair itself or smaller
  abbrev pub IsBelow : ℕ → ℕ → Pair G → Type 0
  IsBelow j n q = (q.1 < j) ⊎ ((q.1 ≤ j) × (length q.0 < n))

  behind_below : (j : ℕ) (B : List G.Position) (t : G.Move) (b : Block G.Key) → BlockSays G L j B t b → length (refused G B t) < length B
      → ((C : List G.Position) → is_nil C ≡ false → (q : Pair G) → In q (claimed G j C) → IsBelow j (suc (length C)) q)
      → (is_nil (refused G B t) ≡ false → (q : Pair G) → In q (claimed G (suc j) (refused G B t)) → IsBelow (suc j) (suc (length (refused G B t))) q)
      → (q : Pair G) → In q (behind G (claimed G j) (claimed G (suc j)) B t b) → IsBelow (suc j) (length B) q
  behind_below j B t Lives s d f g q m = absurd m
  behind_below j B t Stale s d f g q m = absurd m
  behind_below j B t (LostClass key) s d f g q m = less (f (class G B t key) (class_some G L B t key s.0) q m)
    where
      less : IsBelow j (suc (length (class G B t key))) q → IsBelow (suc j) (length B) q
      less (inl h) = inl (omega arith)
      less (inr h) = inl (let x = h.0 in omega arith)
  behind_below j B t LostRefused s d f g q m = less (g s.0 q m)
    where
      less : IsBelow (suc j) (suc (length (refused G B t))) q → IsBelow (suc j) (length B) q
      less (inl h) = inl h
      less (inr h) = inr (h.0, let x = h.1 in omega arith)
  behind_below j B t NoBlock s d f g q m = absurd m

  -- of the pair, by what its tries add
  root_below : (j : ℕ) (B : List G.Position) → is_nil B ≡ false → ((t : G.Move) → In t (tries G B) → (q : Pair G) → In q (behind_try G j B t) → IsBelow (suc j) (length B) q)
      → (q : Pair G) → In q (claimed G (suc j) B) → IsBelow (suc j) (suc (length B)) q
  root_below j B e each q m = go (append_in (flat_map (behind_try G j B) (tries G B)) ((B, suc j) ∷ []) q (subst (In q) (claimed_step j B e) m))
    where
      more : IsBelow (suc j) (length B) q → IsBelow (suc j) (suc (length B)) q
      more (inl h) = inl h
      more (inr h) = inr (h.0, let y = h.1 in omega arith)

      go : In q (flat_map (behind_try G j B) (tries G B)) ⊎ In q ((B, suc j) ∷ []) → IsBelow (suc j) (suc (length B)) q
      go (inl y) = let f = flat_in (behind_try G j B) (tries G B) q y in more (each f.0 f.1 q f.2)
      go (inr (inl e)) = inr (let a = ap (λ (z : Pair G). z.1) e in let b = ap (λ (z : Pair G). length z.0) e in (omega arith, omega arith))
      go (inr (inr y)) = absurd y

  below_within : (j n : ℕ) → ((C : List G.Position) → is_nil C ≡ false → (q : Pair G) → In q (claimed G j C) → IsBelow j (suc (length C)) q)
      → (B : List G.Position) → is_nil B ≡ false → length B ≤ n → (t : G.Move) → In t (tries G B) → (q : Pair G) → In q (behind_try G j B t) → IsBelow (suc j) (length B) q
  below_within j zero ih B e l t i q m = absurd (not_empty B e (omega arith))
  below_within j (suc n) ih B e l t i q m =
      let d = refused_lt G L B t (try_legal G L B t i) in
      behind_below j B t (block G (suc j) B t) (block_says G L j B t) d ih
      (λ f. root_below j (refused G B t) f (λ x y. below_within j n ih (refused G B t) f (omega arith) x y)) q m

  below : (j : ℕ) (B : List G.Position) → is_nil B ≡ false → (q : Pair G) → In q (claimed G j B) → IsBelow j (suc (length B)) q
  below zero B e q m = absurd m
  below (suc j) B e q m = root_below j B e (below_within j (length B) (below j) B e (omega arith)) q m

  -- no try of a set claims the set with the same number
  pub not_itself : (j : ℕ) (B : List G.Position) → is_nil B ≡ false → (t : G.Move) → In t (tries G B) → In (B, suc j) (behind_try G j B t) → ⊥
  not_itself j B e t i m = go (below_within j (length B) (below j) B e (omega arith) t i (B, suc j) m)
    where
      go : IsBelow (suc j) (length B) (B, suc j) → ⊥
      go (inl h) = omega arith
      go (inr h) = let x = h.1 in omega arith
