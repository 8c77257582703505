-- What a walk leaves that claims one set after another: the pairs that are claimed, their claims, and how large these are.
use Rattle.std.proofs.Common.{◌≡◌, ℕ, zero, suc, ◌+◌, false, ◌⊎◌, List, [], ◌∷◌, ◌++◌, length, map, flat_map, Option, Some, None, refl, sym, ap, subst, inl, inr, ◌∙◌, append-nil, length-append, arith}
use Rattle.std.specs.Prelude.{IfSome}
use Rattle.std.proofs.lemmas.List.{map-append}
use Rattle.std.proofs.lemmas.Grind.{flat_map-append}
use Rattle.krieg_claims.proofs.Common.{In, is_nil, Game, IsGame, refused, tries, class, can, Pair, total, Block, Lives, Stale, LostClass, LostRefused, NoBlock, block, pair_of, block_pair, Reason, Claim, add_all, place_of, reason_of, reason_at, claim_of, claims_of, IsLostPair, HasBlocks, HasTries, Stands, behind_try, Walks, WalksTries, positions_in, reasons_in, AreMany}
use Rattle.krieg_theory.proofs.Lists.{append_in}
use Rattle.krieg_costs.proofs.Costs.{try_legal, legal_try}
use Rattle.krieg_costs.proofs.Totals.{total_append}
use Rattle.krieg_claims.proofs.Adding.{all_append, all_more, all_keeps, index_left}
use Rattle.krieg_claims.proofs.Standing.{claimed_there, stands_at, stands_more}
use Rattle.krieg_claims.proofs.Denied.{set_last, root_new}

map_agree : {X Y : Type 0} (f g : X → Y) (xs : List X) → ((x : X) → In x xs → f x ≡ g x) → map f xs ≡ map g xs
map_agree f g [] h = refl
map_agree f g (x ∷ xs) h = let a = h x (inl refl) in let b = map_agree f g xs (λ y i. h y (inr i)) in λ i. a i ∷ b i

module _ (G : Game) (L : IsGame G) where
  -- what is claimed later changes no reason
  pub reason_keeps : (qs rs : List (Pair G)) (j : ℕ) (B : List G.Position) (t : G.Move) (b : Block G.Key) → IfSome (pair_of G j B t b) (λ q. In q qs) → reason_of G (qs ++ rs) j B t b ≡ reason_of G qs j B t b
  reason_keeps qs rs j B t Lives h = refl
  reason_keeps qs rs j B t Stale h = refl
  reason_keeps qs rs j B t (LostClass key) h = ap (λ (k : ℕ). Rattle.krieg_costs.specs.Refutation.ByClass key (suc k)) (index_left G L qs rs (class G B t key, j) h)
  reason_keeps qs rs j B t LostRefused h = ap (λ (k : ℕ). Rattle.krieg_costs.specs.Refutation.ByRefused (suc k)) (index_left G L qs rs (refused G B t, suc j) h)
  reason_keeps qs rs j B t NoBlock h = refl

  pub reason_at_keeps : (qs rs : List (Pair G)) (j : ℕ) (B : List G.Position) (t : G.Move) → IfSome (block_pair G j B t) (λ q. In q qs) → reason_at G (qs ++ rs) j B t ≡ reason_at G qs j B t
  reason_at_keeps qs rs zero B t h = refl
  reason_at_keeps qs rs (suc j) B t h = reason_keeps qs rs j B t (block G (suc j) B t) h

  -- nor those of some tries, nor a claim
  pub reasons_keep : (qs rs : List (Pair G)) (j : ℕ) (B : List G.Position) (ts : List G.Move) → HasTries G qs B j ts → map {B = G.Move × Reason G.Key} (λ t. (t, reason_at G (qs ++ rs) j B t)) ts ≡ map (λ t. (t, reason_at G qs j B t)) ts
  reasons_keep qs rs j B ts h = map_agree {Y = G.Move × Reason G.Key} (λ t. (t, reason_at G (qs ++ rs) j B t)) (λ t. (t, reason_at G qs j B t)) ts (λ t i. ap (λ (r : Reason G.Key). let x : G.Move × Reason G.Key = (t, r) in x) (reason_at_keeps qs rs j B t (h t i)))

  pub claim_keeps : (qs rs : List (Pair G)) (q : Pair G) → HasBlocks G qs q.0 q.1 → claim_of G (qs ++ rs) q ≡ claim_of G qs q
  claim_keeps qs rs q h =
      let e = reasons_keep qs rs q.1 q.0 (tries G q.0) (λ t i. h t (try_legal G L q.0 t i)) in
      ap (λ (r : List (G.Move × Reason G.Key)). let c : Claim G = record { number = q.1; set = q.0; reasons = r } in c) e

  pub claims_keep : (qs rs : List (Pair G)) → Stands G [] qs → map (claim_of G (qs ++ rs)) qs ≡ claims_of G qs
  claims_keep qs rs s = map_agree (claim_of G (qs ++ rs)) (claim_of G qs) qs (λ q i. claim_keeps qs rs q (stands_at G L [] qs s q i).1)

  -- one claim more
  pub claims_more : (qs : List (Pair G)) (q : Pair G) → Stands G [] qs → HasBlocks G qs q.0 q.1 → claims_of G (qs ++ q ∷ []) ≡ claims_of G qs ++ claim_of G qs q ∷ []
  claims_more qs q s h =
      let a = claims_keep qs (q ∷ []) s in
      let b = claim_keeps qs (q ∷ []) q h in
      map-append (claim_of G (qs ++ q ∷ [])) qs (q ∷ []) ∙ (λ i. a i ++ b i ∷ [])

  -- how large they are
  count_is : (all qs : List (Pair G)) → length (map (claim_of G all) qs) ≡ length qs
  count_is all [] = refl
  count_is all (q ∷ qs) = ap suc (count_is all qs)

  positions_are : (all qs : List (Pair G)) → positions_in G (map (claim_of G all) qs) ≡ total (λ (q : Pair G). length q.0) qs
  positions_are all [] = refl
  positions_are all (q ∷ qs) = ap (λ (n : ℕ). length q.0 + n) (positions_are all qs)

  map_length : {X Y : Type 0} (f : X → Y) (xs : List X) → length (map f xs) ≡ length xs
  map_length f [] = refl
  map_length f (x ∷ xs) = ap suc (map_length f xs)

  reasons_are : (all qs : List (Pair G)) → reasons_in G (map (claim_of G all) qs) ≡ total (λ (q : Pair G). length (tries G q.0)) qs
  reasons_are all [] = refl
  reasons_are all (q ∷ qs) = let a = map_length (λ t. (t, reason_at G all q.1 q.0 t)) (tries G q.0) in let b = reasons_are all qs in λ i. a i + b i

  -- claims that are too many stay so
  pub many_more : (most each : ℕ) (qs rs : List (Pair G)) → AreMany G most each (claims_of G qs) → AreMany G most each (claims_of G (qs ++ rs))
  many_more most each qs rs (inl h) = inl (let a = count_is qs qs in let b = count_is (qs ++ rs) (qs ++ rs) in let c = length-append qs rs in omega arith)
  many_more most each qs rs (inr (inl h)) =
      inr (inl (let a = positions_are qs qs in let b = positions_are (qs ++ rs) (qs ++ rs) in let c = total_append (λ (q : Pair G). length q.0) qs rs in omega arith))
  many_more most each qs rs (inr (inr h)) =
      inr (inr (let a = reasons_are qs qs in let b = reasons_are (qs ++ rs) (qs ++ rs) in let c = total_append (λ (q : Pair G). length (tries G q.0)) qs rs in omega arith))

  pub many_all : (most each : ℕ) (qs ps : List (Pair G)) → AreMany G most each (claims_of G qs) → AreMany G most each (claims_of G (add_all G qs ps))
  many_all most each qs ps h = let m = all_more G L qs ps in subst (λ (R : List (Pair G)). AreMany G most each (claims_of G R)) (sym m.1) (many_more most each qs m.0 h)

  pub many_behind : (most each : ℕ) (qs ps rs : List (Pair G)) → AreMany G most each (claims_of G (add_all G qs ps)) → AreMany G most each (claims_of G (add_all G qs (ps ++ rs)))
  many_behind most each qs ps rs h = subst (λ (R : List (Pair G)). AreMany G most each (claims_of G R)) (sym (all_append G L qs ps rs)) (many_all most each (add_all G qs ps) rs h)

  -- the pair is there already
  pub walks_there : (qs : List (Pair G)) (B : List G.Position) (j : ℕ) → Stands G [] qs → In (B, j) qs → Walks G qs qs B j (place_of G qs (B, j))
  walks_there qs B j s i = record { all = sym (claimed_there G L j qs s B i); stands = s; at = refl }

  pub walks_none : (qs : List (Pair G)) (B : List G.Position) (j : ℕ) → Stands G [] qs → WalksTries G qs qs B j []
  walks_none qs B j s = record { all = refl; stands = s; has = λ t i. absurd i }

  -- one try more, by what it adds
  pub walks_try : (qs qs' qs'' : List (Pair G)) (B : List G.Position) (j : ℕ) (ts : List G.Move) (t : G.Move) → WalksTries G qs qs' B j ts → qs'' ≡ add_all G qs' (behind_try G j B t) → Stands G [] qs'' → IfSome (block_pair G (suc j) B t) (λ q. In q qs'') → WalksTries G qs qs'' B j (ts ++ t ∷ [])
  walks_try qs qs' qs'' B j ts t w e s h = record {
    all =
        e ∙ ap (λ R. add_all G R (behind_try G j B t)) w.all
        ∙ sym (all_append G L qs (flat_map (behind_try G j B) ts) (behind_try G j B t))
        ∙ ap (add_all G qs) (ap (λ x. flat_map (behind_try G j B) ts ++ x) (sym (append-nil (behind_try G j B t))) ∙ sym (flat_map-append (behind_try G j B) ts (t ∷ [])));
    stands = s;
    has = λ x i. go x (append_in ts (t ∷ []) x i);
  }
    where
      keeps : (o : Option (Pair G)) → IfSome o (λ q. In q qs') → IfSome o (λ q. In q qs'')
      keeps None k = tt
      keeps (Some q) k = subst (In q) (sym e) (all_keeps G L qs' (behind_try G j B t) q k)

      go : (x : G.Move) → In x ts ⊎ In x (t ∷ []) → IfSome (block_pair G (suc j) B x) (λ q. In q qs'')
      go x (inl k) = keeps (block_pair G (suc j) B x) (w.has x k)
      go x (inr (inl q)) = subst (λ (y : G.Move). IfSome (block_pair G (suc j) B y) (λ q. In q qs'')) q h
      go x (inr (inr k)) = absurd k

  -- all tries were walked: the pair comes last, and its claim behind the others
  module _ (qs qs' : List (Pair G)) (B : List G.Position) (j : ℕ) (e : is_nil B ≡ false) (c : can G (suc j) B ≡ false) (n : In (B, suc j) qs → ⊥) (w : WalksTries G qs qs' B j (tries G B)) where
    blocks : HasBlocks G qs' B (suc j)
    blocks t l = w.has t (legal_try G L B t l)

    itself : IsLostPair G (B, suc j)
    itself = record { some = e; number = omega arith; lost = c }

    pub root_claims : claims_of G (qs' ++ (B, suc j) ∷ []) ≡ claims_of G qs' ++ claim_of G qs' (B, suc j) ∷ []
    root_claims = claims_more qs' (B, suc j) w.stands blocks

    pub root_is_new : In (B, suc j) qs' → ⊥
    root_is_new i = root_new G L j B qs e n (subst (In (B, suc j)) w.all i)

    pub root_walks : (place : ℕ) → place ≡ place_of G (qs' ++ (B, suc j) ∷ []) (B, suc j) → Walks G qs (qs' ++ (B, suc j) ∷ []) B (suc j) place
    root_walks place p = record {
      all = ap (λ (R : List (Pair G)). R ++ (B, suc j) ∷ []) w.all ∙ sym (set_last G L j B qs e n);
      stands = stands_more G L [] qs' (B, suc j) w.stands itself blocks;
      at = p;
    }
