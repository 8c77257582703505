-- What backs a set that can be won, at its least number.
use Rattle.std.proofs.Common.{◌≡◌, ℕ, zero, suc, ◌≤◌, ◌<◌, true, false, ◌⊎◌, List, [], ◌∷◌, ◌++◌, length, filter, flat_map, Some, refl, sym, ap, subst, inl, inr, ◌∙◌, arith}
use Rattle.std.proofs.lemmas.Bool.{cases_Bool, cond-true, cond-false, both_ways, and_parts}
use Rattle.krieg_costs.proofs.Common.{In, is_nil, Game, IsGame, refused, legal_in_some, tries, keys, class, can, begins, first_try, least, Pair, Block, Lives, Stale, LostClass, LostRefused, NoBlock, block, block_pair, behind, lost, refused_won, won_by, won_within, won, KeepsLost, HasWon, KeepsWon}
use Rattle.krieg_theory.proofs.Lists.{in_append_left, in_append_right, append_in, in_flat, flat_in, filter_in, in_filter, find_at}
use Rattle.krieg_theory.proofs.Steps.{begins_at, can_at, can_from, refused_lt}
use Rattle.krieg_theory.proofs.Unique.{member_of, class_can}
use Rattle.krieg_theory.proofs.Least.{least_here, least_before}
use Rattle.krieg_costs.proofs.Costs.{try_legal, legal_try}
use Rattle.krieg_costs.proofs.Reached.{Inside, not_nil}
use Rattle.krieg_costs.proofs.Blocks.{block_says, found}
use Rattle.krieg_costs.proofs.LostSets.{HasBlocks, AreLost, Backs, lost_root, behind_root, some_inside, lost_backs, behind_lost, lost_lost, behind_inside, lost_inside}

module _ (G : Game) (L : IsGame G) where
  -- the tries before m
  abbrev pub before : List G.Position → G.Move → List G.Move
  before B m = filter (λ t. G.move_lt t m) (tries G B)

  -- what a first try says of its set
  pub record IsFirstTry (j : ℕ) (B : List G.Position) (m : G.Move) : Type 0 where
    pub legal : legal_in_some G B m ≡ true
    pub winning : can G (suc j) B ≡ true
    pub class_won : (key : G.Key) → In key (keys G B m) → can G j (class G B m key) ≡ true
    pub refused_won : is_nil (refused G B m) ≡ false → can G (suc j) (refused G B m) ≡ true
    pub shorter : length (refused G B m) < length B
    pub some : is_nil B ≡ false

  pub first_is : (j : ℕ) (B : List G.Position) (m : G.Move) → first_try G (suc j) B ≡ Some m → IsFirstTry j B m
  first_is j B m e =
      let f = found (begins G (suc j) B) G.moves m e in
      let l = (and_parts (legal_in_some G B m) _ f.1).0 in
      let c = can_from G L j B m f.1 in
      let p = member_of G L (suc j) B c in
      record {
        legal = l;
        winning = c;
        class_won = λ key i. class_can G L j B m f.1 key i;
        refused_won = λ n. others n (begins_at G L (can G j) (can G (suc j)) B m f.1).others;
        shorter = refused_lt G L B m l;
        some = not_nil B p.0 p.1;
      }
    where
      others : is_nil (refused G B m) ≡ false → (is_nil (refused G B m) ≡ true) ⊎ (can G (suc j) (refused G B m) ≡ true) → can G (suc j) (refused G B m) ≡ true
      others n (inl e) = absurd (both_ways _ n e)
      others n (inr e) = e

  pub first_there : (j : ℕ) (B : List G.Position) → can G (suc j) B ≡ true → (m : G.Move) × (first_try G (suc j) B ≡ Some m)
  first_there j B c = let a = can_at G L j B c in let f = find_at (begins G (suc j) B) G.moves a.0 a.1 a.2 in (f.0, f.1)

  -- one level, with its first try
  module _ (j : ℕ) (here : List G.Position → List (Pair G)) (B : List G.Position) (m : G.Move) where
    abbrev pub early : G.Move → List (Pair G)
    early t = behind G (lost G j) (lost G (suc j)) B t (block G (suc j) B t)

    abbrev pub on_class : G.Key → List (Pair G)
    on_class key = won G j (class G B m key)

    pub won_place : (Q : Pair G → Type 0) → Q (B, suc j) → ((q : Pair G) → In q (lost G j B) → Q q)
        → ((key : G.Key) → In key (keys G B m) → (q : Pair G) → In q (on_class key) → Q q)
        → ((q : Pair G) → In q (refused_won G j (won G j) here (refused G B m)) → Q q)
        → ((t : G.Move) → In t (before B m) → (q : Pair G) → In q (early t) → Q q)
        → (q : Pair G) → In q (won_by G j (won G j) here B (Some m)) → Q q
    won_place Q itself below each other earlier q i = first i
      where
        fourth : In q (refused_won G j (won G j) here (refused G B m)) ⊎ In q (flat_map early (before B m)) → Q q
        fourth (inl s) = other q s
        fourth (inr s) = let f = flat_in early (before B m) q s in earlier f.0 f.1 q f.2

        third : In q (flat_map on_class (keys G B m)) ⊎ In q (refused_won G j (won G j) here (refused G B m) ++ flat_map early (before B m)) → Q q
        third (inl s) = let f = flat_in on_class (keys G B m) q s in each f.0 f.1 q f.2
        third (inr s) = fourth (append_in (refused_won G j (won G j) here (refused G B m)) (flat_map early (before B m)) q s)

        second : In q (lost G j B) ⊎ In q (flat_map on_class (keys G B m) ++ (refused_won G j (won G j) here (refused G B m) ++ flat_map early (before B m))) → Q q
        second (inl s) = below q s
        second (inr s) = third (append_in (flat_map on_class (keys G B m)) (refused_won G j (won G j) here (refused G B m) ++ flat_map early (before B m)) q s)

        first : (◌≡◌ {A = Pair G} (B, suc j) q) ⊎ In q (lost G j B ++ (flat_map on_class (keys G B m) ++ (refused_won G j (won G j) here (refused G B m) ++ flat_map early (before B m)))) → Q q
        first (inl e) = subst Q e itself
        first (inr s) = second (append_in (lost G j B) (flat_map on_class (keys G B m) ++ (refused_won G j (won G j) here (refused G B m) ++ flat_map early (before B m))) q s)

    pub in_below : Inside G L (lost G j B) (won_by G j (won G j) here B (Some m))
    in_below q s = inr (in_append_left (lost G j B) (flat_map on_class (keys G B m) ++ (refused_won G j (won G j) here (refused G B m) ++ flat_map early (before B m))) q s)

    pub in_class : (key : G.Key) → In key (keys G B m) → Inside G L (on_class key) (won_by G j (won G j) here B (Some m))
    in_class key i q s = inr (in_append_right (lost G j B) (flat_map on_class (keys G B m) ++ (refused_won G j (won G j) here (refused G B m) ++ flat_map early (before B m))) q (in_append_left (flat_map on_class (keys G B m)) (refused_won G j (won G j) here (refused G B m) ++ flat_map early (before B m)) q (in_flat on_class (keys G B m) key q i s)))

    in_last : Inside G L (refused_won G j (won G j) here (refused G B m) ++ flat_map early (before B m)) (won_by G j (won G j) here B (Some m))
    in_last q s = inr (in_append_right (lost G j B) (flat_map on_class (keys G B m) ++ (refused_won G j (won G j) here (refused G B m) ++ flat_map early (before B m))) q (in_append_right (flat_map on_class (keys G B m)) (refused_won G j (won G j) here (refused G B m) ++ flat_map early (before B m)) q s))

    pub in_refused : Inside G L (refused_won G j (won G j) here (refused G B m)) (won_by G j (won G j) here B (Some m))
    in_refused q s = in_last q (in_append_left (refused_won G j (won G j) here (refused G B m)) (flat_map early (before B m)) q s)

    pub in_early : (t : G.Move) → In t (before B m) → Inside G L (early t) (won_by G j (won G j) here B (Some m))
    in_early t i q s = in_last q (in_append_right (refused_won G j (won G j) here (refused G B m)) (flat_map early (before B m)) q (in_flat early (before B m) t q i s))

  -- the list of a set that is newly won, by its first try
  within_first : (j n : ℕ) (B : List G.Position) (m : G.Move) → first_try G (suc j) B ≡ Some m → won_within G j (won G j) (suc n) B ≡ won_by G j (won G j) (won_within G j (won G j) n) B (Some m)
  within_first j n B m e = ap (won_by G j (won G j) (won_within G j (won G j) n) B) e

  -- a property of the list of a newly won set is shown at its first try, with the bound on the members one less
  newly : (j n : ℕ) (B : List G.Position) → length B ≤ n → can G (suc j) B ≡ true → (Q : List (Pair G) → Type 0) → ((k : ℕ) (m : G.Move) → IsFirstTry j B m → first_try G (suc j) B ≡ Some m → length B ≤ suc k → n ≡ suc k → Q (won_by G j (won G j) (won_within G j (won G j) k) B (Some m))) → Q (won_within G j (won G j) n B)
  newly j zero [] h c Q f = absurd (let p = member_of G L (suc j) [] c in p.1)
  newly j zero (p ∷ B) h c Q f = absurd (omega arith)
  newly j (suc k) B h c Q f = let a = first_there j B c in subst Q (sym (within_first j k B a.0 a.1)) (f k a.0 (first_is j B a.0 a.1) a.1 h refl)

  -- the list of a set is that of the number at which it is newly won
  pub won_case : (j : ℕ) (B : List G.Position) → can G (suc j) B ≡ true → (Q : List (Pair G) → Type 0) → (can G j B ≡ true → Q (won G j B)) → (can G j B ≡ false → Q (won_within G j (won G j) (length B) B)) → Q (won G (suc j) B)
  won_case j B c Q old new = go (cases_Bool (can G j B))
    where
      go : (can G j B ≡ true) ⊎ (can G j B ≡ false) → Q (won G (suc j) B)
      go (inl e) = subst Q (sym (cond-true (can G j B) _ _ e)) (old e)
      go (inr e) = subst Q (sym (cond-false (can G j B) _ _ e)) (new e)

  -- the same for the refused part
  pub refused_case : (j : ℕ) (here : List G.Position → List (Pair G)) (R : List G.Position) (Q : List (Pair G) → Type 0) → (is_nil R ≡ true → Q []) → (is_nil R ≡ false → can G j R ≡ true → Q (won G j R)) → (is_nil R ≡ false → can G j R ≡ false → Q (here R)) → Q (refused_won G j (won G j) here R)
  refused_case j here R Q none old new = go (cases_Bool (is_nil R)) (cases_Bool (can G j R))
    where
      go : (is_nil R ≡ true) ⊎ (is_nil R ≡ false) → (can G j R ≡ true) ⊎ (can G j R ≡ false) → Q (refused_won G j (won G j) here R)
      go (inl e) d = subst Q (sym (cond-true (is_nil R) _ _ e)) (none e)
      go (inr e) (inl d) = subst Q (sym (cond-false (is_nil R) _ _ e ∙ cond-true (can G j R) _ _ d)) (old e d)
      go (inr e) (inr d) = subst Q (sym (cond-false (is_nil R) _ _ e ∙ cond-false (can G j R) _ _ d)) (new e d)

  won_root_within : (j n : ℕ) (B : List G.Position) → length B ≤ n → can G (suc j) B ≡ true → In (B, suc j) (won_within G j (won G j) n B)
  won_root_within j n B h c = newly j n B h c (λ R. In (B, suc j) R) (λ k m f e l q. inl refl)

  pub won_root : (j : ℕ) (B : List G.Position) → can G j B ≡ true → In (B, least G j B) (won G j B)
  won_root zero B c = absurd (both_ways false refl c)
  won_root (suc j) B c = won_case j B c (λ R. In (B, least G (suc j) B) R)
      (λ e. subst (λ i. In (B, i) (won G j B)) (sym (least_before G j B e)) (won_root j B e))
      (λ e. subst (λ i. In (B, i) (won_within G j (won G j) (length B) B)) (sym (least_here G j B e)) (won_root_within j (length B) B (omega arith) c))

  -- each pair is lost, or at its least number
  abbrev pub IsSettled : Pair G → Type 0
  IsSettled q = (can G q.1 q.0 ≡ false) ⊎ ((can G q.1 q.0 ≡ true) × (least G q.1 q.0 ≡ q.1))

  abbrev pub AreSettled : List (Pair G) → Type 0
  AreSettled small = (q : Pair G) → In q small → IsSettled q

  early_lost : (j : ℕ) (B : List G.Position) (m t : G.Move) → AreLost G L (early j (λ R. []) B m t)
  early_lost j B m t = behind_lost G L j B t (lost G j) (lost G (suc j)) (block G (suc j) B t) (block_says G L j B t) (lost_lost G L j) (λ d. lost_lost G L (suc j) (refused G B t) d)

  settled_within : (j n : ℕ) → ((B : List G.Position) → can G j B ≡ true → AreSettled (won G j B)) → (B : List G.Position) → length B ≤ n → can G j B ≡ false → can G (suc j) B ≡ true → AreSettled (won_within G j (won G j) n B)
  settled_within j zero ih B h d c q i = absurd i
  settled_within j (suc n) ih B h d c q i =
      let a = first_there j B c in
      let f = first_is j B a.0 a.1 in
      let s = f.shorter in
      won_place j (won_within G j (won G j) n) B a.0 IsSettled (inr (c, least_here G j B d)) (λ q k. inl (lost_lost G L j B d q k))
      (λ key k. ih (class G B a.0 key) (f.class_won key k))
      (refused_case j (won_within G j (won G j) n) (refused G B a.0) AreSettled (λ z q k. absurd k) (λ e w. ih (refused G B a.0) w) (λ e w. settled_within j n ih (refused G B a.0) (omega arith) w (f.refused_won e)))
      (λ t k q x. inl (early_lost j B a.0 t q x)) q (subst (In q) (within_first j n B a.0 a.1) i)

  pub won_settled : (j : ℕ) (B : List G.Position) → can G j B ≡ true → AreSettled (won G j B)
  won_settled zero B c = absurd (both_ways false refl c)
  won_settled (suc j) B c = won_case j B c AreSettled (λ e. won_settled j B e) (λ e. settled_within j (length B) (won_settled j) B (omega arith) e c)

  -- what each pair of a list has in R: the pairs of its blocks where it is lost, and those of rule three at the least number
  pub record IsBacked (R : List (Pair G)) (C : List G.Position) (i : ℕ) : Type 0 where
    pub as_lost : can G i C ≡ false → HasBlocks G L R C i
    pub as_won : (k : ℕ) (m : G.Move) → i ≡ suc k → can G k C ≡ false → first_try G (suc k) C ≡ Some m → HasWon G R C k m

  abbrev pub BacksAll : List (Pair G) → List (Pair G) → Type 0
  BacksAll small R = (q : Pair G) → In q small → IsBacked R q.0 q.1

  pub lost_is_backed : (small R : List (Pair G)) → AreLost G L small → Backs G L small R → BacksAll small R
  lost_is_backed small R a b q i = record {
    as_lost = λ e. b q.0 q.1 i;
    as_won = λ k m e d f. absurd (both_ways _ (subst (λ x. can G x q.0 ≡ false) e (a q i)) (first_is k q.0 m f).winning);
  }

  backed_within : (j n : ℕ) → ((B : List G.Position) (R : List (Pair G)) → can G j B ≡ true → Inside G L (won G j B) R → BacksAll (won G j B) R) → (B : List G.Position) (R : List (Pair G)) → length B ≤ n → can G j B ≡ false → can G (suc j) B ≡ true → Inside G L (won_within G j (won G j) n B) R → BacksAll (won_within G j (won G j) n B) R
  backed_within j zero ih B R h d c inside q i = absurd i
  backed_within j (suc n) ih B R h d c inside q i =
      let a = first_there j B c in
      let m = a.0 in
      let f = first_is j B m a.1 in
      let s = f.shorter in
      let here = won_within G j (won G j) n in
      let into : Inside G L (won_by G j (won G j) here B (Some m)) R = (λ x y. inside x (subst (In x) (sym (within_first j n B m a.1)) y)) in
      won_place j here B m (λ q. IsBacked R q.0 q.1) (itself m a.1 f into)
      (lost_is_backed (lost G j B) R (lost_lost G L j B d) (lost_backs G L j B R (λ x y. into x (in_below j here B m x y))))
      (λ key k. ih (class G B m key) R (f.class_won key k) (λ x y. into x (in_class j here B m key k x y)))
      (refused_case j here (refused G B m) (λ small. Inside G L small R → BacksAll small R) (λ y z x k. absurd k) (λ e w z. ih (refused G B m) R w z) (λ e w z. backed_within j n ih (refused G B m) R (omega arith) w (f.refused_won e) z) (λ x y. into x (in_refused j here B m x y)))
      (λ t k. early_backed m t (λ x y. into x (in_early j here B m t k x y)))
      q (subst (In q) (within_first j n B m a.1) i)
    where
      early_backed : (m t : G.Move) → Inside G L (early j (λ R. []) B m t) R → BacksAll (early j (λ R. []) B m t) R
      early_backed m t z = lost_is_backed (early j (λ R. []) B m t) R (early_lost j B m t) (λ C x k. by_block (block G (suc j) B t) z C x k)
        where
          by_block : (b : Block G.Key) → Inside G L (behind G (lost G j) (lost G (suc j)) B t b) R → Backs G L (behind G (lost G j) (lost G (suc j)) B t b) R
          by_block Lives z C x k = absurd k
          by_block Stale z C x k = absurd k
          by_block (LostClass key) z C x k = lost_backs G L j (class G B t key) R z C x k
          by_block LostRefused z C x k = lost_backs G L (suc j) (refused G B t) R z C x k
          by_block NoBlock z C x k = absurd k

      has : (m : G.Move) → IsFirstTry j B m → Inside G L (won_by G j (won G j) (won_within G j (won G j) n) B (Some m)) R → HasWon G R B j m
      has m f into =
          let s = f.shorter in
          let here = won_within G j (won G j) n in
          record {
            below = λ p. into (B, j) (in_below j here B m (B, j) (lost_root G L j B f.some p));
            classes = λ key k. into _ (in_class j here B m key k _ (won_root j (class G B m key) (f.class_won key k)));
            refused_part = λ e. into _ (in_refused j here B m _ (refused_root e (f.refused_won e) (λ w. won_root_within j n (refused G B m) (omega arith) (f.refused_won e))));
            earlier = λ t l b.
                let i = in_filter (λ t. G.move_lt t m) (tries G B) t (legal_try G L B t l) b in
                some_inside G L (block_pair G (suc j) B t) (early j here B m t) R (λ x y. into x (in_early j here B m t i x y))
                (behind_root G L j B t (lost G j) (lost G (suc j)) (block G (suc j) B t) (block_says G L j B t) (λ key e p. lost_root G L j (class G B t key) e p) (λ e. lost_root G L (suc j) (refused G B t) e (omega arith)));
          }
        where
          refused_root : is_nil (refused G B m) ≡ false → can G (suc j) (refused G B m) ≡ true → (can G j (refused G B m) ≡ false → In (refused G B m, suc j) (won_within G j (won G j) n (refused G B m))) → In (refused G B m, least G (suc j) (refused G B m)) (refused_won G j (won G j) (won_within G j (won G j) n) (refused G B m))
          refused_root e c new = refused_case j (won_within G j (won G j) n) (refused G B m) (λ R. is_nil (refused G B m) ≡ false → In (refused G B m, least G (suc j) (refused G B m)) R) (λ x y. absurd (both_ways _ y x))
              (λ x w y. subst (λ i. In (refused G B m, i) (won G j (refused G B m))) (sym (least_before G j (refused G B m) w)) (won_root j (refused G B m) w))
              (λ x w y. subst (λ i. In (refused G B m, i) (won_within G j (won G j) n (refused G B m))) (sym (least_here G j (refused G B m) w)) (new w)) e

      itself : (m : G.Move) → first_try G (suc j) B ≡ Some m → IsFirstTry j B m → Inside G L (won_by G j (won G j) (won_within G j (won G j) n) B (Some m)) R → IsBacked R B (suc j)
      itself m e f into = record {
        as_lost = λ x. absurd (both_ways _ x c);
        as_won = λ k m' x y z. same k m' x z;
      }
        where
          same : (k : ℕ) (m' : G.Move) → suc j ≡ suc k → first_try G (suc k) B ≡ Some m' → HasWon G R B k m'
          same k m' x z =
              let p : j ≡ k = omega arith in
              let r : Some m ≡ Some m' = sym e ∙ subst (λ i. first_try G (suc i) B ≡ Some m') (sym p) z in
              let u : m ≡ m' = cc in
              subst (λ i. HasWon G R B i m') p (subst (λ w. HasWon G R B j w) u (has m f into))

  pub won_backed : (j : ℕ) (B : List G.Position) (R : List (Pair G)) → can G j B ≡ true → Inside G L (won G j B) R → BacksAll (won G j B) R
  won_backed zero B R c = absurd (both_ways false refl c)
  won_backed (suc j) B R c = won_case j B c (λ small. Inside G L small R → BacksAll small R) (λ e. won_backed j B R e) (λ e. backed_within j (length B) (won_backed j) B R (omega arith) e c)

  -- a list that keeps the rules and has a set at its least number has all that backs it
  inside_within : (j n : ℕ) (R : List (Pair G)) → KeepsLost G R → KeepsWon G R → ((B : List G.Position) → can G j B ≡ true → In (B, least G j B) R → Inside G L (won G j B) R) → (B : List G.Position) → length B ≤ n → can G j B ≡ false → can G (suc j) B ≡ true → In (B, suc j) R → Inside G L (won_within G j (won G j) n B) R
  inside_within j zero R kl kw ih B h d c i q x = absurd x
  inside_within j (suc n) R kl kw ih B h d c i q x =
      let a = first_there j B c in
      let m = a.0 in
      let f = first_is j B m a.1 in
      let s = f.shorter in
      let w = kw B j m i d a.1 in
      won_place j (won_within G j (won G j) n) B m (λ q. In q R) i
      (below w)
      (λ key k. ih (class G B m key) (f.class_won key k) (w.classes key k))
      (refused_case j (won_within G j (won G j) n) (refused G B m) (λ small. Inside G L small R) (λ z q k. absurd k)
      (λ e v. ih (refused G B m) v (subst (λ y. In (refused G B m, y) R) (least_before G j (refused G B m) v) (w.refused_part e)))
      (λ e v. inside_within j n R kl kw ih (refused G B m) (omega arith) v (f.refused_won e) (subst (λ y. In (refused G B m, y) R) (least_here G j (refused G B m) v) (w.refused_part e))))
      (λ t k. (let b = filter_in (λ t. G.move_lt t m) (tries G B) t k in behind_inside G L j B t (lost G j) (lost G (suc j)) R (block G (suc j) B t) (block_says G L j B t) (w.earlier t (try_legal G L B t b.0) b.1) (lost_inside G L j R kl) (λ e y. lost_inside G L (suc j) R kl (refused G B t) e y)))
      q (subst (In q) (within_first j n B m a.1) x)
    where
      below : {m : G.Move} → HasWon G R B j m → Inside G L (lost G j B) R
      below w = at_number j d (λ p. w.below p)
        where
          at_number : (k : ℕ) → can G k B ≡ false → (0 < k → In (B, k) R) → Inside G L (lost G k B) R
          at_number zero e p q y = absurd y
          at_number (suc k) e p q y = lost_inside G L (suc k) R kl B e (p (omega arith)) q y

  pub won_inside : (j : ℕ) (R : List (Pair G)) → KeepsLost G R → KeepsWon G R → (B : List G.Position) → can G j B ≡ true → In (B, least G j B) R → Inside G L (won G j B) R
  won_inside zero R kl kw B c i = absurd (both_ways false refl c)
  won_inside (suc j) R kl kw B c i = won_case j B c (λ small. Inside G L small R)
      (λ e. won_inside j R kl kw B e (subst (λ y. In (B, y) R) (least_before G j B e) i))
      (λ e. inside_within j (length B) R kl kw (won_inside j R kl kw) B (omega arith) e c (subst (λ y. In (B, y) R) (least_here G j B e) i))
