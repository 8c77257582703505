-- A claim by the tries of its set and by its reasons, and claims one after another.
use Rattle.std.proofs.Common.{◌≡◌, ℕ, zero, suc, ◌+◌, ◌-◌, ◌<◌, Bool, true, false, not, ◌&&◌, leb, nat_lt, ◌⊎◌, List, [], ◌∷◌, ◌++◌, length, take, drop, get_or, map, Some, IsTrue, refl, sym, ap, subst, inl, inr, ◌∙◌, arith}
use Rattle.std.specs.List.{list_all, list_any}
use Rattle.std.proofs.lemmas.List.{map-append, take_more, drop_more}
use Rattle.std.proofs.lemmas.Bool.{and_parts, and_from, cases_Bool, cond-true, cond-false, not-true, not_from_false, leb-true, le-leb, ltb-false, le-ltb}
use Rattle.krieg_refutation.proofs.Common.{Pos, Move, Dialect, is_nil, same, legal_in_some, tries, last_of, holds, are_reasons, claim_holds, claims_hold, Key, chess, move_lt, holds_if_own, try_holds}
use Rattle.krieg_theory.specs.Sets.{In}
use Rattle.krieg_theory.proofs.Lists.{all_at, all_from, any_at, any_from}
use Rattle.krieg_theory.proofs.Ascending.{same_eq, same_refl}
use Rattle.krieg_costs.specs.Refutation.{Reason, Claim}
use Rattle.krieg_costs.proofs.Costs.{try_legal, legal_try}
use Rattle.krieg_game.proofs.ChessLaws.{chess_is_game}
use Rattle.krieg_game.proofs.MoveOrder.{move_order}

pub both : (a b : Bool) → (a ≡ true → b ≡ true) → (b ≡ true → a ≡ true) → a ≡ b
both true b f g = sym (f refl)
both false true f g = g refl
both false false f g = refl

and_true : (b : Bool) → (b && true) ≡ b
and_true true = refl
and_true false = refl

pub at_least : (a b : ℕ) → leb a b ≡ not (nat_lt b a)
at_least a b = both (leb a b) (not (nat_lt b a)) (λ h. not_from_false _ (le-ltb b a (leb-true a b h))) (λ h. le-leb a b (ltb-false b a (not-true _ h)))

-- a test that tells the empty set
pub nil_by : {X : Type 0} (b : Bool) (xs : List X) → (IsTrue b → xs ≡ []) → (xs ≡ [] → IsTrue b) → b ≡ is_nil xs
nil_by b [] f g = g refl
nil_by true (x ∷ xs) f g = absurd (let e = f refl in cc)
nil_by false (x ∷ xs) f g = refl

and_false : (b : Bool) → (b && false) ≡ false
and_false true = refl
and_false false = refl

and_same : (a b c : Bool) → ((a && b) && c) ≡ (a && (b && c))
and_same true b c = refl
and_same false b c = refl

module _ (d : Dialect) (before : List (Claim (chess d))) where
  module _ (j : ℕ) (B : List Pos) (rs : List (Move × Reason Key)) where
    abbrev found : Bool
    found = list_all (λ t. try_holds d before j B t rs) (tries (chess d) B) && list_all (λ r. list_any (same move_lt r.0) (tries (chess d) B)) rs

    own : (t : Move) (r : Move × Reason Key) → r.0 ≡ t → holds_if_own d before j B t r ≡ holds (chess d) before j B t r.1
    own t r e = cond-true (same move_lt r.0 t) (holds (chess d) before j B t r.1) true (subst (λ x. same move_lt r.0 x ≡ true) e (same_refl move_lt move_order r.0))

    there : found ≡ true → are_reasons (chess d) before (suc j) B rs ≡ true
    there h =
        let a = and_parts (list_all (λ t. try_holds d before j B t rs) (tries (chess d) B)) _ h in
        and_from _ _
        (all_from _ (tries (chess d) B) (λ t i. (and_parts (list_any (λ (r : Move × Reason Key). same move_lt r.0 t) rs) _ (all_at (λ t. try_holds d before j B t rs) (tries (chess d) B) a.0 t i)).0))
        (all_from _ rs (λ r i. each r i (any_at (same move_lt r.0) (tries (chess d) B) (all_at (λ (r : Move × Reason Key). list_any (same move_lt r.0) (tries (chess d) B)) rs a.1 r i)) (all_at (λ t. try_holds d before j B t rs) (tries (chess d) B) a.0)))
      where
        each : (r : Move × Reason Key) → In r rs → ((t : Move) × In t (tries (chess d) B) × (same move_lt r.0 t ≡ true)) → ((t : Move) → In t (tries (chess d) B) → try_holds d before j B t rs ≡ true) → (legal_in_some (chess d) B r.0 && holds (chess d) before j B r.0 r.1) ≡ true
        each r i m tried =
            let k = subst (λ x. In x (tries (chess d) B)) (sym (same_eq move_lt move_order r.0 m.0 m.2)) m.1 in
            let w = and_parts (list_any (λ (r' : Move × Reason Key). same move_lt r'.0 r.0) rs) _ (tried r.0 k) in
            and_from _ _ (try_legal (chess d) (chess_is_game d) B r.0 k) (sym (own r.0 r refl) ∙ all_at (holds_if_own d before j B r.0) rs w.1 r i)

    back : are_reasons (chess d) before (suc j) B rs ≡ true → found ≡ true
    back h =
        let a = and_parts (list_all (λ t. list_any (λ (r : Move × Reason Key). same move_lt r.0 t) rs) (tries (chess d) B)) _ h in
        let b = all_at (λ (r : Move × Reason Key). legal_in_some (chess d) B r.0 && holds (chess d) before j B r.0 r.1) rs a.1 in
        and_from _ _
        (all_from _ (tries (chess d) B) (λ t i. and_from _ _ (all_at (λ t. list_any (λ (r : Move × Reason Key). same move_lt r.0 t) rs) (tries (chess d) B) a.0 t i) (all_from _ rs (λ r k. each t r (and_parts (legal_in_some (chess d) B r.0) _ (b r k)).1))))
        (all_from _ rs (λ r i. any_from (same move_lt r.0) (tries (chess d) B) r.0 (legal_try (chess d) (chess_is_game d) B r.0 (and_parts (legal_in_some (chess d) B r.0) _ (b r i)).0) (same_refl move_lt move_order r.0)))
      where
        each : (t : Move) (r : Move × Reason Key) → holds (chess d) before j B r.0 r.1 ≡ true → holds_if_own d before j B t r ≡ true
        each t r e = go (cases_Bool (same move_lt r.0 t))
          where
            go : (same move_lt r.0 t ≡ true) ⊎ (same move_lt r.0 t ≡ false) → holds_if_own d before j B t r ≡ true
            go (inl s) = let q = same_eq move_lt move_order r.0 t s in own t r q ∙ subst (λ x. holds (chess d) before j B x r.1 ≡ true) q e
            go (inr s) = cond-false (same move_lt r.0 t) (holds (chess d) before j B t r.1) true s

    pub reasons_found : found ≡ are_reasons (chess d) before (suc j) B rs
    reasons_found = both found (are_reasons (chess d) before (suc j) B rs) there back

  -- a claim, by what is found of it
  pub claim_found : (c : Claim (chess d)) (some held only : Bool) → some ≡ not (is_nil c.set)
      → held ≡ list_all (λ t. try_holds d before (c.number - 1) c.set t c.reasons) (tries (chess d) c.set) → only ≡ list_all (λ (r : Move × Reason Key). list_any (same move_lt r.0) (tries (chess d) c.set)) c.reasons
      → ((nat_lt 0 c.number && some) && (held && only)) ≡ claim_holds (chess d) before c
  claim_found c some held only s h o = go c.number h
    where
      go : (n : ℕ) → held ≡ list_all (λ t. try_holds d before (n - 1) c.set t c.reasons) (tries (chess d) c.set) → ((nat_lt 0 n && some) && (held && only)) ≡ (not (is_nil c.set) && are_reasons (chess d) before n c.set c.reasons)
      go zero k = sym (and_false (not (is_nil c.set)))
      go (suc j) k =
          let e : suc j - 1 ≡ j = omega arith in
          let k' = subst (λ (i : ℕ). held ≡ list_all (λ t. try_holds d before i c.set t c.reasons) (tries (chess d) c.set)) e k in
          (λ i. (nat_lt 0 (suc j) && s i) && (k' i && o i)) ∙ ap (λ (b : Bool). (nat_lt 0 (suc j) && not (is_nil c.set)) && b) (reasons_found j c.set c.reasons) ∙ ap (λ (b : Bool). (b && not (is_nil c.set)) && are_reasons (chess d) before (suc j) c.set c.reasons) (Rattle.std.proofs.lemmas.Bool.lt-ltb 0 (suc j) (omega arith))

-- one claim more
pub claims_more : {X : Type 0} (d : Dialect) (f : X → Claim (chess d)) (xs : List X) (i : ℕ) (x : X) (all held new whole : Bool) → i < length xs → x ≡ get_or xs i x
    → (all && claims_hold (chess d) (map f (take i xs)) (map f (drop i xs))) ≡ whole → held ≡ claim_holds (chess d) (map f (take i xs)) (f x) → new ≡ (all && held)
    → (new && claims_hold (chess d) (map f (take (i + 1) xs)) (map f (drop (i + 1) xs))) ≡ whole
claims_more {X} d f xs i x all held new whole l e h k n =
    let t : take (i + 1) xs ≡ take i xs ++ x ∷ [] = take_more xs i x l ∙ ap (λ y. take i xs ++ y ∷ []) (sym e) in
    let q : drop i xs ≡ x ∷ drop (i + 1) xs = drop_more xs i x l ∙ ap (λ y. y ∷ drop (i + 1) xs) (sym e) in
    ap (λ (cs : List (Claim (chess d))). new && claims_hold (chess d) cs (map f (drop (i + 1) xs))) (ap (map f) t ∙ map-append f (take i xs) (x ∷ []))
    ∙ ap (λ (b : Bool). b && claims_hold (chess d) (map f (take i xs) ++ f x ∷ []) (map f (drop (i + 1) xs))) (n ∙ ap (λ (b : Bool). all && b) k)
    ∙ and_same all (claim_holds (chess d) (map f (take i xs)) (f x)) (claims_hold (chess d) (map f (take i xs) ++ f x ∷ []) (map f (drop (i + 1) xs)))
    ∙ ap (λ (ys : List X). all && claims_hold (chess d) (map f (take i xs)) (map f ys)) (sym q)
    ∙ h

-- the last of some claims
pub last_at : {X Y : Type 0} (f : X → Y) (xs : List X) (x : X) → 0 < length xs → x ≡ get_or xs (length xs - 1) x → last_of (map f xs) ≡ Some (f x)
last_at f [] x h e = absurd (omega arith)
last_at f (y ∷ []) x h e = ap (λ z. Some (f z)) (sym e)
last_at f (y ∷ z ∷ xs) x h e =
    let q : length (y ∷ z ∷ xs) - 1 ≡ suc (length (z ∷ xs) - 1) = omega arith in
    last_at f (z ∷ xs) x (omega arith) (subst (λ (k : ℕ). x ≡ get_or (y ∷ z ∷ xs) k x) q e)
