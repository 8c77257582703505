-- The claims that no plan mates can be written: each cites claims before it alone, and all words are those of a game.
use Rattle.std.proofs.Common.{◌≡◌, ℕ, zero, suc, ◌+◌, ◌<◌, ◌≤◌, true, false, not, ◌&&◌, List, [], ◌∷◌, ◌++◌, length, map, Option, Some, None, refl, sym, ap, subst, inl, inr, arith, length-append}
use Rattle.std.specs.Prelude.{◌==◌, ◌⊎◌, nat_lt}
use Rattle.std.specs.List.{All, list_all, list_any}
use Rattle.std.proofs.lemmas.Bool.{both_ways, and_parts, not-true}
use Rattle.std.proofs.lemmas.List.Elements.{All-nil, All-cons}
use Rattle.krieg_outcome.proofs.Common.{Pos, move_lt, IsValid, Move, Dialect, position_lt, In, Ascending, same, is_nil, refused, legal_in_some, class, Reason, ByLife, ByStalemate, ByClass, ByRefused, cited, is_shown, holds, are_reasons, claim_holds, claims_hold, Key, chess, why_from, reason_from, claim_from, CitesBelow, IsToldWhy, IsToldReason, IsToldClaim, AreToldClaims}
use Rattle.krieg_theory.proofs.Lists.{all_at, any_at, append_in}
use Rattle.krieg_costs.specs.Refutation.{Claim}
use Rattle.krieg_refutation.specs.declared.refutation.Reason.{Reason as Told}
use Rattle.krieg_outcome.proofs.BestFiles.{all_of, some_length}
use Rattle.krieg_outcome.proofs.ClaimedSets.{IsWritten}
use Rattle.krieg_outcome.proofs.ToldPlans.{AreValid, some_member, told_of_class, tried_on_board}

-- what is cited has a place in the list
cited_within : {X : Type 0} (cs : List X) (i : ℕ) (c : X) → cited cs i ≡ Some c → (1 ≤ i) × (i ≤ length cs) × In c cs
cited_within cs zero c e = absurd cc
cited_within [] (suc i) c e = absurd cc
cited_within (x ∷ cs) (suc zero) c e = let same : x ≡ c = cc in (omega arith, omega arith, inl same)
cited_within (x ∷ cs) (suc (suc i)) c e = let r = cited_within cs (suc i) c e in (omega arith, omega (arith, r.1), inr r.2)

moves_from : (rs : List (Move × Reason Key)) → map (λ (r : Told). r.mv) (map reason_from rs) ≡ map (λ (r : Move × Reason Key). r.0) rs
moves_from [] = refl
moves_from (r ∷ rs) = ap (λ (ms : List Move). r.0 ∷ ms) (moves_from rs)

module _ (d : Dialect) where
  -- the set of each claim has a member
  abbrev HaveMembers : List (Claim (chess d)) → Type 0
  HaveMembers cs = (c : Claim (chess d)) → In c cs → is_nil c.set ≡ false

  module _ (before : List (Claim (chess d))) (some : HaveMembers before) (own : ℕ) (place : own ≡ length before + 1) where
    -- the cited claim stands before this one, and its set has a member that is one of the set
    record IsCited (i : ℕ) (B : List Pos) : Type 0 where
      first : 1 ≤ i
      below : i < own
      member : Pos
      inside : In member B

    is_cited : (i j : ℕ) (B : List Pos) → is_shown (chess d) (cited before i) j B ≡ true → IsCited i B
    is_cited i j B h = go (cited before i) refl h
      where
        go : (o : Option (Claim (chess d))) → cited before i ≡ o → is_shown (chess d) o j B ≡ true → IsCited i B
        go None e s = absurd (both_ways false refl s)
        go (Some c) e s =
            let at = cited_within before i c e in
            let (q, here) = some_member c.set (some c at.2) in
            let (y, inside, is) = any_at (same position_lt q) B (all_at (λ x. list_any (same position_lt x) B) c.set (and_parts (not (nat_lt c.number j)) _ s).1 q here) in
            record { first = at.0; below = omega (arith, at.1, place); member = y; inside = inside }

    told_why : (j : ℕ) (B : List Pos) (t : Move) (r : Reason Key) → AreValid B → holds (chess d) before j B t r ≡ true → IsToldWhy d (why_from r) × CitesBelow own (why_from r)
    told_why j B t ByLife valid h = (tt, tt)
    told_why j B t ByStalemate valid h = (tt, tt)
    told_why j B t (ByClass key i) valid h =
        let c = is_cited i j (class (chess d) B t key) (and_parts (not (j == 0)) _ h).1 in
        (told_of_class d B t key c.member valid c.inside, (c.first, c.below))
    told_why j B t (ByRefused i) valid h = let c = is_cited i (suc j) (refused (chess d) B t) h in (tt, (c.first, c.below))

    told_reasons : (j : ℕ) (B : List Pos) (rs : List (Move × Reason Key)) → AreValid B → list_all (λ r. legal_in_some (chess d) B r.0 && holds (chess d) before j B r.0 r.1) rs ≡ true →
        All (IsToldReason d own) (map reason_from rs)
    told_reasons j B [] valid h = All-nil (IsToldReason d own)
    told_reasons j B (r ∷ rs) valid h =
        let both = and_parts (legal_in_some (chess d) B r.0 && holds (chess d) before j B r.0 r.1) _ h in
        let here = and_parts (legal_in_some (chess d) B r.0) (holds (chess d) before j B r.0 r.1) both.0 in
        let why = told_why j B r.0 r.1 valid here.1 in
        All-cons (IsToldReason d own) (reason_from r) (map reason_from rs) (record { on_board = tried_on_board d B r.0 here.0; told = why.0; cites = why.1 }) (told_reasons j B rs valid both.1)

    told_claim : (c : Claim (chess d)) → IsWritten d c → claim_holds (chess d) before c ≡ true → IsToldClaim d own (claim_from d c)
    told_claim c w h = go c.number refl both.1
      where
        both : (not (is_nil c.set) ≡ true) × (are_reasons (chess d) before c.number c.set c.reasons ≡ true)
        both = and_parts (not (is_nil c.set)) (are_reasons (chess d) before c.number c.set c.reasons) h

        go : (n : ℕ) → c.number ≡ n → are_reasons (chess d) before n c.set c.reasons ≡ true → IsToldClaim d own (claim_from d c)
        go zero e r = absurd (both_ways false refl r)
        go (suc j) e r = record {
          least_moves = omega (arith, e);
          most_moves = w.most;
          some = some_length c.set (not-true (is_nil c.set) both.0);
          valid = all_of IsValid c.set w.valid;
          ascending = w.ascending;
          reasons = told_reasons j c.set c.reasons w.valid (and_parts _ (list_all (λ r. legal_in_some (chess d) c.set r.0 && holds (chess d) before j c.set r.0 r.1) c.reasons) r).1;
          in_order = subst (Ascending move_lt) (sym (moves_from c.reasons)) w.in_order;
        }

  -- claims that hold behind others can be written, the first of them with the number behind these
  pub told_claims : (before cs : List (Claim (chess d))) (own : ℕ) → own ≡ length before + 1 → HaveMembers before → ((c : Claim (chess d)) → In c cs → IsWritten d c) →
      claims_hold (chess d) before cs ≡ true → AreToldClaims d own (map (claim_from d) cs)
  told_claims before [] own place some written h = tt
  told_claims before (c ∷ cs) own place some written h =
      let both = and_parts (claim_holds (chess d) before c) _ h in (
        told_claim before some own place c (written c (inl refl)) both.0,
        told_claims (before ++ c ∷ []) cs (own + 1) (omega (arith, place, length-append before (c ∷ []))) more (λ x i. written x (inr i)) both.1,
      )
    where
      here : is_nil c.set ≡ false
      here = not-true (is_nil c.set) (and_parts (not (is_nil c.set)) _ (and_parts (claim_holds (chess d) before c) _ h).0).0

      by : (x : Claim (chess d)) → In x before ⊎ In x (c ∷ []) → is_nil x.set ≡ false
      by x (inl i) = some x i
      by x (inr (inl e)) = subst (λ (y : Claim (chess d)). is_nil y.set ≡ false) e here
      by x (inr (inr i)) = absurd i

      more : HaveMembers (before ++ c ∷ [])
      more x i = by x (append_in before (c ∷ []) x i)
