-- Claims that are written where there are none yet.
use Rattle.std.proofs.Common.{◌≡◌, ℕ, List, [], Ok, Err, sym, ap, subst, ◌∙◌, arith, length, ◌<◌}
use Rattle.std.proofs.lemmas.List.Elements.{All-nil, All-same}
use Rattle.krieg_refute.proofs.Common.{Pos, Dialect, claimed, add_all, positions_in, reasons_in, AreFew, AreMany, Stands, chess, SetRows, SearchStop, Spent, Large, NoMemory, ClaimList, Draft, claims_over, claims_of, most_claims, most_claimed, pairs_in, IsClaimList, Claims, AreClaims}
use Rattle.krieg_theory.specs.Sets.{In}
use Rattle.krieg_claims.specs.Written as written
use Rattle.krieg_refutation.specs.declared.refutation.Claim.{Claim}

module _ (d : Dialect) (T : SetRows) (w : ClaimList) (ws : w.claims.items ≡ []) (ks : w.places.keys ≡ []) where
  nothing : pairs_in T w.places.keys ≡ []
  nothing = ap (pairs_in T) ks

  pub none_claimed : w.positions ≡ 0 → w.reasons ≡ 0 → IsClaimList d T w
  none_claimed p r = record {
    numbered = λ a i. absurd (subst (In a) ks i);
    stands = subst (Stands (chess d) []) (sym nothing) tt;
    within = All-same (λ (x : Draft). x.set < length T) w.claims.items [] ws (All-nil (λ (x : Draft). x.set < length T));
    are = ap (claims_of d) none ∙ ap (written.claims_of (chess d)) (sym nothing);
    positions_part = p ∙ ap (λ (xs : List Claim). positions_in (chess d) (claims_of d xs)) (sym none);
    reasons_part = r ∙ ap (λ (xs : List Claim). reasons_in (chess d) (claims_of d xs)) (sym none);
    few = subst (λ (xs : List Claim). AreFew (chess d) most_claims most_claimed (claims_of d xs)) (sym none) (record { claims = omega arith; positions = omega arith; reasons = omega arith });
  }
    where
      none : claims_over T w.claims.items ≡ []
      none = ap (claims_over T) ws

  module _ (T' : SetRows) (w' : ClaimList) (B : List Pos) (j : ℕ) where
    pub all_claims : (place : ℕ) → Claims d (Ok place) B j T T' w w' → (claims_of d (claims_over T' w'.claims.items) ≡ written.claims (chess d) j B) × AreFew (chess d) most_claims most_claimed (claims_of d (claims_over T' w'.claims.items))
    all_claims place v = (
      v.1.are ∙ ap (written.claims_of (chess d)) (v.2.all ∙ ap (λ (qs : List (List Pos × ℕ)). add_all (chess d) qs (claimed (chess d) j B)) nothing),
      v.1.few,
    )

    pub claims_stop : (stop : SearchStop) → Claims d (Err stop) B j T T' w w' → AreClaims d B j (Err stop)
    claims_stop Spent v = v
    claims_stop Large v = subst (λ (qs : List (List Pos × ℕ)). AreMany (chess d) most_claims most_claimed (written.claims_of (chess d) (add_all (chess d) qs (claimed (chess d) j B)))) nothing v
    claims_stop NoMemory v = tt
