-- The refutations that can be written are those that fit the description.
use Rattle.std.proofs.Common.{◌≡◌, ℕ, zero, suc, ◌+◌, ◌<◌, ◌≤◌, Bool, true, false, leb, List, [], ◌∷◌, map, length, Option, Some, None, refl, sym, ap, subst, arith}
use Rattle.std.specs.Prelude.{◌&&◌, unwrap_or}
use Rattle.std.specs.List.{All}
use Rattle.std.proofs.lemmas.Bool.{and_parts, and_from, le-leb, leb-true, lt-ltb, ltb-true}
use Rattle.std.proofs.lemmas.List.{map-id}
use Rattle.std.proofs.lemmas.List.Elements.{All-nil, All-cons, All-head, All-tail}
use Rattle.krieg_refutefile.proofs.Common.{same_hand, move_lt, Pos, IsValid, Side, Move, TextKind, Differs, OutOfPlace, Large, Own, has_turn, Dialect, IsAscending, position_lt, Ascending, follows, AreAlike, MOST_CLAIMS, MOST_CLAIMED, Why, Lives, Stale, Class, Refused, Reason, EachFits, Fits, ClaimState, RefutationState, set_format, reasons_format, claim_format, claims_format, list_format, refutation_format, none_yet, SpellsRefutation, where_not, listed, ascending, Totals, with_claim, cites_below, argued, CitesBelow, IsToldReason, IsToldClaim, AreToldClaims, positions_in, reasons_in, IsTurnOf, CanBeWritten}
use Rattle.krieg_pack.proofs.PositionSets.{position_order}
use Rattle.krieg_game.proofs.MoveOrder.{move_order}
use Rattle.krieg_format.proofs.Fitting.{OwesFit, said_fits}
use Rattle.krieg_refutefile.proofs.Chains.{chain_to, chain_from}

-- ---- tests

passes : (k : TextKind) (good : Bool) → good ≡ true → where_not k good ≡ None
passes k good e = ap (where_not k) e

passed : (k : TextKind) (good : Bool) → where_not k good ≡ None → good ≡ true
passed k true e = refl
passed k false e = absurd cc

-- ---- listed positions

rest_fits : (who : Side) (f : Pos) (ps : List Pos) → All IsValid ps → All (λ q. same_hand f q who ≡ true) ps →
    EachFits (length ps) (λ first p. IsValid p × (listed who first p ≡ None)) (λ first p. Some (unwrap_or first p)) (Some f) ps
rest_fits who f [] valid alike = tt
rest_fits who f (p ∷ ps) valid alike = (
  (All-head IsValid p ps valid, passes Differs (same_hand f p who) (All-head (λ q. same_hand f q who ≡ true) p ps alike)),
  rest_fits who f ps (All-tail IsValid p ps valid) (All-tail (λ q. same_hand f q who ≡ true) p ps alike),
)

list_fits : (who : Side) (ps : List Pos) → All IsValid ps → IsTurnOf who ps → AreAlike who ps → Fits (list_format who (length ps)) ps
list_fits who [] valid turn alike = tt
list_fits who (p ∷ ps) valid turn alike = ((All-head IsValid p ps valid, passes OutOfPlace (has_turn Own who p) turn), rest_fits who p ps (All-tail IsValid p ps valid) alike)

rest_from : (who : Side) (f : Pos) (n : ℕ) (ps : List Pos) → EachFits n (λ first p. IsValid p × (listed who first p ≡ None)) (λ first p. Some (unwrap_or first p)) (Some f) ps →
    All IsValid ps × All (λ q. same_hand f q who ≡ true) ps
rest_from who f zero [] h = (All-nil IsValid, All-nil (λ q. same_hand f q who ≡ true))
rest_from who f zero (p ∷ ps) h = absurd h
rest_from who f (suc n) [] h = absurd h
rest_from who f (suc n) (p ∷ ps) h =
    let r = rest_from who f n ps h.1 in
    (All-cons IsValid p ps h.0.0 r.0, All-cons (λ q. same_hand f q who ≡ true) p ps (passed Differs (same_hand f p who) h.0.1) r.1)

list_from : (who : Side) (n : ℕ) (ps : List Pos) → Fits (list_format who n) ps → All IsValid ps × IsTurnOf who ps × AreAlike who ps
list_from who zero [] h = (All-nil IsValid, tt, tt)
list_from who zero (p ∷ ps) h = absurd h
list_from who (suc n) [] h = absurd h
list_from who (suc n) (p ∷ ps) h = let r = rest_from who p n ps h.1 in (All-cons IsValid p ps h.0.0 r.0, passed OutOfPlace (has_turn Own who p) h.0.1, r.1)

-- ---- the positions of a claim

abbrev itself : Pos → Pos
itself p = p

abbrev IsPlaced : Option Pos → Pos → Type 0
IsPlaced last p = IsValid p × (ascending last p ≡ None)

set_fits : (ps : List Pos) → All IsValid ps → IsAscending ps → Fits (set_format (length ps)) ps
set_fits ps valid up =
    chain_to itself position_lt IsValid IsPlaced (λ last p v f. (v, passes OutOfPlace (follows position_lt last p) f)) None ps valid (subst (Ascending position_lt) (sym (map-id ps)) up) tt

pub set_from : (n : ℕ) (ps : List Pos) → Fits (set_format n) ps → All IsValid ps × IsAscending ps
set_from n ps h =
    let c = chain_from itself position_lt IsValid IsPlaced position_order (λ last p q. (q.0, passed OutOfPlace (follows position_lt last p) q.1)) n None ps h in
    (c.all, subst (Ascending position_lt) (map-id ps) c.up)

-- ---- the reasons of a claim

cites_to : (own : ℕ) (y : Why) → CitesBelow own y → cites_below own y ≡ true
cites_to own Lives c = refl
cites_to own Stale c = refl
cites_to own (Class heard i) c = lt-ltb i own c.1
cites_to own (Refused i) c = lt-ltb i own c.1

pub cites_any : (own : ℕ) (y : Why) → own ≤ MOST_CLAIMS + 1 → CitesBelow own y → CitesBelow (MOST_CLAIMS + 1) y
cites_any own Lives few c = tt
cites_any own Stale few c = tt
cites_any own (Class heard i) few c = let low : i < own = c.1 in (c.0, omega arith)
cites_any own (Refused i) few c = let low : i < own = c.1 in (c.0, omega arith)

cites_from : (own : ℕ) (y : Why) → CitesBelow (MOST_CLAIMS + 1) y → cites_below own y ≡ true → CitesBelow own y
cites_from own Lives c below = tt
cites_from own Stale c below = tt
cites_from own (Class heard i) c below = (c.0, ltb-true i own below)
cites_from own (Refused i) c below = (c.0, ltb-true i own below)

abbrev key : Reason → Move
key r = r.mv

abbrev IsArgued : Dialect → ℕ → Option Move → Reason → Type 0
IsArgued d own last r = IsToldReason d (MOST_CLAIMS + 1) r × (argued own last r ≡ None)

reasons_fit : (d : Dialect) (own : ℕ) (rs : List Reason) → own ≤ MOST_CLAIMS + 1 → All (IsToldReason d own) rs → Ascending move_lt (map key rs) → Fits (reasons_format d own (length rs)) rs
reasons_fit d own rs few all up =
    chain_to key move_lt (IsToldReason d own) (IsArgued d own)
    (λ last r t f. (
      record { on_board = t.on_board; told = t.told; cites = cites_any own r.why few t.cites },
      passes OutOfPlace (cites_below own r.why && follows move_lt last r.mv) (and_from (cites_below own r.why) (follows move_lt last r.mv) (cites_to own r.why t.cites) f),
    )) None rs all up tt

reasons_from : (d : Dialect) (own n : ℕ) (rs : List Reason) → Fits (reasons_format d own n) rs → All (IsToldReason d own) rs × Ascending move_lt (map key rs)
reasons_from d own n rs h =
    let c = chain_from key move_lt (IsToldReason d own) (IsArgued d own) move_order
    (λ last r q.
    let p = and_parts (cites_below own r.why) (follows move_lt last r.mv) (passed OutOfPlace (cites_below own r.why && follows move_lt last r.mv) q.1) in
    (record { on_board = q.0.on_board; told = q.0.told; cites = cites_from own r.why q.0.cites p.0 }, p.1)) n None rs h in
    (c.all, c.up)

-- ---- claims

fits_in_all : (before n : ℕ) → before + n ≤ MOST_CLAIMED → where_not Large (leb (before + n) MOST_CLAIMED) ≡ None
fits_in_all before n few = passes Large (leb (before + n) MOST_CLAIMED) (le-leb (before + n) MOST_CLAIMED few)

all_in : (before n : ℕ) → where_not Large (leb (before + n) MOST_CLAIMED) ≡ None → before + n ≤ MOST_CLAIMED
all_in before n e = leb-true (before + n) MOST_CLAIMED (passed Large (leb (before + n) MOST_CLAIMED) e)

claim_fits : (d : Dialect) (s : Totals) (c : ClaimState) → IsToldClaim d (s.claims + 1) c → s.claims + 1 ≤ MOST_CLAIMS + 1 → s.positions + length c.set ≤ MOST_CLAIMED → s.reasons + length c.reasons ≤ MOST_CLAIMED →
    Fits (claim_format d s) c
claim_fits d s c t few positions reasons = (
  ((t.least_moves, t.most_moves, t.some, omega (arith, positions)), fits_in_all s.positions (length c.set) positions),
  (
    set_fits c.set t.valid t.ascending,
    (((omega arith, omega (arith, reasons)), fits_in_all s.reasons (length c.reasons) reasons), reasons_fit d (s.claims + 1) c.reasons few t.reasons t.in_order),
  ),
)

claims_fit : (d : Dialect) (s : Totals) (cs : List ClaimState) → AreToldClaims d (s.claims + 1) cs → s.claims + length cs ≤ MOST_CLAIMS → s.positions + positions_in cs ≤ MOST_CLAIMED → s.reasons + reasons_in cs ≤ MOST_CLAIMED →
    Fits (claims_format d (length cs) s) cs
claims_fit d s [] told few positions reasons = tt
claims_fit d s (c ∷ cs) told few positions reasons = (
  claim_fits d s c told.0 (omega (arith, few)) (omega (arith, positions)) (omega (arith, reasons)),
  claims_fit d (with_claim s c) cs told.1 (omega (arith, few)) (omega (arith, positions)) (omega (arith, reasons)),
)

record AreWithin (d : Dialect) (s : Totals) (cs : List ClaimState) : Type 0 where
  told : AreToldClaims d (s.claims + 1) cs
  positions : s.positions + positions_in cs ≤ MOST_CLAIMED
  reasons : s.reasons + reasons_in cs ≤ MOST_CLAIMED

claim_from : (d : Dialect) (s : Totals) (c : ClaimState) → Fits (claim_format d s) c → IsToldClaim d (s.claims + 1) c
claim_from d s c h =
    let sizes = h.0.0 in
    let set = set_from (length c.set) c.set h.1.0 in
    let reasons = reasons_from d (s.claims + 1) (length c.reasons) c.reasons h.1.1.1 in
    record { least_moves = sizes.0; most_moves = sizes.1; some = sizes.2; valid = set.0; ascending = set.1; reasons = reasons.0; in_order = reasons.1 }

pub sizes_from : (d : Dialect) (s : Totals) (c : ClaimState) → Fits (claim_format d s) c → (s.positions + length c.set ≤ MOST_CLAIMED) × (s.reasons + length c.reasons ≤ MOST_CLAIMED)
sizes_from d s c h = (all_in s.positions (length c.set) h.0.1, all_in s.reasons (length c.reasons) h.1.1.0.1)

claims_from : (d : Dialect) (n : ℕ) (s : Totals) (cs : List ClaimState) → s.positions ≤ MOST_CLAIMED → s.reasons ≤ MOST_CLAIMED → Fits (claims_format d n s) cs → AreWithin d s cs
claims_from d zero s [] positions reasons h = record { told = tt; positions = omega (arith, positions); reasons = omega (arith, reasons) }
claims_from d zero s (c ∷ cs) positions reasons h = absurd h
claims_from d (suc n) s [] positions reasons h = absurd h
claims_from d (suc n) s (c ∷ cs) positions reasons h =
    let here = h.0 in
    let sizes = sizes_from d s c here in
    let rest = claims_from d n (with_claim s c) cs sizes.0 sizes.1 h.1 in
    record { told = (claim_from d s c here, rest.told); positions = omega (arith, rest.positions); reasons = omega (arith, rest.reasons) }

-- ---- the file

pub fits_from : (s : RefutationState) → CanBeWritten s → Fits refutation_format s
fits_from s w = (
  (omega arith, omega arith),
  (
    tt,
    (
      tt,
      (
        (w.least_moves, w.most_moves),
        (
          (w.some_listed, w.few_listed),
          (
            list_fits s.side s.list w.valid w.turn w.alike,
            ((w.some_claims, w.few_claims), (claims_fit s.dialect none_yet s.claims w.told (omega (arith, w.few_claims)) (omega (arith, w.few_positions)) (omega (arith, w.few_reasons)), tt)),
          ),
        ),
      ),
    ),
  ),
)

can_be_written : (s : RefutationState) → Fits refutation_format s → CanBeWritten s
can_be_written s h =
    let moves = h.1.1.1.0 in
    let listed = h.1.1.1.1 in
    let list = list_from s.side (length s.list) s.list listed.1.0 in
    let claimed = listed.1.1 in
    let claims = claims_from s.dialect (length s.claims) none_yet s.claims (omega arith) (omega arith) claimed.1.0 in
    record {
      least_moves = moves.0;
      most_moves = moves.1;
      some_listed = listed.0.0;
      few_listed = listed.0.1;
      valid = list.0;
      turn = list.1;
      alike = list.2;
      some_claims = claimed.0.0;
      few_claims = claimed.0.1;
      few_positions = omega (arith, claims.positions);
      few_reasons = omega (arith, claims.reasons);
      told = claims.told;
    }

-- ---- what is spelled can be written

-- lines say what may be written
pub claim_says : (d : Dialect) (s : Totals) → OwesFit (claim_format d s)
claim_says d s = (
  λ h ls e. (e.says.0.1, e.says.1),
  λ h. (λ last l p e. (e.0.is_valid, e.1), λ set. (λ n ls e. ((e.says.0.0, e.says.0.1), e.says.1), λ n last l r e. (e.0.1, e.1))),
)

says : OwesFit refutation_format
says = (
  λ l n e. (e.0, e.1),
  λ v. (
    λ d ls e. tt,
    λ d. (
      λ l who e. tt,
      λ who. (
        λ l n e. (e.0, e.1),
        λ n. (
          λ k ls e. (e.says.0, e.says.1),
          λ k. (λ first l p e. (e.0.is_valid, e.1), λ list. (λ c ls e. (e.says.0, e.says.1), λ c. (λ s. claim_says d s, λ claims l u e. tt))),
        ),
      ),
    ),
  ),
)

pub spelled_can : (s : RefutationState) (ls : List (List ℕ)) → SpellsRefutation s ls → CanBeWritten s
unfolding SpellsRefutation
spelled_can s ls e = can_be_written s (said_fits refutation_format says s ls e)
