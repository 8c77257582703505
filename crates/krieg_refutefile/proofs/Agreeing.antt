-- What is said of the state of a refutation is what krieg_refutation says of the refutation.
use Rattle.std.proofs.Common.{◌≡◌, ℕ, true, ◌+◌, List, [], ◌∷◌, map, length, refl, ap}
use Rattle.std.specs.Prelude.{◌&&◌}
use Rattle.std.specs.List.{list_all}
use Rattle.std.proofs.lemmas.Bool.{and_parts}
use Rattle.std.proofs.lemmas.List.{length-map}
use Rattle.krieg_refutefile.proofs.Common.{is_same_side, Move, Dialect, price, total, ByLife, ByStalemate, ByClass, ByRefused, Key, chess, outset, why_of, reason_of, claim_of, claims_of, is_own_turn, refutes, claims_price, Why, Lives, Stale, Class, Refused, Reason, Claim, Refutation, ClaimState, RefutationState, NoneMates, claim_state_of, state_of, claims_in, is_refutation, refutation_price, why_from, reason_from, claim_from, file_of, positions_in, reasons_in}
use Rattle.krieg_costs.proofs.Refuted.{refutation_excludes}
use Rattle.krieg_costs.specs.Refutation as theory
use Rattle.krieg_claims.specs.Sizes as sizes
use Rattle.krieg_game.proofs.ChessLaws.{chess_is_game, outset_is_lawful}

-- ---- a refutation and its state

pub claims_same : (d : Dialect) (cs : List Claim) → claims_in d (map claim_state_of cs) ≡ claims_of d cs
claims_same d [] = refl
claims_same d (c ∷ cs) = ap (λ (t : List (theory.Claim (chess d))). claim_of d c ∷ t) (claims_same d cs)

-- the state says that it refutes exactly where the refutation does
pub refutes_same : (f : Refutation) → is_refutation (state_of f) ≡ refutes f
refutes_same f =
    ap (λ (cs : List (theory.Claim (chess f.dialect))). is_own_turn f && theory.refutes (chess f.dialect) (outset f.dialect f.side) f.moves f.list.items cs) (claims_same f.dialect f.claims.items)

total_same : (d : Dialect) (cs : List Claim) → total (λ (c : ClaimState). price (chess d) c.set) (map claim_state_of cs) ≡ claims_price d cs
total_same d [] = refl
total_same d (c ∷ cs) = ap (λ (n : ℕ). price (chess d) c.set + n) (total_same d cs)

pub price_same : (f : Refutation) → refutation_price (state_of f) ≡ claims_price f.dialect f.claims.items
price_same f = total_same f.dialect f.claims.items

-- what refutes excludes every plan
pub excludes : (s : RefutationState) → is_refutation s ≡ true → NoneMates s
excludes s refuted plan =
    let d = s.dialect in
    let who = s.side in
    let parts = and_parts (list_all (λ p. is_same_side p.side who) s.list) (theory.refutes (chess d) (outset d who) s.moves s.list (claims_in d s.claims)) refuted in
    refutation_excludes (chess d) (chess_is_game d) (outset d who) (outset_is_lawful d who) s.moves s.list (claims_in d s.claims) parts.1 plan

-- ---- claims of the theory and their file

why_back : (y : Why) → why_from (why_of y) ≡ y
why_back Lives = refl
why_back Stale = refl
why_back (Class heard place) = refl
why_back (Refused place) = refl

reasons_back : (rs : List Reason) → map reason_from (map reason_of rs) ≡ rs
reasons_back [] = refl
reasons_back (r ∷ rs) = λ i. record { mv = r.mv; why = why_back r.why i } ∷ reasons_back rs i

pub states_from : (d : Dialect) (cs : List Claim) → map (claim_from d) (claims_of d cs) ≡ map claim_state_of cs
states_from d [] = refl
states_from d (c ∷ cs) = λ i. record { moves = c.moves; set = c.set; reasons = reasons_back c.reasons.items i } ∷ states_from d cs i

-- the file of a refutation's claims is its state
pub file_is : (f : Refutation) → file_of f.dialect f.side f.moves f.list.items (claims_of f.dialect f.claims.items) ≡ state_of f
file_is f = ap (λ (cs : List ClaimState). record { dialect = f.dialect; side = f.side; moves = f.moves; list = f.list.items; claims = cs }) (states_from f.dialect f.claims.items)

why_again : (y : theory.Reason Key) → why_of (why_from y) ≡ y
why_again ByLife = refl
why_again ByStalemate = refl
why_again (ByClass key place) = refl
why_again (ByRefused place) = refl

reasons_again : (rs : List (Move × theory.Reason Key)) → map reason_of (map reason_from rs) ≡ rs
reasons_again [] = refl
reasons_again (r ∷ rs) = λ i. (r.0, why_again r.1 i) ∷ reasons_again rs i

-- claims of the theory stand in their file
pub claims_again : (d : Dialect) (cs : List (theory.Claim (chess d))) → claims_in d (map (claim_from d) cs) ≡ cs
claims_again d [] = refl
claims_again d (c ∷ cs) = λ i. record { number = c.number; set = c.set; reasons = reasons_again c.reasons i } ∷ claims_again d cs i

-- their sizes
pub positions_same : (d : Dialect) (cs : List (theory.Claim (chess d))) → positions_in (map (claim_from d) cs) ≡ sizes.positions_in (chess d) cs
positions_same d [] = refl
positions_same d (c ∷ cs) = ap (λ (n : ℕ). length c.set + n) (positions_same d cs)

pub reasons_same : (d : Dialect) (cs : List (theory.Claim (chess d))) → reasons_in (map (claim_from d) cs) ≡ sizes.reasons_in (chess d) cs
reasons_same d [] = refl
reasons_same d (c ∷ cs) = λ i. length-map c.reasons reason_from i + reasons_same d cs i
