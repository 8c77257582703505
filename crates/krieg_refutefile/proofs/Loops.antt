-- The loops over the positions and the reasons of a claim, over listed positions and over claims.
use Rattle.std.proofs.Common.{◌≡◌, ℕ, ◌+◌, ◌-◌, ◌<◌, ◌≤◌, List, [], ◌∷◌, ◌++◌, length, Option, Some, Result, Ok, refl, ap, ◌∙◌, arith, length-append}
use Rattle.std.specs.Prelude.{slice_get}
use Rattle.std.specs.Option.{option_map}
use Rattle.krieg_refutefile.proofs.Common.{Pos, TextFault, ◌>>=◌, Place, Dialect, set_of, Reason, MOST_CLAIMED, repeated, set_format, claim_format, member_at, set_at, reason_at, claim_at, last_in, last_move, Totals, ClaimState}
use Rattle.krieg_text.proofs.Writings.{map_last}
use Rattle.krieg_pack.proofs.PositionSets.{set_of_ascending}
use Rattle.krieg_format.proofs.Fitting.{said_fits}
use Rattle.krieg_format.proofs.Reading.{law}
use Rattle.krieg_format.proofs.Repeats.{with_front, item_ok, item_gives, items_end}
use Rattle.krieg_refutefile.proofs.RefutationLaws.{set_owes, claim_owes}
use Rattle.krieg_refutefile.proofs.Writables.{set_from, sizes_from, claim_says}

get_last : {A : Type 0} (list : List A) (x : A) → slice_get (list ++ x ∷ []) (length list) ≡ Some x
get_last [] x = refl
get_last (y ∷ list) x = get_last list x

last_is : {A : Type 0} (list : List A) (x : A) → last_in (list ++ x ∷ []) ≡ Some x
last_is list x = let n : length (list ++ x ∷ []) - 1 ≡ length list = omega (arith, length-append list (x ∷ [])) in ap (slice_get (list ++ x ∷ [])) n ∙ get_last list x

pub set_ok : (list : List Pos) (n i : ℕ) (from new : Place) (x : Pos) (all : Result (List Pos × Place) TextFault) → i < n → member_at (last_in list) from ≡ Ok (x, new) →
    with_front list (repeated (n - i) member_at (λ last x. Some x) (last_in list) from) ≡ all →
    with_front (list ++ x ∷ []) (repeated (n - (i + 1)) member_at (λ last x. Some x) (last_in (list ++ x ∷ [])) new) ≡ all
set_ok list n i from new x all lt read so =
    ap (λ s. with_front (list ++ x ∷ []) (repeated (n - (i + 1)) member_at (λ last x. Some x) s new)) (last_is list x) ∙ item_ok member_at (λ last x. Some x) list n i (last_in list) from new x all lt read so

pub ruleset sets = (set_ok, item_gives, items_end)

pub reason_ok : (d : Dialect) (own : ℕ) (list : List Reason) (n i : ℕ) (from new : Place) (r : Reason) (all : Result (List Reason × Place) TextFault) → i < n → reason_at d own (last_move list) from ≡ Ok (r, new) →
    with_front list (repeated (n - i) (reason_at d own) (λ last r. Some r.mv) (last_move list) from) ≡ all →
    with_front (list ++ r ∷ []) (repeated (n - (i + 1)) (reason_at d own) (λ last r. Some r.mv) (last_move (list ++ r ∷ [])) new) ≡ all
reason_ok d own list n i from new r all lt read so =
    ap (λ (s : Option Reason). with_front (list ++ r ∷ []) (repeated (n - (i + 1)) (reason_at d own) (λ last r. Some r.mv) (option_map (λ (r : Reason). r.mv) s) new)) (last_is list r)
    ∙ item_ok (reason_at d own) (λ last r. Some r.mv) list n i (last_move list) from new r all lt read so

pub ruleset reasons = (reason_ok, item_gives, items_end)

pub ruleset listing = (item_ok, item_gives, items_end)

-- ---- what was read

ok_again : {A : Type 0} (r : Result (A × Place) TextFault) (x : A) (q : Place) → r ≡ Ok (x, q) → ◌>>=◌ {B = A × Place} r (λ y. Ok (y.0, y.1)) ≡ Ok (x, q)
ok_again r x q e = ap (λ (t : Result (_ × Place) TextFault). ◌>>=◌ {B = _ × Place} t (λ y. Ok (y.0, y.1))) e

-- positions that are read for a claim are a set
pub set_is : (n : ℕ) (p q : Place) (ps : List Pos) → set_at n p ≡ Ok (ps, q) → set_of ps ≡ ps
set_is n p q ps e =
    let said = (law (set_format n) (set_owes n)).format.found p.number p.left ps q (ok_again (set_at n p) ps q e) in
    set_of_ascending ps (set_from n ps (said_fits (set_format n) (λ last l p s. (s.0.is_valid, s.1)) ps said.used said.says)).1

-- the totals of a claim that is read stay within the most
pub claim_bounds : (d : Dialect) (s : Totals) (p q : Place) (c : ClaimState) → claim_at d s p ≡ Ok (c, q) → (s.positions + length c.set ≤ MOST_CLAIMED) × (s.reasons + length c.reasons ≤ MOST_CLAIMED)
claim_bounds d s p q c e =
    let said = (law (claim_format d s) (claim_owes d s)).format.found p.number p.left c q e in
    sizes_from d s c (said_fits (claim_format d s) (claim_says d s) c said.used said.says)

pub claim_positions : (d : Dialect) (s : Totals) (p q : Place) (c : ClaimState) → claim_at d s p ≡ Ok (c, q) → s.positions + length c.set ≤ MOST_CLAIMED
claim_positions d s p q c e = (claim_bounds d s p q c e).0

pub claim_reasons : (d : Dialect) (s : Totals) (p q : Place) (c : ClaimState) → claim_at d s p ≡ Ok (c, q) → s.reasons + length c.reasons ≤ MOST_CLAIMED
claim_reasons d s p q c e = (claim_bounds d s p q c e).1

pub ruleset claims = (claim_positions, claim_reasons, map_last, item_ok, item_gives, items_end)
