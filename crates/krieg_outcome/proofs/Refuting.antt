-- What a search for claims finds, as the answer to a sheet.
use Rattle.std.proofs.Common.{◌≡◌, ℕ, ◌<◌, ◌≤◌, Bool, true, false, not, List, [], ◌∷◌, Vec, Global, length, map, Ok, Err, refl, sym, ap, subst, inl, ◌∙◌, arith}
use Rattle.std.specs.Prelude.{◌||◌}
use Rattle.std.proofs.lemmas.List.{length-map}
use Rattle.std.proofs.lemmas.Bool.{both_ways, and_parts, and_from, false_from_ne_true}
use Rattle.krieg_outcome.proofs.Common.{is_same_side, Pos, IsValid, Side, MOST_MOVES, lines, whole, SheetState, is_my_turn, has_no_turn, Dialect, is_nil, can_plan, chess, outset, HaveOneHand, IsOwnTurn, side_of, IsOneSide, IsDenial, IsMated, IsDenied, IsTaken, SearchStop, Denial, Exists, most_claims, most_claimed, RefutationState, state_from, is_refutation, claim_from, IsTurnOf, refutation_at, refutation_text, text_bound, AreFew, denial, IsBetween, PlanExists, of_search, Decides, CanBeListed, denial_file, IsDenialText, Claimed}
use Rattle.krieg_board.proofs.MenLemmas.{same_side_eq}
use Rattle.krieg_sheet.specs.Turns.{is_over}
use Rattle.krieg_theory.proofs.Lists.{all_from}
use Rattle.krieg_theory.proofs.Planned.{mates_shows}
use Rattle.krieg_game.proofs.ChessLaws.{chess_is_game, outset_is_lawful}
use Rattle.krieg_costs.specs.Refutation as theory
use Rattle.krieg_refutation.specs.declared.refutation.Claim.{Claim}
use Rattle.krieg_search.specs.declared.stop.SearchStop.TheVariants as stop
use Rattle.krieg_refutefile.specs.Writable.{CanBeWritten}
use Rattle.krieg_refutefile.proofs.Agreeing.{states_from, claims_again, positions_same, reasons_same}
use Rattle.krieg_outcome.specs.Solve.{NoneMates}
use Rattle.krieg_outcome.proofs.BestFiles.{each_of, some_length, alike, one_turn_of}
use Rattle.krieg_outcome.proofs.ClaimedSets.{denial_written}
use Rattle.krieg_outcome.proofs.ToldClaims.{told_claims}
use Rattle.krieg_outcome.proofs.Asking.{IsLater}

-- ---- whose turn it is

pub one_side_of : (who : Side) (S : List Pos) → HaveOneHand who S → IsOneSide S
one_side_of who S hand w = one_turn_of who w S hand

pub side_is : (who : Side) (S : List Pos) → is_nil S ≡ false → IsOwnTurn who S → side_of S ≡ who
side_is who [] some own = absurd (both_ways true some refl)
side_is who (p ∷ S) some own = same_side_eq p.side who (own p (inl refl))

-- a player who has a turn is to move
pub is_to_move : (s : SheetState) → has_no_turn s ≡ false → is_my_turn s ≡ true
is_to_move s h = go (is_over s) (is_my_turn s) h
  where
    go : (over mine : Bool) → (over || not mine) ≡ false → mine ≡ true
    go true mine h = absurd (both_ways true h refl)
    go false true h = refl
    go false false h = absurd (both_ways true h refl)

-- ---- the file

turn_of : (who : Side) (S : List Pos) → IsOwnTurn who S → IsTurnOf who S
turn_of who [] own = tt
turn_of who (p ∷ S) own = own p (inl refl)

module _ (d : Dialect) (who : Side) (S : List Pos) (n : ℕ) (cs : List Claim) (found : IsDenial d who S n cs) where
  abbrev claims : List (theory.Claim (chess d))
  claims = denial (chess d) (outset d who) n S

  abbrev found_file : RefutationState
  found_file = state_from d who n S cs

  -- a file of the claims that were found is the file of the sheet
  pub file_is : found_file ≡ denial_file d who S n
  file_is = λ i. record { dialect = d; side = who; moves = n; list = S; claims = (sym (states_from d cs) ∙ ap (λ (xs : List (theory.Claim (chess d))). map (claim_from d) xs) found.claims_part) i }

  holds : theory.refutes (chess d) (outset d who) n S claims ≡ true
  holds = subst (λ (xs : List (theory.Claim (chess d))). theory.refutes (chess d) (outset d who) n S xs ≡ true) found.claims_part found.refute

  few : AreFew (chess d) most_claims most_claimed claims
  few = subst (AreFew (chess d) most_claims most_claimed) found.claims_part found.few

  -- it is a refutation
  pub file_refutes : IsOwnTurn who S → is_refutation (denial_file d who S n) ≡ true
  file_refutes own =
      and_from _ _ (all_from (λ p. is_same_side p.side who) S own)
      (subst (λ (xs : List (theory.Claim (chess d))). theory.refutes (chess d) (outset d who) n S xs ≡ true) (sym (claims_again d claims)) holds)

  -- its text is the answer
  pub text_told : (answer : List ℕ) → IsOwnTurn who S → answer ≡ refutation_text found_file → whole refutation_at (lines (refutation_text found_file)) ≡ Ok found_file → length (refutation_text found_file) < text_bound →
      IsDenialText d who S n answer
  text_told answer own is again fits =
      let text : answer ≡ refutation_text (denial_file d who S n) = is ∙ ap refutation_text file_is in
      record {
        text = text;
        again = ap (λ (t : List ℕ). whole refutation_at (lines t)) text ∙ subst (λ (f : RefutationState). whole refutation_at (lines (refutation_text f)) ≡ Ok f) file_is again;
        short = omega (arith, fits, ap (λ (t : List ℕ). length t) is);
        refutes = file_refutes own;
        none_mates = found.no_plan;
      }

  -- and it can be written
  pub can_be_written : CanBeListed who S → 1 ≤ n → n ≤ MOST_MOVES → CanBeWritten (denial_file d who S n)
  can_be_written listed least most =
      let claimed = and_parts (theory.claims_hold (chess d) [] claims) (theory.denies (chess d) (outset d who) n S (theory.last_of claims)) holds in
      let last = some_claim claims claimed.1 in
      let size = length-map claims (claim_from d) in
      let positions = positions_same d claims in
      let reasons = reasons_same d claims in
      record {
        least_moves = least;
        most_moves = most;
        some_listed = some_length S listed.some;
        few_listed = listed.few;
        valid = listed.valid;
        turn = turn_of who S listed.turn;
        alike = alike who S listed.hand;
        some_claims = omega (arith, last, size);
        few_claims = omega (arith, few.claims, size);
        few_positions = omega (arith, few.positions, positions);
        few_reasons = omega (arith, few.reasons, reasons);
        told = told_claims d [] claims 1 (omega arith) (λ c i. absurd i) (denial_written d who S n (each_of IsValid S listed.valid) listed.turn most) claimed.0;
      }
    where
      some_claim : (xs : List (theory.Claim (chess d))) → theory.denies (chess d) (outset d who) n S (theory.last_of xs) ≡ true → 1 ≤ length xs
      some_claim [] h = absurd (both_ways false refl h)
      some_claim (x ∷ xs) h = omega arith

-- ---- the answer

pub later : IsLater Claimed
later = record { many = λ d who S n budget line h. h; none = λ d who S n budget h. h; turn = λ d who S n budget h. h }

none_mates : (d : Dialect) (who : Side) (S : List Pos) (n : ℕ) → can_plan (chess d) (outset d who) n S ≡ false → NoneMates d who S n
none_mates d who S n cannot plan =
    false_from_ne_true _ (λ m. both_ways _ cannot (mates_shows (chess d) (chess_is_game d) (outset d who) (outset_is_lawful d who) plan S n m))

module _ (d : Dialect) (who : Side) (S : List Pos) (n budget start left : ℕ) (same : start ≡ budget) (side : side_of S ≡ who) where
  -- what a search without an answer tells
  pub stop_told : {X : Type 0} (view : X → List ℕ) (e : SearchStop) → IsDenied d (side_of S) S n (Err e) → IsTaken d (side_of S) S n (Err e) start left → Decides view (Err (of_search e)) (Claimed d who S n budget)
  stop_told {X = X} view e found taken = by e (subst (λ (w : Side). IsDenied d w S n (Err e)) side found) (subst (λ (w : Side). IsTaken d w S n (Err e) start left) side taken)
    where
      by : (e : SearchStop) → IsDenied d who S n (Err e) → IsTaken d who S n (Err e) start left → Decides view (Err (of_search e)) (Claimed d who S n budget)
      by stop.Spent found taken = omega (arith, same, taken.0)
      by stop.Large found taken = (none_mates d who S n found.cannot, found.many)
      by stop.NoMemory found taken = tt

  -- that a plan mates
  pub exists_told : IsDenied d (side_of S) S n (Ok Exists) → IsTaken d (side_of S) S n (Ok Exists) start left → Claimed d who S n budget (Err PlanExists)
  exists_told found taken =
      let mated : IsMated d who S n = subst (λ (w : Side). IsMated d w S n) side found in
      let paid : IsBetween d who S n start left = subst (λ (w : Side). IsBetween d w S n start left) side taken.1 in
      (omega (arith, same, paid.at_least), (mated.plan, mated.mates_all))

  -- the text of the claims
  pub claims_told : (cs : Vec Claim Global) (answer : List ℕ) → IsTaken d (side_of S) S n (Ok (Denial cs)) start left → IsDenialText d who S n answer → Claimed d who S n budget (Ok answer)
  claims_told cs answer taken text =
      let paid : IsBetween d who S n start left = subst (λ (w : Side). IsBetween d w S n start left) side taken.1 in
      (omega (arith, same, paid.at_least), text)
