-- Claims that are written from stored results, over a table in which sets have numbers.
use Rattle.std.specs.Prelude.{◌≡◌, ℕ, Bool, ◌==◌, ◌-◌, ◌<◌, List, [], ◌∷◌, ◌++◌, length, map, flat_map, find, Option, Some, None, Result, Ok, Err, Vec, IfSome, ⊤, if◌then◌else◌}
use Rattle.std.specs.declared.alloc.Global.{Global}
use Rattle.krieg_board.specs.Pos.{Pos}
use Rattle.krieg_board.specs.declared.men.Move.{Move}
use Rattle.krieg_words.specs.declared.dialects.Dialect.{Dialect}
use Rattle.krieg_pack.specs.Order.{position_lt}
use Rattle.krieg_theory.specs.Sets.{In}
use Rattle.krieg_claims.specs.InOrder.{claimed, add_all}
use Rattle.krieg_claims.specs.Written as written
use Rattle.krieg_claims.specs.Losses.{is_loss}
use Rattle.krieg_claims.specs.Sizes.{positions_in, reasons_in, AreFew, AreMany}
use Rattle.krieg_costs.specs.Block.{block_pair}
use Rattle.krieg_costs.specs.Refutation.{Reason, ByLife, ByStalemate}
use Rattle.krieg_claims.specs.Walks.{behind_try, Walks, WalksTries}
use Rattle.krieg_claims.specs.Standing.{IsLostPair, HasBlocks, Stands}
use Rattle.krieg_accounts.specs.Stored.{stored}
use Rattle.krieg_game.specs.Keys.{Key}
use Rattle.krieg_game.specs.Chess.{chess}
use Rattle.krieg_table.specs.SetRows.{SetRows, set_at}
use Rattle.krieg_table.specs.Entries.{entries}
use Rattle.krieg_search.specs.declared.stop.SearchStop.{SearchStop}
use Rattle.krieg_search.specs.declared.stop.SearchStop.TheVariants.{Spent, Large, NoMemory}
use Rattle.krieg_search.specs.declared.openings.Opening.{Opening}
use Rattle.krieg_search.specs.Openings.{AddsSets}
use Rattle.krieg_search.specs.declared.notes.Question.{Question}
use Rattle.krieg_refute.specs.declared.claiming.ClaimList.{ClaimList}
use Rattle.krieg_refutation.specs.declared.refutation.Claim.{Claim}
use Rattle.krieg_refutation.specs.declared.refutation.Reason.{Reason as Reason'}
use Rattle.krieg_refutation.specs.declared.refutation.Why.{Why}
use Rattle.krieg_refute.specs.Drafts.{claims_over, AreWithin}
use Rattle.krieg_refutation.specs.Refutations.{why_of, reason_of, claims_of, most_claims, most_claimed}

-- the set is stored as one that cannot be won within the number
abbrev pub IsLost : SetRows → List Pos → ℕ → Type 0
IsLost T B j = stored position_lt (entries T) (B, j) ≡ Some None

-- the reason of a try that fails at once
abbrev pub at_once_reason : ℕ → Reason Key
at_once_reason moves = if moves == 1 then ByLife else ByStalemate

-- a class is stored as one that cannot be won within the number
abbrev pub is_lost_class : SetRows → ℕ → Key × List Pos → Bool
is_lost_class T j c = is_loss (stored position_lt (entries T) (c.1, j))

-- the first of some classes that is stored as lost has the words and the number, and only sets have come to the table
pub record HasFirstLost (T T' : SetRows) (cs : List (Key × List Pos)) (j : ℕ) (c : Key × ℕ) : Type 0 where
  pub sets : AddsSets T T'
  pub within : c.1 < length T'
  pub first : find (is_lost_class T j) cs ≡ Some (c.0, set_at T' c.1)

-- the same, or none of them is stored as lost
abbrev pub IsFirstLost : SetRows → SetRows → List (Key × List Pos) → ℕ → Option (Key × ℕ) → Type 0
IsFirstLost T T' cs j None = AddsSets T T' × (find (is_lost_class T j) cs ≡ None)
IsFirstLost T T' cs j (Some c) = HasFirstLost T T' cs j c

-- the pairs of a set and a number that have a claim
abbrev pub pairs_in : SetRows → List Question → List (List Pos × ℕ)
pairs_in T keys = map (λ (a : Question). (set_at T a.set, a.moves)) keys

module _ (d : Dialect) where
  -- the claims are those of pairs each of which stands on those before it, their sizes are counted, and they are not too many
  pub record IsClaimList (T : SetRows) (w : ClaimList) : Type 0 where
    pub numbered : (a : Question) → In a w.places.keys → a.set < length T
    pub stands : Stands (chess d) [] (pairs_in T w.places.keys)
    pub within : AreWithin T w.claims.items
    pub are : claims_of d (claims_over T w.claims.items) ≡ written.claims_of (chess d) (pairs_in T w.places.keys)
    pub positions_part : w.positions ≡ positions_in (chess d) (claims_of d (claims_over T w.claims.items))
    pub reasons_part : w.reasons ≡ reasons_in (chess d) (claims_of d (claims_over T w.claims.items))
    pub few : AreFew (chess d) most_claims most_claimed (claims_of d (claims_over T w.claims.items))

  -- the pair may be claimed next, for these reasons: it is lost and new, and what blocks its tries is claimed
  pub record IsNext (T : SetRows) (keys : List Question) (B : List Pos) (j : ℕ) (rs : List (Move × Reason Key)) : Type 0 where
    pub lost : IsLostPair (chess d) (B, j)
    pub fresh : In (B, j) (pairs_in T keys) → ⊥
    pub blocks : HasBlocks (chess d) (pairs_in T keys) B j
    pub reasons : rs ≡ written.reasons_at (chess d) (pairs_in T keys) j B

  -- the pair is claimed last, or the claims are too many with it
  abbrev pub IsPushed : SetRows → List Pos → ℕ → ClaimList → ClaimList → Result ℕ SearchStop → Type 0
  IsPushed T B j w w' (Ok place) = IsClaimList T w' × (pairs_in T w'.places.keys ≡ pairs_in T w.places.keys ++ (B, j) ∷ []) × (place ≡ written.place_of (chess d) (pairs_in T w'.places.keys) (B, j))
  IsPushed T B j w w' (Err Spent) = ⊥
  IsPushed T B j w w' (Err Large) = AreMany (chess d) most_claims most_claimed (written.claims_of (chess d) (pairs_in T w.places.keys ++ (B, j) ∷ []))
  IsPushed T B j w w' (Err NoMemory) = ⊤

  -- these tries of a set are walked and these are their reasons, or the claims are too many
  abbrev pub Reasons : Result (Vec Reason' Global) SearchStop → List Pos → ℕ → List Move → SetRows → SetRows → ClaimList → ClaimList → Type 0
  Reasons (Ok rs) B j ts T T' w w' = AddsSets T T' × IsClaimList T' w' × WalksTries (chess d) (pairs_in T w.places.keys) (pairs_in T' w'.places.keys) B (j - 1) ts
      × (map reason_of rs.items ≡ map {B = Move × Reason Key} (λ t. (t, written.reason_at (chess d) (pairs_in T' w'.places.keys) j B t)) ts)
  Reasons (Err Spent) B j ts T T' w w' = ⊥
  Reasons (Err Large) B j ts T T' w w' = AreMany (chess d) most_claims most_claimed (written.claims_of (chess d) (add_all (chess d) (pairs_in T w.places.keys) (flat_map (behind_try (chess d) (j - 1) B) ts)))
  Reasons (Err NoMemory) B j ts T T' w w' = ⊤

  -- what blocks the try is claimed and the reason cites it, or the claims are too many
  abbrev pub Blocks : Result Why SearchStop → List Pos → ℕ → Move → SetRows → SetRows → ClaimList → ClaimList → Type 0
  Blocks (Ok y) B j t T T' w w' = AddsSets T T' × IsClaimList T' w' × (pairs_in T' w'.places.keys ≡ add_all (chess d) (pairs_in T w.places.keys) (behind_try (chess d) (j - 1) B t))
      × IfSome (block_pair (chess d) j B t) (λ q. In q (pairs_in T' w'.places.keys)) × (why_of y ≡ written.reason_at (chess d) (pairs_in T' w'.places.keys) j B t)
  Blocks (Err Spent) B j t T T' w w' = ⊥
  Blocks (Err Large) B j t T T' w w' = AreMany (chess d) most_claims most_claimed (written.claims_of (chess d) (add_all (chess d) (pairs_in T w.places.keys) (behind_try (chess d) (j - 1) B t)))
  Blocks (Err NoMemory) B j t T T' w w' = ⊤

  -- the set is claimed with the number and has the place, or the claims are too many
  abbrev pub Claims : Result ℕ SearchStop → List Pos → ℕ → SetRows → SetRows → ClaimList → ClaimList → Type 0
  Claims (Ok place) B j T T' w w' = AddsSets T T' × IsClaimList T' w' × Walks (chess d) (pairs_in T w.places.keys) (pairs_in T' w'.places.keys) B j place
  Claims (Err Spent) B j T T' w w' = ⊥
  Claims (Err Large) B j T T' w w' = AreMany (chess d) most_claims most_claimed (written.claims_of (chess d) (add_all (chess d) (pairs_in T w.places.keys) (claimed (chess d) j B)))
  Claims (Err NoMemory) B j T T' w w' = ⊤

-- the set of the opening is stored as one that cannot be won within j
abbrev pub is_lost_opening : SetRows → ℕ → Opening → Bool
is_lost_opening T j o = is_loss (stored position_lt (entries T) (set_at T o.set, j))

-- the claims that a set cannot be won within j, or that they are too many
abbrev pub AreClaims : (d : Dialect) → List Pos → ℕ → Result (Vec Claim Global) SearchStop → Type 0
AreClaims d B j (Ok cs) = (claims_of d cs.items ≡ written.claims (chess d) j B) × AreFew (chess d) most_claims most_claimed (claims_of d cs.items)
AreClaims d B j (Err Spent) = ⊥
AreClaims d B j (Err Large) = AreMany (chess d) most_claims most_claimed (written.claims (chess d) j B)
AreClaims d B j (Err NoMemory) = ⊤
