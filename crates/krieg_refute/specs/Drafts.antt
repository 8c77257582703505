-- Claims whose sets stand in a table, and where these sets are while they are moved out of it.
use Rattle.std.specs.Prelude.{◌≡◌, ◌<◌, List, length, map, Option, Some}
use Rattle.std.specs.List.{All, slice_get}
use Rattle.std.specs.Option.{option_map}
use Rattle.krieg_board.specs.Pos.{Pos}
use Rattle.krieg_table.specs.SetRows.{SetRows, sets, set_at}
use Rattle.krieg_refute.specs.declared.claims.Draft.{Draft}
use Rattle.krieg_refute.specs.declared.claims.SetPlace.{SetPlace}
use Rattle.krieg_refute.specs.declared.claims.SetPlace.TheVariants.{Here, In}
use Rattle.krieg_refutation.specs.declared.refutation.Claim.{Claim}

-- the claim of the set with that number
abbrev pub claim_over : SetRows → Draft → Claim
claim_over T w = record { moves = w.moves; set = set_at T w.set; reasons = w.reasons }

-- all claims in order
abbrev pub claims_over : SetRows → List Draft → List Claim
claims_over T ws = map (claim_over T) ws

-- each set is in the table
abbrev pub AreWithin : SetRows → List Draft → Type 0
AreWithin T ws = All (λ w. w.set < length T) ws

-- the set of a slot: its own, or that of the claim at its place
abbrev pub set_in : List Claim → SetPlace → Option (List Pos)
set_in cs (Here B) = Some B
set_in cs (In place) = option_map (λ (c : Claim). c.set) (slice_get cs place)

-- the sets of the slots are those of the table
abbrev pub HaveSets : List Claim → List SetPlace → SetRows → Type 0
HaveSets cs slots T = map (set_in cs) slots ≡ map Some (sets T)
