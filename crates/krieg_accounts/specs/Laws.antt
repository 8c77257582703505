-- The laws, each a statement that a function of this crate has as its contract.
use Rattle.std.specs.Prelude.{◌≡◌, ℕ, suc, ◌+◌, ◌<◌, ◌≤◌, Bool, true, false, List, [], ◌++◌, Option, Some, None, is_some, IfSome, if◌then◌else◌}
use Rattle.std.specs.List.{list_any}
use Rattle.krieg_theory.specs.Sets.{In, is_nil}
use Rattle.krieg_theory.specs.Tree.{Try, Maybe, Nothing, Just}
use Rattle.krieg_theory.specs.Game.{Game}
use Rattle.krieg_theory.specs.Split.{refused, keys, class}
use Rattle.krieg_theory.specs.Can.{can, first_try, least}
use Rattle.krieg_theory.specs.Computed.{edges_of, canon}
use Rattle.krieg_theory.specs.Plans.{Outset, is_over, can_plan}
use Rattle.krieg_costs.specs.Cost.{made, price, first_made}
use Rattle.krieg_costs.specs.Reach.{fresh}
use Rattle.krieg_costs.specs.Backing.{floor_price, floor}
use Rattle.krieg_costs.specs.BackingRules.{KeepsLost, KeepsWon}
use Rattle.krieg_accounts.specs.Stored.{pairs, AddsResult}
use Rattle.krieg_accounts.specs.Sound.{Table, known, IsBacked, IsSound}
use Rattle.krieg_accounts.specs.Charges.{charged}
use Rattle.krieg_accounts.specs.Stretch.{IsStretch, FallsShort, CoversPair, CoversTries, CoversSets}
use Rattle.krieg_accounts.specs.Answers.{LostBelow, AnswersSets, opening_sets, AnswersPlan}

module _ (G : Game) where
  -- what wins a set wins each part of it that has a member: so a set is lost where a part of it is
  abbrev pub PartCan : Type 0
  PartCan = (A B : List G.Position) (j : ℕ) → is_nil A ≡ false → ((p : G.Position) → In p A → In p B) → can G j B ≡ true → can G j A ≡ true

  -- a stored result says whether the set can be won within the number
  abbrev pub ResultIsCan : Type 0
  ResultIsCan = (cut : Bool) (T : Table G) (B : List G.Position) (j : ℕ) (o : Option G.Move) → IsSound G cut T → known G T (B, j) ≡ Some o → can G j B ≡ is_some o

  -- a set that is stored as won is so with its least number
  abbrev pub WonIsLeast : Type 0
  WonIsLeast = (cut : Bool) (T : Table G) (B : List G.Position) (j : ℕ) (m : G.Move) → IsSound G cut T → known G T (B, j) ≡ Some (Some m) → least G j B ≡ j

  -- the pairs for which something is stored keep the rules of backing
  abbrev pub StoredIsBacking : Type 0
  StoredIsBacking = (T : Table G) → IsSound G false T → KeepsLost G (pairs T) × KeepsWon G (pairs T)

  -- the canonical node of the refused part, where it is not empty
  abbrev pub refused_canon : ℕ → List G.Position → Maybe G.Move G.Key
  refused_canon j R = if is_nil R then Nothing else canon G j R

  -- of a set that is stored as won, the stored try begins the canonical node, and the nodes of its parts go on
  abbrev pub StoredIsCanon : Type 0
  StoredIsCanon = (cut : Bool) (T : Table G) (B : List G.Position) (j k : ℕ) (m : G.Move) → IsSound G cut T → known G T (B, suc k) ≡ Some (Some m) → suc k ≤ j →
      canon G j B ≡ Just (Try m (refused_canon (suc k) (refused G B m)) (edges_of G (keys G B m) (λ key. canon G k (class G B m key))))

  -- a stretch over some sets and one over others behind it are a stretch over all of them
  abbrev pub StretchesJoin : Type 0
  StretchesJoin = (cut : Bool) (Cs Ds : List (List G.Position)) (j a b : ℕ) (T0 T1 T2 : Table G) (u0 u1 u2 : ℕ) →
      IsStretch G cut (CoversSets G Cs j) a T0 T1 u0 u1 → IsStretch G cut (CoversSets G Ds j) b T1 T2 u1 u2 → IsStretch G cut (CoversSets G (Cs ++ Ds) j) (a + b) T0 T2 u0 u2

  -- A pair is expanded: a stretch over all parts costs the tries up to the first that wins, whose own split was paid. Once
  -- the result is noted it is a stretch over the pair, and costs nothing apart from what is stored.
  abbrev pub NotedIsStretch : Type 0
  NotedIsStretch = (cut : Bool) (T0 T1 T2 : Table G) (B : List G.Position) (j : ℕ) (o : Option G.Move) (u0 u1 : ℕ) → IsStretch G cut (CoversTries G B j) (floor_price G (B, j)) T0 T1 u0 u1 →
      IfSome o (λ m. u1 + made G B m ≤ u0) → o ≡ first_try G j B → IsBacked G cut T1 B j o → known G T0 (B, j) ≡ None → AddsResult G.position_lt T1 T2 (B, j) o → IsStretch G cut (CoversPair G B j) 0 T0 T2 u0 u1

  -- where tries may be cut, a set that is known to be lost is noted for nothing: that is a stretch over the pair
  abbrev pub LostIsStretch : Type 0
  LostIsStretch = (T0 T1 : Table G) (B : List G.Position) (j u : ℕ) → IsSound G true T0 → can G j B ≡ false → 0 < j → LostBelow G T0 B j → known G T0 (B, j) ≡ None →
      AddsResult G.position_lt T0 T1 (B, j) None → IsStretch G true (CoversPair G B j) 0 T0 T1 u u

  -- units that fall short of all tries of a pair that is not stored fall short of the pair
  abbrev pub ShortOfPair : Type 0
  ShortOfPair = (T : Table G) (B : List G.Position) (j u : ℕ) → known G T (B, j) ≡ None → FallsShort G (CoversTries G B j) (price G B) T u → FallsShort G (CoversPair G B j) 0 T u

module _ (G : Game) (O : Outset G) where
  -- where the opening sets are answered, so is the question for a plan
  abbrev pub SetsAnswerPlan : Type 0
  SetsAnswerPlan = (n : ℕ) (S : List G.Position) (T : Table G) → list_any (is_over G O) S ≡ false → AnswersSets G T (opening_sets G O S) n (can_plan G O n S) → AnswersPlan G O T n S

  -- a sound table that has the answer was charged at least the floor
  abbrev pub FloorIsCharged : Type 0
  FloorIsCharged = (n : ℕ) (S : List G.Position) (T : Table G) → IsSound G false T → AnswersPlan G O T n S → floor G O n S ≤ first_made G O S + charged G T

  -- a search from the empty table to one that has the answer takes at least the floor
  abbrev pub FloorIsTaken : Type 0
  FloorIsTaken = (n : ℕ) (S : List G.Position) (T : Table G) (had has : ℕ) → IsStretch G false (CoversSets G (opening_sets G O S) n) 0 [] T had has → AnswersPlan G O T n S → has + floor G O n S ≤ had + first_made G O S

  -- a search from the empty table takes at most what is fresh
  abbrev pub FreshIsEnough : Type 0
  FreshIsEnough = (cut : Bool) (n : ℕ) (S : List G.Position) (T : Table G) (had has : ℕ) → IsStretch G cut (CoversSets G (opening_sets G O S) n) 0 [] T had has → had + first_made G O S ≤ has + fresh G O n S

  -- and falls short only where fewer units are there
  abbrev pub ShortIsBelowFresh : Type 0
  ShortIsBelowFresh = (n : ℕ) (S : List G.Position) (had : ℕ) → FallsShort G (CoversSets G (opening_sets G O S) n) 0 [] had → had + first_made G O S < fresh G O n S
