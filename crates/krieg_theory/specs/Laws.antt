-- The laws, each a statement that a function of this crate has as its contract.
use Rattle.std.specs.Prelude.{◌≡◌, ℕ, suc, ◌≤◌, ◌↔◌, true, false, List}
use Rattle.std.specs.List.{list_any}
use Rattle.krieg_theory.specs.Sets.{In, Ascending, is_nil}
use Rattle.krieg_theory.specs.Tree.{Tree, Try, Maybe, Just, Edges, first_edge}
use Rattle.krieg_theory.specs.Game.{Game}
use Rattle.krieg_theory.specs.Wins.{wins, wins_other, wins_at, WinsAll}
use Rattle.krieg_theory.specs.Split.{legal_in_some, keys, class}
use Rattle.krieg_theory.specs.Can.{can, begins, least}
use Rattle.krieg_theory.specs.Canonical.{IsLeast, IsCanon}
use Rattle.krieg_theory.specs.Computed.{canon}
use Rattle.krieg_theory.specs.Plans.{Outset, Plan, mates, IsWorst, IsCanonPlan, can_plan, canon_plan, canon_worst}

module _ (G : Game) where
  -- one move more does no harm
  abbrev pub MoreMovesWin : Type 0
  MoreMovesWin = (n : Tree G.Move G.Key) (p : G.Position) (k : ℕ) → wins G n p k ≡ true → wins G n p (suc k) ≡ true

  -- what the tree does after a key is what the node at the first edge with it does
  abbrev pub FirstEdgeWins : Type 0
  FirstEdgeWins = (es : Edges G.Move G.Key) (key : G.Key) (p : G.Position) (k : ℕ) → wins_at G es key p k ≡ wins_other G (first_edge G.key_lt es key) p k

  -- two ascending lists with the same members are equal
  abbrev pub SetsAreEqual : Type 0
  SetsAreEqual = (xs ys : List G.Position) → Ascending G.position_lt xs → Ascending G.position_lt ys → ((p : G.Position) → In p xs ↔ In p ys) → xs ≡ ys

  -- q comes about by a member, the try and a reply, after which the key is heard
  pub record ComesBy (B : List G.Position) (t : G.Move) (key : G.Key) (q : G.Position) : Type 0 where
    pub from : G.Position
    pub member : In from B
    pub legal : G.legal from t ≡ true
    pub out : G.Key × G.Position
    pub reply : In out (G.outcomes from t)
    pub key_is : out.0 ≡ key
    pub to : out.1 ≡ q

  -- a class has just the positions that come about so, ascending; and a key occurs where its class is not empty
  abbrev pub ClassesAreSplit : Type 0
  ClassesAreSplit = (B : List G.Position) (t : G.Move) (key : G.Key) → Ascending G.position_lt (class G B t key) × ((q : G.Position) → In q (class G B t key) ↔ ComesBy B t key q) × (In key (keys G B t) ↔ (is_nil (class G B t key) ≡ false))

  -- the recursion over sets, without the bound on the members that makes it end
  abbrev pub CanBegins : Type 0
  CanBegins = (B : List G.Position) (j : ℕ) → can G j B ≡ list_any (begins G j B) G.moves

  -- it holds exactly where some tree wins all of the set
  abbrev pub CanIsWon : Type 0
  CanIsWon = (B : List G.Position) (j : ℕ) → is_nil B ≡ false → (can G j B ≡ true) ↔ ((n : Tree G.Move G.Key) × WinsAll G n B j)

  -- and a try that is legal in some member meets its conditions exactly where it begins such a tree
  abbrev pub BeginsIsWon : Type 0
  BeginsIsWon = (B : List G.Position) (j : ℕ) (t : G.Move) → legal_in_some G B t ≡ true → (begins G j B t ≡ true) ↔ ((other : Maybe G.Move G.Key) × (es : Edges G.Move G.Key) × WinsAll G (Try t other es) B j)

  -- the computed least number is the least over all trees
  abbrev pub LeastIsLeast : Type 0
  LeastIsLeast = (B : List G.Position) (j : ℕ) → can G j B ≡ true → IsLeast G B (least G j B)

  -- a set has at most one canonical node
  abbrev pub CanonIsOne : Type 0
  CanonIsOne = (a b : Tree G.Move G.Key) (B : List G.Position) → IsCanon G a B → IsCanon G b B → a ≡ b

  -- a set that can be won within j has a canonical node: the one that is computed
  abbrev pub CanonIsComputed : Type 0
  CanonIsComputed = (B : List G.Position) (j : ℕ) → can G j B ≡ true → (n : Tree G.Move G.Key) × (canon G j B ≡ Just n) × IsCanon G n B

module _ (G : Game) (O : Outset G) where
  -- one move more does no harm
  abbrev pub MoreMovesMate : Type 0
  MoreMovesMate = (plan : Plan G O) (S : List G.Position) (k : ℕ) → mates G O plan S k ≡ true → mates G O plan S (suc k) ≡ true

  -- a plan that mates within some number has a worst case
  abbrev pub WorstIsThere : Type 0
  WorstIsThere = (plan : Plan G O) (S : List G.Position) (k : ℕ) → mates G O plan S k ≡ true → (w : ℕ) × (w ≤ k) × IsWorst G O plan S w

  -- each opening set can be won exactly where some plan mates
  abbrev pub CanPlanIsMated : Type 0
  CanPlanIsMated = (S : List G.Position) (j : ℕ) → (can_plan G O j S ≡ true) ↔ ((plan : Plan G O) × (mates G O plan S j ≡ true))

  -- a list of positions has at most one canonical plan
  abbrev pub CanonPlanIsOne : Type 0
  CanonPlanIsOne = (a b : Plan G O) (S : List G.Position) → IsCanonPlan G O a S → IsCanonPlan G O b S → a ≡ b

  -- there is a canonical plan exactly where some plan mates within some number
  abbrev pub CanonPlanIsThere : Type 0
  CanonPlanIsThere = (S : List G.Position) → ((plan : Plan G O) × IsCanonPlan G O plan S) ↔ ((plan : Plan G O) × (k : ℕ) × (mates G O plan S k ≡ true))

  -- and no plan has a smaller worst case
  abbrev pub CanonPlanIsLeast : Type 0
  CanonPlanIsLeast = (S : List G.Position) (plan : Plan G O) → IsCanonPlan G O plan S → (k : ℕ) × IsWorst G O plan S k × ((other : Plan G O) (i : ℕ) → mates G O other S i ≡ true → k ≤ i)

  -- the computed plan is the canonical one, and so is its worst case
  abbrev pub CanonPlanIsComputed : Type 0
  CanonPlanIsComputed = (S : List G.Position) (j : ℕ) → can_plan G O j S ≡ true → IsCanonPlan G O (canon_plan G O j S) S × IsWorst G O (canon_plan G O j S) S (canon_worst G O j S)
