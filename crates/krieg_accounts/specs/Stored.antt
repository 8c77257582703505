-- What is stored for sets of positions with numbers of own moves.
use Rattle.std.specs.Prelude.{◌≡◌, ℕ, ◌+◌, ◌==◌, ◌&&◌, Bool, List, [], ◌∷◌, map, Option, Some, None, ◌⊎◌, if◌then◌else◌}
use Rattle.krieg_costs.specs.Sums.{total, same_list}

-- P are the positions, M the moves: a set of positions, and a number of own moves
abbrev pub PairOf : Type 0 → Type 0
PairOf P = List P × ℕ

-- With each pair its result: the try that wins, or none where no try does.
abbrev pub Entries : Type 0 → Type 0 → Type 0
Entries P M = List (PairOf P × Option M)

-- the same set and the same number
abbrev pub same_entry : {P : Type 0} → (P → P → Bool) → PairOf P → PairOf P → Bool
same_entry lt a b = (a.1 == b.1) && same_list lt a.0 b.0

-- what is stored for a pair, if anything is
abbrev pub stored : {P M : Type 0} → (P → P → Bool) → Entries P M → PairOf P → Option (Option M)
stored lt [] q = None
stored lt (e ∷ es) q = if same_entry lt e.0 q then Some e.1 else stored lt es q

-- the pairs for which something is stored
abbrev pub pairs : {P M : Type 0} → Entries P M → List (PairOf P)
pairs T = map (λ e. e.0) T

-- T' has one result more than T: the result o for the pair q, for which T has none. How an entry is kept, and at which
-- place, is left open.
pub record AddsResult {P M : Type 0} (lt : P → P → Bool) (T T' : Entries P M) (q : PairOf P) (o : Option M) : Type 0 where
  pub fresh : stored lt T q ≡ None
  pub here : stored lt T' q ≡ Some o
  -- what is stored stays
  pub kept : (p : PairOf P) (x : Option M) → stored lt T p ≡ Some x → stored lt T' p ≡ Some x
  -- and nothing else comes
  pub nothing_else : (p : PairOf P) (x : Option M) → stored lt T' p ≡ Some x → (stored lt T p ≡ Some x) ⊎ ((q ≡ p) × (o ≡ x))
  -- any sum over the pairs grows by that of the new one
  pub one_more : (f : PairOf P → ℕ) → total f (pairs T') ≡ f q + total f (pairs T)
