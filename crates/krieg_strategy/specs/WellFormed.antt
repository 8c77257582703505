-- What is well formed: each node leads to nodes before it alone, and keys ascend.
use Rattle.std.specs.Prelude.{◌≡◌, ℕ, ◌<◌, ◌≤◌, true, List, length, map, Some, slice_get}
use Rattle.krieg_board.specs.declared.men.Move.{Move}
use Rattle.krieg_theory.specs.Sets.{In}
use Rattle.krieg_game.specs.Keys.{Key, RootKey, key_lt, root_lt}
use Rattle.krieg_plan.specs.Order.{is_ascending}
use Rattle.krieg_strategy.specs.Nodes.{Node}
use Rattle.krieg_strategy.specs.declared.limits.TheConstants.{MOST_NODES, MOST_WORST}

-- the numbers that a node leads to are below its own
pub record IsBelow {M K : Type 0} (own : ℕ) (n : Node M K) : Type 0 where
  pub no_part : (i : ℕ) → n.no ≡ Some i → i < own
  pub edges_part : (e : K × ℕ) → In e n.edges → e.1 < own

-- this holds of all nodes of a list
abbrev pub AreBelow : {M K : Type 0} → List (Node M K) → Type 0
AreBelow {M} {K} ns = (i : ℕ) (n : Node M K) → slice_get ns i ≡ Some n → IsBelow i n

-- the keys of its edges ascend strictly
abbrev pub HasOrder : Node Move Key → Type 0
HasOrder n = is_ascending key_lt (map (λ (e : Key × ℕ). e.0) n.edges) ≡ true

-- this holds of all nodes of a list
abbrev pub HaveOrder : List (Node Move Key) → Type 0
HaveOrder ns = (i : ℕ) (n : Node Move Key) → slice_get ns i ≡ Some n → HasOrder n

-- the nodes and roots make a strategy with that worst case, by number and order
pub record IsStrategy (ns : List (Node Move Key)) (rs : List (RootKey × ℕ)) (worst : ℕ) : Type 0 where
  pub some_nodes : 0 < length ns
  pub few_nodes : length ns ≤ MOST_NODES
  pub below : AreBelow ns
  pub have_order : HaveOrder ns
  pub roots_below : (r : RootKey × ℕ) → In r rs → r.1 < length ns
  pub roots_ascend : is_ascending root_lt (map (λ (r : RootKey × ℕ). r.0) rs) ≡ true
  pub some_worst : 0 < worst
  pub most_worst : worst ≤ MOST_WORST
