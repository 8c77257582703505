-- Following the numbers of a strategy is following the trees that they unfold to.
use Rattle.std.proofs.Common.{◌≡◌, ℕ, ◌<◌, Bool, List, length, map, sym, ap, subst, ◌∙◌, arith, Option, Some, None}
use Rattle.std.specs.Prelude.{IfSome, slice_get}
use Rattle.krieg_robot.proofs.Common.{In, Maybe, Just, Move, Key, NodeTree, behind, node_at}
use Rattle.krieg_words.specs.Words.{Said}
use Rattle.krieg_game.specs.Keys.{key_lt, root_lt}
use Rattle.krieg_strategy.specs.Nodes.{Node, first_to}
use Rattle.krieg_strategy.specs.Roots.{root_of}
use Rattle.krieg_strategy.specs.Unfolded.{tree_on}
unfoldable use Rattle.krieg_strategy.specs.Unfolded.{trees_of}
use Rattle.krieg_strategy.specs.Values.{plan_in}
use Rattle.krieg_strategy.specs.WellFormed.{IsBelow}
use Rattle.krieg_strategy.specs.declared.strategy.Strategy.{Strategy}
use Rattle.krieg_strategy.proofs.Unfolding.{edge_tree, first_below, node_tree, root_tree, trees_length}
use Rattle.krieg_robot.specs.declared.guide.Step.TheVariants.{From, No, On}

-- a number that is found is below where all are
pub found_there : {K : Type 0} (lt : K → K → Bool) (own : ℕ) (es : List (K × ℕ)) → ((e : K × ℕ) → In e es → e.1 < own) → (key : K) (r : Option ℕ) → r ≡ first_to lt es key → IfSome r (λ i. i < own)
found_there lt own es below key None e = tt
found_there lt own es below key (Some i) e = first_below lt own es below key i (sym e)

module _ (s : Strategy) where
  abbrev trees : List NodeTree
  trees = trees_of s.nodes

  -- a number of a node is one of a tree
  within : (i : ℕ) → i < length s.nodes → i < length trees
  within i h = subst (λ (n : ℕ). i < n) (sym (trees_length s.nodes)) h

  -- the step to a root
  pub root_there : (opens : Said) (heard : Option Said) (r : Option ℕ) → r ≡ first_to root_lt (map root_of s.roots.items) (opens, heard) → IfSome r (λ i. i < length s.nodes)
  root_there opens heard r e = found_there root_lt (length s.nodes) (map root_of s.roots.items) s.well_formed.roots_below (opens, heard) r e

  pub root_leads : (n : Maybe Move Key) (opens : Said) (heard : Option Said) (r : Option ℕ) → r ≡ first_to root_lt (map root_of s.roots.items) (opens, heard) →
      node_at s r ≡ behind (plan_in s) n (From opens heard)
  root_leads n opens heard r e =
      ap (node_at s) e ∙ sym (root_tree root_lt trees (map root_of s.roots.items) (λ r i. within r.1 (s.well_formed.roots_below r i)) (opens, heard))

  module _ (i : ℕ) (n : Node Move Key) (at : slice_get s.nodes i ≡ Some n) where
    -- the tree of a node stands on those of all
    pub node_is : node_at s (Some i) ≡ Just (tree_on trees n)
    node_is = node_tree s.nodes s.well_formed.below i n at

    -- the step to the node for the illegal case
    pub no_leads : node_at s n.no ≡ behind (plan_in s) (node_at s (Some i)) No
    no_leads = ap (λ m. behind (plan_in s) m No) (sym node_is)

  -- the step along an edge
  module _ (i : ℕ) (n : Node Move Key) (there : i < length s.nodes) (below : IsBelow i n) (own reply : Said) (r : Option ℕ) (found : r ≡ first_to key_lt n.edges (own, reply)) where
    lower : (e : Key × ℕ) → In e n.edges → e.1 < length s.nodes
    lower e h = omega (arith, there, below.edges_part e h)

    pub edge_there : IfSome r (λ i. i < length s.nodes)
    edge_there = found_there key_lt (length s.nodes) n.edges lower (own, reply) r found

    pub edge_leads : slice_get s.nodes i ≡ Some n → node_at s r ≡ behind (plan_in s) (node_at s (Some i)) (On own reply)
    edge_leads at =
        ap (node_at s) found
        ∙ (sym (edge_tree key_lt trees n.edges (λ e h. within e.1 (lower e h)) (own, reply)) ∙ ap (λ m. behind (plan_in s) m (On own reply)) (sym (node_is i n at)))
