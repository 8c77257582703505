-- Steps of the walk.
use Rattle.std.proofs.Common.{◌≡◌, ℕ, suc, ◌+◌, ◌≤◌, Bool, true, false, cond, ◌&&◌, List, [], ◌∷◌, map, Option, Some, None, Result, refl, sym, ap, subst, ◌∙◌, arith}
use Rattle.std.specs.List.{list_all}
use Rattle.std.proofs.lemmas.Bool.{le-leb}
use Rattle.std.proofs.Math.Bool.{and_assoc}
use Rattle.krieg_checker.proofs.Common.{Pos, Move, is_nil, same, Tree, Try, Maybe, Nothing, Just, Edges, NoEdges, Edge, first_edge, size, size_other, size_edges, wins_at, refused, keys, class, Game, Dialect, total, made, Key, key_lt, chess, NodeTree, edges_in, Node, out-Node, tree_of, PartStop, Parted, Charges, IsParted, is_ordered, is_ordered_other, within, Tells, worse, own_need, all_won, all_won_other, class_pair, IsNodeTry, node_cost, other_cost, edge_cost, try_in, other_in, classes_won, classes_cost, NodeTry, MOST_COUNTED}
use Rattle.krieg_pack.proofs.PositionSets.{position_order}
use Rattle.krieg_plan.proofs.NodeTrees.{other_of, tree_out}
use Rattle.krieg_game.proofs.KeyLaws.{key_order}
use Rattle.krieg_parting.proofs.Charges.{said}
use Rattle.krieg_plan.proofs.OrderedTrees.{other_ordered}
use Rattle.krieg_checker.proofs.Sets.{all_map, total_map, first_all, first_costs}
use Rattle.krieg_checker.proofs.NodeTells.{node_tells, worse_within}

pub missing_nil : (B : List Pos) → B ≡ [] → Tells (Some 0) (λ k. list_all (λ p. false) B)
missing_nil [] e k small = sym (le-leb 0 k (omega arith))
missing_nil (p ∷ B) e k small = absurd cc

pub missing_some : (B : List Pos) → (B ≡ [] → ⊥) → Tells None (λ k. list_all (λ p. false) B)
missing_some [] other k small = absurd (other refl)
missing_some (p ∷ B) other k small = refl

pub ruleset missing = (missing_nil, missing_some)

module _ (G : Game) where
  mutual
    none_cost : (n : Tree G.Move G.Key) → node_cost G n [] ≡ 0
    none_cost (Try t other es) = omega (arith, none_other other)

    none_other : (o : Maybe G.Move G.Key) → other_cost G o [] ≡ 0
    none_other Nothing = refl
    none_other (Just n) = none_cost n

pub some_nil : (B : List Pos) → (B ≡ [] → ⊥) → is_nil B ≡ false
some_nil [] other = absurd (other refl)
some_nil (p ∷ B) other = refl

-- what was found so far, with what is left, is all; so with what was taken
pub record IsWalked (d : Dialect) (n here : NodeTree) (all B : List Pos) (need : Option ℕ) (units old : ℕ) : Type 0 where
  pub found : (k : ℕ) → k ≤ MOST_COUNTED → within need k && all_won (chess d) here B k ≡ all_won (chess d) n all k
  pub taken : units + node_cost (chess d) n all ≡ old + node_cost (chess d) here B
  pub fewer : units ≤ old

and_true : (b : Bool) → b ≡ (b && true)
and_true true = refl
and_true false = refl

-- nothing is left where the set is empty
pub walk_nil : (d : Dialect) (n here : NodeTree) (all B : List Pos) (need : Option ℕ) (units old : ℕ) → IsWalked d n here all B need units old → B ≡ [] →
    Tells need (all_won (chess d) n all) × (units + node_cost (chess d) n all ≡ old)
walk_nil d n here all [] need units old w e = (
  λ k small. sym (w.found k small) ∙ sym (and_true (within need k)),
  omega (arith, w.taken, none_cost (chess d) here),
)
walk_nil d n here all (p ∷ B) need units old w e = absurd cc

-- a set that is parted by the try of the node
module _ (d : Dialect) (here : NodeTree) (t : Move) (other : Maybe Move Key) (es : Edges Move Key) (is : here ≡ Try t other es) (B : List Pos) (r : Parted) (p : IsParted d B t r) where
  classes_cost_is : classes_cost d es (map class_pair r.classes.items) ≡ total (λ key. edge_cost (chess d) es key (class (chess d) B t key)) (keys (chess d) B t)
  classes_cost_is = ap (classes_cost d es) p.classes_part ∙ total_map (λ (x : Key × List Pos). edge_cost (chess d) es x.0 x.1) (λ key. (key, class (chess d) B t key)) (keys (chess d) B t)

  parted_won : (c : Option ℕ) → (B ≡ [] → ⊥) → Tells c (classes_won d es (map class_pair r.classes.items)) → (k : ℕ) → k ≤ MOST_COUNTED →
      all_won (chess d) (Try t other es) B k ≡ (all_won_other (chess d) other r.refused k && within (own_need r.stale c) k)
  parted_won c some hc k small =
      node_tells (chess d) key_order position_order t other es B c (some_nil B some)
      (λ k small. sym (ap (λ xs. classes_won d es xs k) p.classes_part ∙ all_map (λ (x : Key × List Pos). list_all (λ q. wins_at (chess d) es x.0 q k) x.1) (λ key. (key, class (chess d) B t key)) (keys (chess d) B t)) ∙ hc k small) k small
      ∙ ap (λ b. all_won_other (chess d) other (refused (chess d) B t) k && within (own_need b c) k) (sym p.stale_part)
      ∙ ap (λ xs. all_won_other (chess d) other xs k && within (own_need r.stale c) k) (sym p.refused_part)

  parted_tried : (v : NodeTry) → v.refused ≡ r.refused → v.fails ≡ r.stale → v.classes.items ≡ r.classes.items → IsNodeTry d (Try t other es) B v
  parted_tried v same fails classes = record {
    refused_part = same ∙ p.refused_part;
    won_part = λ some c hc k small.
        parted_won c some (λ k small. ap (λ cs. classes_won d es (map class_pair cs) k) (sym classes) ∙ hc k small) k small
        ∙ (λ i. all_won_other (chess d) other (sym same i) k && within (own_need (sym fails i) c) k);
    cost_part =
        ap (λ xs. made (chess d) B t + (other_cost (chess d) other xs + total (λ key. edge_cost (chess d) es key (class (chess d) B t key)) (keys (chess d) B t))) (sym (same ∙ p.refused_part))
        ∙ ap (λ k. made (chess d) B t + (other_cost (chess d) other v.refused + k)) (sym classes_cost_is ∙ ap (λ cs. classes_cost d es (map class_pair cs)) (sym classes));
  }

  pub parted_at : (v : NodeTry) → v.refused ≡ r.refused → v.fails ≡ r.stale → v.classes.items ≡ r.classes.items → IsNodeTry d here B v
  parted_at v same fails classes = subst (λ x. IsNodeTry d x B v) (sym is) (parted_tried v same fails classes)

-- what is left of a node is its refused part, once its classes are walked
module _ (d : Dialect) (here : NodeTree) (B : List Pos) (r : NodeTry) (p : IsNodeTry d here B r) where
  regroup : (a x b : Bool) → (a && (x && b)) ≡ ((a && b) && x)
  regroup true true b = and_true b
  regroup true false true = refl
  regroup true false false = refl
  regroup false x b = refl

  -- where the units are too few for the classes, they are for all
  pub over : (n : NodeTree) (all : List Pos) (need : Option ℕ) (units old mid : ℕ) → IsWalked d n here all B need units old → mid + made (chess d) B (try_in here) ≡ units →
      old + classes_cost d (edges_in here) (map class_pair r.classes.items) ≤ mid + node_cost (chess d) n all
  over n all need units old mid w parted = omega (arith, w.taken, parted, p.cost_part)

  module _ (n : NodeTree) (all : List Pos) (need c : Option ℕ) (some : B ≡ [] → ⊥) (hc : Tells c (classes_won d (edges_in here) (map class_pair r.classes.items))) where
    pub own_found : ((k : ℕ) → k ≤ MOST_COUNTED → within need k && all_won (chess d) here B k ≡ all_won (chess d) n all k) →
        (k : ℕ) → k ≤ MOST_COUNTED → within (worse need (own_need r.fails c)) k && all_won_other (chess d) (other_in here) r.refused k ≡ all_won (chess d) n all k
    own_found w k small =
        ap (λ b. b && all_won_other (chess d) (other_in here) r.refused k) (worse_within need (own_need r.fails c) k)
        ∙ sym (regroup (within need k) (all_won_other (chess d) (other_in here) r.refused k) (within (own_need r.fails c) k))
        ∙ ap (λ b. within need k && b) (sym (p.won_part some c hc k small)) ∙ w k small

    module _ (units old mid now : ℕ) (w : IsWalked d n here all B need units old) (parted : mid + made (chess d) B (try_in here) ≡ units) where
      -- the walk goes on at the node for the illegal case
      pub goes_on : (next : NodeTree) (more : Option ℕ) → other_in here ≡ Just next → now + classes_cost d (edges_in here) (map class_pair r.classes.items) ≡ mid → more ≡ worse need (own_need r.fails c) →
          IsWalked d n next all r.refused more now old
      goes_on next more on taken e = record {
        found = λ k small. ap (λ x. within x k && all_won (chess d) next r.refused k) e ∙ ap (λ o. within (worse need (own_need r.fails c)) k && all_won_other (chess d) o r.refused k) (sym on) ∙ own_found w.found k small;
        taken = omega (arith, w.taken, parted, taken, p.cost_part, ap (λ o. other_cost (chess d) o r.refused) on);
        fewer = omega (arith, w.fewer, parted, taken);
      }

      -- or ends where there is none
      pub ends : (m more last : Option ℕ) → other_in here ≡ Nothing → now + classes_cost d (edges_in here) (map class_pair r.classes.items) ≡ mid → more ≡ worse need (own_need r.fails c) →
          Tells m (λ k. list_all (λ (p : Pos). false) r.refused) → last ≡ worse more m → Tells last (all_won (chess d) n all) × (now + node_cost (chess d) n all ≡ old)
      ends m more last none taken e hm f = (
        λ k small. sym (ap (λ x. within x k) (f ∙ ap (λ x. worse x m) e) ∙ worse_within (worse need (own_need r.fails c)) m k ∙ ap (λ b. within (worse need (own_need r.fails c)) k && b) (sym (hm k small))
            ∙ ap (λ o. within (worse need (own_need r.fails c)) k && all_won_other (chess d) o r.refused k) (sym none) ∙ own_found w.found k small),
        omega (arith, w.taken, parted, taken, p.cost_part, ap (λ o. other_cost (chess d) o r.refused) none),
      )

-- a node by its try, the node for the illegal case and its edges
pub parts_are : (n : Node) → tree_of n ≡ Try (out-Node n).mv (other_of (out-Node n)) (edges_in (tree_of n))
parts_are n = tree_out n ∙ ap (λ x. Try (out-Node n).mv (other_of (out-Node n)) (edges_in x)) (sym (tree_out n))

-- after an edge
pub at_edge : (d : Dialect) (es : Edges Move Key) (key : Key) (B : List Pos) (o : Maybe Move Key) (r : Option ℕ) → first_edge key_lt es key ≡ o → Tells r (all_won_other (chess d) o B) →
    Tells r (λ k. list_all (λ p. wins_at (chess d) es key p k) B)
at_edge d es key B o r is h k small = first_all (chess d) es key B k ∙ ap (λ (x : Maybe Move Key). all_won_other (chess d) x B k) is ∙ h k small

pub edge_costs : (d : Dialect) (es : Edges Move Key) (key : Key) (B : List Pos) (o : Maybe Move Key) → first_edge key_lt es key ≡ o → edge_cost (chess d) es key B ≡ other_cost (chess d) o B
edge_costs d es key B o is = first_costs (chess d) es key B ∙ ap (λ (x : Maybe Move Key). other_cost (chess d) x B) is

-- a node after an edge is smaller
smaller : (es : Edges Move Key) (key : Key) (n : NodeTree) → first_edge key_lt es key ≡ Just n → size n ≤ size_edges es
smaller NoEdges key n e = absurd cc
smaller (Edge key' m es) key n e = go (same key_lt key' key) e (smaller es key n)
  where
    go : (b : Bool) → cond b (Just m) (first_edge key_lt es key) ≡ Just n → (first_edge key_lt es key ≡ Just n → size n ≤ size_edges es) → size n ≤ size m + size_edges es
    go true h more = let is : m ≡ n = cc in omega (arith, ap size is)
    go false h more = omega (arith, more h)

pub falls : (t n : NodeTree) (key : Key) → first_edge key_lt (edges_in t) key ≡ Just n → size n ≤ size_edges (edges_in t)
falls (Try m other es) n key e = smaller es key n e

-- the node for the illegal case is smaller, and ascends where the node does
pub other_falls : (here : NodeTree) (t : Move) (other : Maybe Move Key) (es : Edges Move Key) (next : NodeTree) → here ≡ Try t other es → other ≡ Just next → suc (size next) ≤ size here
other_falls here t other es next is on = omega (arith, ap size is, ap size_other on)

pub other_is_ordered : (here : NodeTree) (t : Move) (other : Maybe Move Key) (es : Edges Move Key) (next : NodeTree) → here ≡ Try t other es → other ≡ Just next → is_ordered here ≡ true → is_ordered next ≡ true
other_is_ordered here t other es next is on h = ap is_ordered_other (sym on) ∙ other_ordered t other es (sym (ap is_ordered is) ∙ h)

-- a class more
pub class_more : (d : Dialect) (es : Edges Move Key) (c : Key × List Pos) (cs : List (Key × List Pos)) (need r : Option ℕ) (all : ℕ → Bool) → ((k : ℕ) → k ≤ MOST_COUNTED → within need k && classes_won d es (c ∷ cs) k ≡ all k) →
    Tells r (λ k. list_all (λ p. wins_at (chess d) es c.0 p k) c.1) → (k : ℕ) → k ≤ MOST_COUNTED → within (worse need r) k && classes_won d es cs k ≡ all k
class_more d es c cs need r all so h k small =
    ap (λ (b : Bool). b && classes_won d es cs k) (worse_within need r k) ∙ and_assoc (within need k) (within r k) (classes_won d es cs k)
    ∙ ap (λ (b : Bool). within need k && (b && classes_won d es cs k)) (sym (h k small)) ∙ so k small

pub no_edge : (d : Dialect) (es : Edges Move Key) (key : Key) (B : List Pos) (r : Option ℕ) (units : ℕ) → first_edge key_lt es key ≡ Nothing → Tells r (λ k. list_all (λ p. false) B) →
    Tells r (λ k. list_all (λ p. wins_at (chess d) es key p k) B) × (units + edge_cost (chess d) es key B ≡ units)
no_edge d es key B r units is h = (at_edge d es key B Nothing r is h, omega (arith, edge_costs d es key B Nothing is))

pub some_edge : (d : Dialect) (es : Edges Move Key) (key : Key) (B : List Pos) (n : NodeTree) (r : Result (Option ℕ) PartStop) (old new : ℕ) → first_edge key_lt es key ≡ Just n →
    Charges r (λ x. Tells x (all_won (chess d) n B)) (node_cost (chess d) n B) old new →
    Charges r (λ x. Tells x (λ k. list_all (λ p. wins_at (chess d) es key p k) B)) (edge_cost (chess d) es key B) old new
some_edge d es key B n r old new is h = said r _ _ _ _ _ _ (λ x t. at_edge d es key B (Just n) x is t) (edge_costs d es key B (Just n) is) h
