-- Reading nodes one after another, and what is read of them.
use Rattle.std.proofs.Common.{◌≡◌, ℕ, zero, suc, ◌+◌, ◌<◌, Bool, List, [], ◌∷◌, ◌++◌, length, Option, Some, None, Result, Ok, Err, refl, ap, subst, ◌∙◌, arith, length-append}
use Rattle.std.specs.Prelude.{unwrap_or}
use Rattle.krieg_costs.proofs.Totals.{total_append}
use Rattle.krieg_fen.specs.Forms.{listed_form, positions_at}
use Rattle.krieg_fen.specs.Forms as fen
use Rattle.krieg_fen.specs.declared.forms.Turn.TheVariants.{Either}
use Rattle.krieg_format.specs.Descriptions.{line}
use Rattle.krieg_format.specs.Lines.{tested}
use Rattle.krieg_format.specs.Tables.{table}
use Rattle.krieg_text.specs.Languages.{One}
use Rattle.krieg_format.proofs.Fitting.{said_fits}
use Rattle.krieg_format.proofs.Judged.{each_length, times_law}
use Rattle.krieg_format.proofs.Reading.{law}
use Rattle.krieg_strategyfile.proofs.Common.{Pos, Side, Move, TextKind, ◌>>=◌, Place, position_form, total, Dialect, Key, Node, Counts, with_node, a_position, listed, NodeGrammar, none_yet, node_format, nodes_format, node_at, nodes_at, root_at, roots_at, AreFormed, AreRoots, IsBelow, RootKey, Has, root_form, a_root, rooted, roots_format, counts_of, listing_at, reader, repeated, taken, side_form, TextFault}
use Rattle.krieg_strategyfile.proofs.StrategyLaws.{node_owes, root_owes}
use Rattle.krieg_strategyfile.proofs.Writables.{IsNode, all_in, node_from, nodes_from, node_says, roots_from}

-- ---- nodes

pub one_counted : (ns : List (Node Move Key)) (n : Node Move Key) → counts_of (ns ++ n ∷ []) ≡ with_node (counts_of ns) n
one_counted ns n =
    let size = λ (n : Node Move Key). length n.edges in
    let many : length (ns ++ n ∷ []) ≡ length ns + 1 = length-append ns (n ∷ []) in
    let edges : total size (ns ++ n ∷ []) ≡ total size ns + length n.edges = total_append size ns (n ∷ []) ∙ omega arith in
    λ i. record { nodes = many i; edges = edges i }

-- what is read as a node is one
pub node_is : (d : Dialect) (s : Counts) (p q : Place) (n : Node Move Key) → node_at d s p ≡ Ok (n, q) → IsNode d s n
node_is d s p q n e =
    let found = (law (node_format d s) (node_owes d s)).format.found p.number p.left n q e in
    node_from d s n (said_fits (node_format d s) (node_says d s) n found.used found.says)

-- ---- listed positions

listed_same : (who : Side) (first : Option Pos) (l : List ℕ) → listed_form Either who first l ≡ (tested a_position (listed who first)).form l
unfolding listed_form
listed_same who None l = go (position_form l)
  where
    go : (r : Result Pos TextKind) → (r >>= fen.matching Either who None) ≡ (r >>= λ x. Ok x)
    go (Ok p) = refl
    go (Err kind) = refl
listed_same who (Some first) l = grind arith

abbrev item : Side → Option Pos → Place → Result (Pos × Place) TextFault
item who first = reader (line (tested a_position (listed who first)))

positions_same : (who : Side) (first : Option Pos) (n : ℕ) (p : Place) → positions_at Either who first n p ≡ repeated n (item who) (λ first x. Some (unwrap_or first x)) first p
positions_same who first zero p = refl
positions_same who first (suc n) p =
    (λ i. taken (λ l. listed_same who first l i) p >>= λ one. positions_at Either who (Some (unwrap_or first one.0)) n one.1 >>= λ others. Ok (one.0 ∷ others.0, others.1))
    ∙ go (λ x. positions_same who (Some (unwrap_or first x.0)) n x.1) (taken (tested a_position (listed who first)).form p)
  where
    go : ((x : Pos × Place) → positions_at Either who (Some (unwrap_or first x.0)) n x.1 ≡ repeated n (item who) (λ first x. Some (unwrap_or first x)) (Some (unwrap_or first x.0)) x.1) → (r : Result (Pos × Place) TextFault) →
        ◌≡◌ {A = Result (List Pos × Place) TextFault} (r >>= λ one. positions_at Either who (Some (unwrap_or first one.0)) n one.1 >>= λ others. Ok (one.0 ∷ others.0, others.1))
        ((◌>>=◌ {B = Pos × Place} r (λ x. Ok (x.0, x.1))) >>= λ x. repeated n (item who) (λ first x. Some (unwrap_or first x)) (Some (unwrap_or first x.0)) x.1 >>= λ xs. Ok (x.0 ∷ xs.0, xs.1))
    go less (Err e) = refl
    go less (Ok x) = ap (λ (t : Result (List Pos × Place) TextFault). ◌>>=◌ {B = List Pos × Place} t (λ xs. Ok (x.0 ∷ xs.0, xs.1))) (less x)

pub listing_same : (p : Place) → fen.listing_at Either p ≡ listing_at p
unfolding fen.listing_at fen.list_form
listing_same p = λ i. taken side_form p >>= λ who. taken fen.list_form who.1 >>= λ k. positions_same who.0 None k.0 k.1 i >>= λ l. Ok ((who.0, l.0), l.1)

-- ---- the whole

-- nodes that are read one after another are well formed
pub nodes_are : (d : Dialect) (n : ℕ) (p q : Place) (ns : List (Node Move Key)) → nodes_at d n p ≡ Ok (ns, q) → AreFormed n ns
nodes_are d n p q ns e =
    let found = (times_law n (node_at d) with_node (λ t. table (node_format d t)) (NodeGrammar d) (λ t. law (node_format d t) (node_owes d t)) none_yet).format.found p.number p.left ns q e in
    let fits = said_fits (nodes_format d n none_yet) (λ s. node_says d s) ns found.used found.says in
    let are = nodes_from d n none_yet ns (omega arith) fits in
    record {
      count = each_length n _ _ _ ns _ found.says;
      below = λ i n e. let first : 0 + i ≡ i = omega arith in subst (λ k. IsBelow k n) first (are.below i n e);
      have_order = are.order;
    }

-- roots that are read one after another are well formed
pub roots_are : (d : Dialect) (waiting : Bool) (nodes n : ℕ) (p q : Place) (rs : List (RootKey × ℕ)) → roots_at d waiting nodes n p ≡ Ok (rs, q) → AreRoots nodes rs
roots_are d waiting nodes n p q rs e =
    let item = λ (last : Option RootKey). line (tested (a_root d) (rooted waiting nodes last)) in
    let found = (times_law n (root_at d waiting nodes) (λ last r. Some r.0) (λ last. table (item last)) (One (Has (root_form d))) (λ last. law (item last) (root_owes d waiting nodes last)) None).format.found p.number p.left rs q e in
    let are = roots_from d waiting nodes n rs (said_fits (roots_format d waiting nodes n) (λ last l x h. (h.0.1, h.1)) rs found.used found.says) in
    record { below = all_in (λ (r : RootKey × ℕ). r.1 < nodes) rs (λ k x e. (are.0 k x e).below); ascend = are.1 }
