-- How long the text of a strategy may be: an input has room for it.
use Rattle.std.proofs.Common.{◌≡◌, ℕ, suc, ◌+◌, ◌*◌, ◌<◌, ◌≤◌, ◌^◌, lit≤, List, [], ◌∷◌, ◌++◌, map, length, Option, Some, None, refl, ap, subst, arith, length-append}
use Rattle.std.specs.Prelude.{codes, slice_get}
use Rattle.std.specs.List.{All, flat_map}
use Rattle.std.proofs.lemmas.Fmt.{length-decimal-le}
use Rattle.std.proofs.lemmas.List.Elements.{All-nil, All-cons, All-head, All-tail}
use Rattle.krieg_strategyfile.proofs.Common.{Move, number_text, Pieces, alone, joined, put_lines, position_line, listing_lines, move_text, words_text, Dialect, Key, RootKey, IsToldKey, IsToldRoot, Node, IsBelow, MOST_NODES, MOST_EDGES, on_line, root_line, Play, LeadsToSome, no_pieces, play_line, play_of, led, edge_line, root_to_line, numbered, StrategyState, node_lines, nodes_lines, roots_lines, heading_lines, strategy_lines, strategy_text, text_bound, edges_in, IsToldNode, CanBeWritten}
use Rattle.krieg_planfile.proofs.TextSizes.{append_short, words_short, number_short, move_short, size, size_append, text_size, positions_short, dialect_short, side_line_short}
use Rattle.krieg_strategyfile.proofs.LedLines.{led_is}
use Rattle.krieg_strategyfile.proofs.PlayLines.{play_joined}
use Rattle.krieg_strategyfile.proofs.Writables.{in_all}
use Rattle.krieg_strategyfile.proofs.WrittenLines.{lines_are}

-- ---- lines

node_number_short : (i : ℕ) → i < MOST_NODES → length (number_text (i + 1)) ≤ 6
node_number_short i few = number_short 6 (i + 1) (omega arith) (omega (arith, few)) (omega (arith, few))

led_short : (ps : Pieces) (i : ℕ) → i < MOST_NODES → length (joined ps) ≤ 144 → length (joined (led ps i)) ≤ 151
led_short ps i few short =
    let number = node_number_short i few in
    let same = ap length (led_is ps i) in
    omega (arith, number, short, same, length-append (joined ps) (32 ∷ number_text (i + 1)))

on_short : (d : Dialect) (key : Key) → IsToldKey d key → length (joined (on_line d key)) ≤ 144
on_short d key told =
    append_short (codes "on ") (words_text d key.0 ++ (codes " / " ++ words_text d key.1)) 3 141 (lit≤ tt)
    (append_short (words_text d key.0) (codes " / " ++ words_text d key.1) 69 72 (words_short d key.0 told.0.0.0)
    (append_short (codes " / ") (words_text d key.1) 3 69 (lit≤ tt) (words_short d key.1 told.1.0.0)))

root_short : (d : Dialect) (key : RootKey) → IsToldRoot d key → length (joined (root_line d key)) ≤ 144
root_short d (opens, None) told = append_short (codes "on ") (words_text d opens) 3 141 (lit≤ tt) (let w = words_short d opens told.0.0 in omega (arith, w))
root_short d (opens, Some heard) told = on_short d (opens, heard) told

-- ---- nodes

edges_number_short : (k : ℕ) → k ≤ MOST_EDGES → length (number_text k) ≤ 6
edges_number_short k few = length-decimal-le 6 k (omega arith) (omega (arith, few)) (omega (arith, few))

no_short : (o : Option ℕ) → LeadsToSome o → (k : ℕ) → k ≤ MOST_EDGES → length (joined (no_pieces o ++ (codes " " ∷ number_text k ∷ []))) ≤ 17
no_short None some k few = let edges = edges_number_short k few in omega (arith, edges)
no_short (Some i) some k few =
    append_short (codes " no ") (number_text (i + 1) ++ (32 ∷ number_text k)) 4 13 (lit≤ tt)
    (append_short (number_text (i + 1)) (32 ∷ number_text k) 6 7 (node_number_short i some) (let edges = edges_number_short k few in omega (arith, edges)))

play_short : (p : Play) → LeadsToSome p.no → p.edges ≤ MOST_EDGES → length (joined (play_line p)) ≤ 27
play_short p some few =
    let same = ap length (play_joined p) in
    let short = append_short (codes "play ") (move_text p.mv ++ joined (no_pieces p.no ++ (codes " " ∷ number_text p.edges ∷ []))) 5 22 (lit≤ tt)
    (append_short (move_text p.mv) (joined (no_pieces p.no ++ (codes " " ∷ number_text p.edges ∷ []))) 5 17 (move_short p.mv) (no_short p.no some p.edges few)) in
    omega (arith, same, short)

edges_short : (d : Dialect) (es : List (Key × ℕ)) → All (λ (e : Key × ℕ). IsToldKey d e.0) es → All (λ (e : Key × ℕ). e.1 < MOST_NODES) es → size (map (edge_line d) es) ≤ 152 * length es
edges_short d [] told low = omega arith
edges_short d (e ∷ es) told low =
    let one = led_short (on_line d e.0) e.1 (All-head (λ (e : Key × ℕ). e.1 < MOST_NODES) e es low) (on_short d e.0 (All-head (λ (e : Key × ℕ). IsToldKey d e.0) e es told)) in
    let more = edges_short d es (All-tail (λ (e : Key × ℕ). IsToldKey d e.0) e es told) (All-tail (λ (e : Key × ℕ). e.1 < MOST_NODES) e es low) in
    omega (arith, one, more)

-- it leads to numbers that some node may have
record LeadLow (n : Node Move Key) : Type 0 where
  no_part : LeadsToSome n.no
  edges : All (λ (e : Key × ℕ). e.1 < MOST_NODES) n.edges

nodes_short : (d : Dialect) (ns : List (Node Move Key)) → All (IsToldNode d) ns → All LeadLow ns → edges_in ns ≤ MOST_EDGES → size (flat_map (node_lines d) ns) ≤ 28 * length ns + 152 * edges_in ns
nodes_short d [] told low few = omega arith
nodes_short d (n ∷ ns) told low few =
    let t = All-head (IsToldNode d) n ns told in
    let l = All-head LeadLow n ns low in
    let play = play_short (play_of n) l.no_part (omega (arith, few)) in
    let edges = edges_short d n.edges t.told l.edges in
    let more = nodes_short d ns (All-tail (IsToldNode d) n ns told) (All-tail LeadLow n ns low) (omega (arith, few)) in
    omega (arith, play, edges, more, size_append (node_lines d n) (flat_map (node_lines d) ns))

-- the numbers of a strategy's nodes
some_low : (own : ℕ) (o : Option ℕ) → own < MOST_NODES → ((i : ℕ) → o ≡ Some i → i < own) → LeadsToSome o
some_low own None few below = tt
some_low own (Some i) few below = let low = below i refl in omega (arith, few, low)

lead_low : (own : ℕ) (ns : List (Node Move Key)) → ((i : ℕ) (n : Node Move Key) → slice_get ns i ≡ Some n → IsBelow (own + i) n) → own + length ns ≤ MOST_NODES → All LeadLow ns
lead_low own [] below few = All-nil LeadLow
lead_low own (n ∷ ns) below few =
    let b = below 0 n refl in
    let here : own + 0 < MOST_NODES = omega (arith, few) in
    All-cons LeadLow n ns (record { no_part = some_low (own + 0) n.no here b.no_part; edges = in_all (λ (e : Key × ℕ). e.1 < MOST_NODES) n.edges (λ e i. let low = b.edges_part e i in omega (arith, here, low)) })
    (lead_low (suc own) ns (λ i m e. let next : own + suc i ≡ suc own + i = omega arith in subst (λ k. IsBelow k m) next (below (suc i) m e)) (omega (arith, few)))

-- ---- roots

roots_short : (d : Dialect) (rs : List (RootKey × ℕ)) → All (λ (r : RootKey × ℕ). IsToldRoot d r.0) rs → All (λ (r : RootKey × ℕ). r.1 < MOST_NODES) rs → size (map (root_to_line d) rs) ≤ 152 * length rs
roots_short d [] told low = omega arith
roots_short d (r ∷ rs) told low =
    let one = led_short (root_line d r.0) r.1 (All-head (λ (r : RootKey × ℕ). r.1 < MOST_NODES) r rs low) (root_short d r.0 (All-head (λ (r : RootKey × ℕ). IsToldRoot d r.0) r rs told)) in
    let more = roots_short d rs (All-tail (λ (r : RootKey × ℕ). IsToldRoot d r.0) r rs told) (All-tail (λ (r : RootKey × ℕ). r.1 < MOST_NODES) r rs low) in
    omega (arith, one, more)

-- ---- the file

numbered_short : (name : List ℕ) (k n : ℕ) → 0 < k → n < 10 ^ k → n ≤ 200000 → length (joined (numbered name n)) ≤ length name + k
numbered_short name k n some few small = let digits = number_short k n some few small in omega (arith, digits, length-append name (number_text n))

-- the text of a strategy that can be written
pub text_short : (s : StrategyState) → CanBeWritten s → length (strategy_text s) < text_bound
unfolding strategy_text
text_short s w =
    let d = s.dialect in
    let form = w.well_formed in
    let end : List Pieces = alone (codes "end") ∷ [] in
    let nodes : List Pieces = flat_map (node_lines d) s.nodes in
    let roots : List Pieces = map (root_to_line d) s.roots in
    let few_nodes : length s.nodes ≤ MOST_NODES = form.few_nodes in
    let few_roots : length s.roots ≤ 50000 = w.few_roots in
    let few_listed : length s.list ≤ 200000 = w.few_listed in
    let few_edges : edges_in s.nodes ≤ MOST_EDGES = w.few_edges in
    let low = in_all (λ (r : RootKey × ℕ). r.1 < MOST_NODES) s.roots (λ r i. let b = form.roots_below r i in omega (arith, few_nodes, b)) in
    let version = numbered_short (codes "krieg strategy ") 1 1 (omega arith) (omega arith) (omega arith) in
    let worst = numbered_short (codes "worst ") 4 s.worst (omega arith) (omega (arith, form.most_worst)) (omega (arith, form.most_worst)) in
    let listed = numbered_short (codes "list ") 6 (length s.list) (omega arith) (omega (arith, few_listed)) few_listed in
    let counted = numbered_short (codes "nodes ") 6 (length s.nodes) (omega arith) (omega (arith, few_nodes)) (omega (arith, few_nodes)) in
    let rooted = numbered_short (codes "roots ") 6 (length s.roots) (omega arith) (omega (arith, few_roots)) (omega (arith, few_roots)) in
    let text = text_size (strategy_lines s) in
    let same = ap (λ (ls : List Pieces). length (put_lines [] ls)) (lines_are s) in
    let rest : List Pieces = numbered (codes "worst ") s.worst ∷ (nodes_lines d s.nodes ++ (roots_lines d s.roots ++ end)) in
    omega (
      arith,
      text,
      same,
      version,
      worst,
      listed,
      counted,
      rooted,
      few_nodes,
      few_roots,
      few_listed,
      few_edges,
      dialect_short d,
      side_line_short s.side,
      positions_short s.list,
      nodes_short d s.nodes w.told (lead_low 0 s.nodes (λ i n e. let first : i ≡ 0 + i = omega arith in subst (λ k. IsBelow k n) first (form.below i n e)) (omega (arith, few_nodes))) few_edges,
      roots_short d s.roots w.roots_told low,
      size_append (heading_lines d) (listing_lines s.side s.list ++ rest),
      size_append (map position_line s.list) rest,
      size_append nodes (roots_lines d s.roots ++ end),
      size_append roots end,
    )
