-- How long the text of a plan file may be: an input has room for it.
use Rattle.std.proofs.Common.{ℕ, ◌+◌, ◌*◌, ◌<◌, ◌≤◌, lit≤, Bool, true, false, List, [], ◌∷◌, ◌++◌, map, length, Some, None, arith, length-append}
use Rattle.std.specs.Prelude.{codes}
use Rattle.krieg_planfile.proofs.Common.{Move, number_text, Pieces, alone, joined, head_lines, position_line, listing_lines, move_text, Try, Maybe, Just, Edges, NoEdges, size_other, size_edges, words_text, Dialect, Wild16, Anytry, Key, RootKey, NodeTree, PlanTrees, plan_size, MOST_NODES, edge_count, is_just, no_text, play_line, on_line, node_lines, other_lines, edges_lines, IsToldKey, IsTold, IsToldOther, AreTold, PlanState, waits, IsToldRoot, AreToldRoots, CanBeWritten, heading, root_line, roots_lines, claim_lines, plan_lines, plan_text, text_bound}
use Rattle.krieg_theory.specs.Tree.{Nothing, Edge}
use Rattle.krieg_theory.specs.Tree.{size as nodes}
use Rattle.krieg_words.specs.declared.dialects.Dialect.TheVariants.{Plain}
use Rattle.krieg_planfile.proofs.NodesAgain.{count_size}
use Rattle.krieg_planfile.proofs.TextSizes.{append_short, words_short, number_short, move_short, size, size_append, text_size, positions_short, side_line_short}

-- ---- lines

no_short : (b : Bool) → length (no_text b) ≤ 4
no_short false = lit≤ tt
no_short true = lit≤ tt

count_short : (k : ℕ) → k ≤ MOST_NODES → length (number_text k) ≤ 6
count_short k few = let small : k ≤ 100000 = few in number_short 6 k (omega arith) (omega (arith, small)) (omega (arith, small))

play_short : (m : Move) (b : Bool) (k : ℕ) → k ≤ MOST_NODES → length (joined (play_line m b k)) ≤ 20
play_short m b k few =
    append_short (codes "play ") (move_text m ++ (no_text b ++ number_text k)) 5 15 (lit≤ tt)
    (append_short (move_text m) (no_text b ++ number_text k) 5 10 (move_short m) (append_short (no_text b) (number_text k) 4 6 (no_short b) (count_short k few)))

on_short : (d : Dialect) (key : Key) → IsToldKey d key → length (joined (on_line d key)) ≤ 144
on_short d (own, reply) told =
    let back : List ℕ = codes " / " ++ words_text d reply in
    append_short (codes "on ") (words_text d own ++ back) 3 141 (lit≤ tt)
    (append_short (words_text d own) back 69 72 (words_short d own told.0.0.0) (append_short (codes " / ") (words_text d reply) 3 69 (lit≤ tt) (words_short d reply told.1.0.0)))

root_short : (d : Dialect) (key : RootKey) → IsToldRoot d key → length (joined (root_line d key)) ≤ 144
root_short d (opens, None) told = append_short (codes "on ") (words_text d opens) 3 141 (lit≤ tt) (let few = words_short d opens told.0.0 in omega (arith, few))
root_short d (opens, Some heard) told = on_short d (opens, heard) told

-- ---- nodes

mutual
  -- with the line above it a node takes 166 bytes
  node_short : (d : Dialect) (n : NodeTree) → IsTold d n → nodes n ≤ MOST_NODES → size (node_lines d n) + 145 ≤ 166 * nodes n
  node_short d (Try m other es) told few =
      let line = play_short m (is_just other) (edge_count es) (omega (arith, count_size es, few)) in
      let no = other_short d other told.1 (omega (arith, few)) in
      let more = edges_short d es told.2 (omega (arith, few)) in
      omega (arith, line, no, more, size_append (other_lines d other) (edges_lines d es))

  other_short : (d : Dialect) (other : Maybe Move Key) → IsToldOther d other → size_other other ≤ MOST_NODES → size (other_lines d other) ≤ 166 * size_other other
  other_short d Nothing told few = omega arith
  other_short d (Just n) told few = let node = node_short d n told few in omega (arith, node)

  edges_short : (d : Dialect) (es : Edges Move Key) → AreTold d es → size_edges es ≤ MOST_NODES → size (edges_lines d es) ≤ 166 * size_edges es
  edges_short d NoEdges told few = omega arith
  edges_short d (Edge key n es) told few =
      let line = on_short d key told.0 in
      let node = node_short d n told.1 (omega (arith, few)) in
      let more = edges_short d es told.2 (omega (arith, few)) in
      omega (arith, line, node, more, size_append (node_lines d n) (edges_lines d es))

roots_short : (d : Dialect) (rs : PlanTrees) → AreToldRoots d rs → plan_size rs ≤ MOST_NODES → size (roots_lines d rs) ≤ 166 * plan_size rs
roots_short d [] told few = omega arith
roots_short d (r ∷ rs) told few =
    let line = root_short d r.0 told.0 in
    let node = node_short d r.1 told.1 (omega (arith, few)) in
    let more = roots_short d rs told.2 (omega (arith, few)) in
    omega (arith, line, node, more, size_append (node_lines d r.1) (roots_lines d rs))

roots_few : (rs : PlanTrees) → length rs ≤ plan_size rs
roots_few [] = omega arith
roots_few ((key, Try m other es) ∷ rs) = let more = roots_few rs in omega (arith, more)

-- ---- the file

heading_short : (d : Dialect) (waiting : Bool) → size (map alone (heading d waiting)) ≤ 28
heading_short Wild16 false = lit≤ tt
heading_short Wild16 true = lit≤ tt
heading_short Anytry false = lit≤ tt
heading_short Anytry true = lit≤ tt
heading_short Plain false = lit≤ tt
heading_short Plain true = lit≤ tt

pub named_short : (name : List ℕ) (n : ℕ) → n ≤ 200000 → length (joined (name ∷ number_text n ∷ [])) ≤ length name + 6
named_short name n few = let digits = number_short 6 n (omega arith) (omega (arith, few)) few in omega (arith, digits, length-append name (number_text n))

-- what stands behind the positions
pub claim_short : (s : PlanState) → CanBeWritten s → size (claim_lines s) ≤ 16600030
claim_short s w =
    let worst : s.worst ≤ 2500 = w.most_worst in
    let few : plan_size s.plan ≤ 100000 = w.size in
    let claim = named_short (codes "worst ") s.worst (omega (arith, worst)) in
    let counted = named_short (codes "roots ") (length s.plan) (omega (arith, few, roots_few s.plan)) in
    let roots = roots_short s.dialect s.plan w.told w.size in
    omega (arith, claim, counted, roots, few, size_append (roots_lines s.dialect s.plan) (alone (codes "end") ∷ []))

-- the text of a plan file that can be written
pub text_short : (s : PlanState) → CanBeWritten s → length (plan_text s) < text_bound
unfolding plan_text
text_short s w =
    let first : List Pieces = map alone (heading s.dialect (waits s.side s.list)) in
    let listed : length s.list ≤ 200000 = w.few_listed in
    omega (
      arith,
      listed,
      text_size (plan_lines s),
      heading_short s.dialect (waits s.side s.list),
      side_line_short s.side,
      named_short (codes "list ") (length s.list) listed,
      positions_short s.list,
      claim_short s w,
      size_append first (listing_lines s.side s.list ++ claim_lines s),
      size_append (listing_lines s.side s.list) (claim_lines s),
      size_append (head_lines s.side (length s.list)) (map position_line s.list),
    )
