-- The written lines are those of the description.
use Rattle.std.proofs.Common.{◌≡◌, ℕ, List, [], ◌∷◌, ◌++◌, map, length, Option, Some, None, refl, ap, ◌∙◌}
use Rattle.std.specs.Prelude.{codes, unwrap_or}
use Rattle.std.specs.List.{flat_map}
use Rattle.krieg_strategyfile.proofs.Common.{Pos, Move, Pieces, alone, position_line, dialect_line, side_line, Dialect, Key, RootKey, Node, each_text, written, StrategyState, none_yet, node_format, strategy_format, Counts, with_node, numbered, edge_line, root_to_line, play_line, play_of, node_lines, strategy_lines}

-- the text of an item rests on nothing before it
each_is : {S A : Type 0} (item : S → A → List Pieces) (f : A → List Pieces) (next : S → A → S) → ((s : S) (x : A) → item s x ≡ f x) → (s : S) (xs : List A) → each_text item next s xs ≡ flat_map f xs
each_is item f next same s [] = refl
each_is item f next same s (x ∷ xs) = ap (λ (t : List Pieces). t ++ each_text item next (next s x) xs) (same s x) ∙ ap (λ (t : List Pieces). f x ++ t) (each_is item f next same (next s x) xs)

-- nor does that of an item of one line
each_line : {S A : Type 0} (f : A → Pieces) (next : S → A → S) (s : S) (xs : List A) → each_text (λ t x. f x ∷ []) next s xs ≡ map f xs
each_line f next s [] = refl
each_line f next s (x ∷ xs) = ap (λ (t : List Pieces). f x ∷ t) (each_line f next (next s x) xs)

node_is : (d : Dialect) (s : Counts) (n : Node Move Key) → written (node_format d s) n ≡ node_lines d n
node_is d s n = ap (λ (t : List Pieces). play_line (play_of n) ∷ t) (each_line (edge_line d) (λ (last : Option Key) (e : Key × ℕ). Some e.0) None n.edges)

pub lines_are : (s : StrategyState) → written strategy_format s ≡ strategy_lines s
lines_are s =
    let d = s.dialect in
    let end : List Pieces = alone (codes "end") ∷ [] in
    let list : List Pieces → List Pieces = λ t.
    numbered (codes "krieg strategy ") 1 ∷ alone (dialect_line d) ∷ alone (side_line s.side) ∷ numbered (codes "list ") (length s.list) ∷ t in
    let nodes : List Pieces → List Pieces = λ t. numbered (codes "worst ") s.worst ∷ numbered (codes "nodes ") (length s.nodes) ∷ t in
    let roots : List Pieces → List Pieces = λ t. numbered (codes "roots ") (length s.roots) ∷ (t ++ end) in
    let nodes' = each_text (λ t n. written (node_format d t) n) with_node none_yet s.nodes in
    let roots' = each_text {S = Option RootKey} (λ t r. root_to_line d r ∷ []) (λ last r. Some r.0) None s.roots in
    ap (λ (t : List Pieces). list (t ++ nodes (nodes' ++ roots roots'))) (each_line position_line (λ (first : Option Pos) (p : Pos). Some (unwrap_or first p)) None s.list)
    ∙ ap (λ (t : List Pieces). list (map position_line s.list ++ nodes (t ++ roots roots'))) (each_is (λ t n. written (node_format d t) n) (node_lines d) with_node (node_is d) none_yet s.nodes)
    ∙ ap (λ (t : List Pieces). list (map position_line s.list ++ nodes (flat_map (node_lines d) s.nodes ++ roots t))) (each_line (root_to_line d) (λ (last : Option RootKey) (r : RootKey × ℕ). Some r.0) None s.roots)
