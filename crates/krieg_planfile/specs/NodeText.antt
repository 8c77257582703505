-- The lines of a node and of all that is below it, each as its pieces.
use Rattle.std.specs.Prelude.{Bool, true, false, ℕ, zero, suc, List, [], ◌∷◌, ◌++◌, codes}
use Rattle.krieg_board.specs.declared.men.Move.{Move}
use Rattle.krieg_text.specs.Decimals.{number_text}
use Rattle.krieg_fen.specs.MoveText.{move_text, IsOnBoard}
use Rattle.krieg_text.specs.Writing.{Pieces}
use Rattle.krieg_theory.specs.Tree.{Try, Maybe, Nothing, Just, Edges, NoEdges, Edge}
use Rattle.krieg_words.specs.Words.{Said, IsSaid}
use Rattle.krieg_words.specs.ToldWords.{Fits}
use Rattle.krieg_wordtext.specs.WordsText.{words_text}
use Rattle.krieg_words.specs.declared.dialects.Dialect.{Dialect}
use Rattle.krieg_game.specs.Keys.{Key}
use Rattle.krieg_plan.specs.Trees.{NodeTree}

-- ---- the text

-- how many edges
abbrev pub edge_count : Edges Move Key → ℕ
edge_count NoEdges = zero
edge_count (Edge key n es) = suc (edge_count es)

-- there is a tree for the illegal case
abbrev pub is_just : Maybe Move Key → Bool
is_just Nothing = false
is_just (Just n) = true

-- the node for the illegal case
abbrev pub other_in : NodeTree → Maybe Move Key
other_in (Try m other es) = other

-- between the move and the number of edges
abbrev pub no_text : Bool → List ℕ
no_text false = codes " "
no_text true = codes " no "

-- the line of a node
abbrev pub play_line : Move → Bool → ℕ → Pieces
play_line m other k = codes "play " ∷ move_text m ∷ no_text other ∷ number_text k ∷ []

-- the line of an edge
abbrev pub on_line : Dialect → Key → Pieces
on_line d key = codes "on " ∷ words_text d key.0 ∷ codes " / " ∷ words_text d key.1 ∷ []

abbrev mutual
  -- its own line, the node for the illegal case, and the edges
  pub node_lines : Dialect → NodeTree → List Pieces
  node_lines d (Try m other es) = play_line m (is_just other) (edge_count es) ∷ (other_lines d other ++ edges_lines d es)

  -- the lines of the tree for the illegal case
  pub other_lines : Dialect → Maybe Move Key → List Pieces
  other_lines d Nothing = []
  other_lines d (Just n) = node_lines d n

  -- each edge has its line and its node
  pub edges_lines : Dialect → Edges Move Key → List Pieces
  edges_lines d NoEdges = []
  edges_lines d (Edge key n es) = on_line d key ∷ (node_lines d n ++ edges_lines d es)

-- each of a list of branches has its line and its node
abbrev pub branches_lines : {K : Type 0} → (K → Pieces) → Dialect → List (K × NodeTree) → List Pieces
branches_lines line d [] = []
branches_lines line d (b ∷ bs) = line b.0 ∷ (node_lines d b.1 ++ branches_lines line d bs)

-- ---- what can be written

-- words that can be said, and that the dialect can tell
abbrev pub IsToldIn : Dialect → Said → Type 0
IsToldIn d w = IsSaid w × Fits d w

-- both words of the key can be told in the dialect
abbrev pub IsToldKey : Dialect → Key → Type 0
IsToldKey d key = IsToldIn d key.0 × IsToldIn d key.1

abbrev mutual
  -- in it and below it every move is one of the board, and all words can be told
  pub IsTold : Dialect → NodeTree → Type 0
  IsTold d (Try m other es) = IsOnBoard m × IsToldOther d other × AreTold d es

  -- and those of the tree for the illegal case
  pub IsToldOther : Dialect → Maybe Move Key → Type 0
  IsToldOther d Nothing = Unit {0}
  IsToldOther d (Just n) = IsTold d n

  -- and those of these edges and of what stands behind them
  pub AreTold : Dialect → Edges Move Key → Type 0
  AreTold d NoEdges = Unit {0}
  AreTold d (Edge key n es) = IsToldKey d key × IsTold d n × AreTold d es

-- the same of a list of branches, whose keys can be told
abbrev pub AreToldBranches : {K : Type 0} → (K → Type 0) → Dialect → List (K × NodeTree) → Type 0
AreToldBranches Told d [] = Unit {0}
AreToldBranches Told d (b ∷ bs) = Told b.0 × IsTold d b.1 × AreToldBranches Told d bs
