-- A game that is small enough to work by hand: eleven positions and four tries, all of them numbers.
use Rattle.std.specs.Prelude.{ℕ, Bool, true, false, ◌&&◌, ◌==◌, ◌||◌, nat_lt, List, [], ◌∷◌, slice_index_or}
use Rattle.krieg_theory.specs.Tree.{Tree, Try, Nothing, Just, NoEdges, Edge}
use Rattle.krieg_theory.specs.Game.{Game}
use Rattle.krieg_theory.specs.Plans.{Outset}

-- what the umpire makes of a try
pub data Verdict : Type 0 where
  Illegal : Verdict
  Mate : Verdict
  Stalemate : Verdict
  -- for each reply, what is heard and the position after it
  Replies : List (ℕ × ℕ) → Verdict

-- a row for each position, and in it a verdict for each of the tries 0 to 3
abbrev pub verdicts : List (List Verdict)
verdicts =
    (Mate ∷ Illegal ∷ Stalemate ∷ Replies ((0, 5) ∷ []) ∷ [])
    ∷ (Illegal ∷ Mate ∷ Replies ((0, 0) ∷ []) ∷ Illegal ∷ [])
    ∷ (Replies ((0, 0) ∷ (1, 1) ∷ []) ∷ Illegal ∷ Stalemate ∷ Illegal ∷ [])
    ∷ (Illegal ∷ Replies ((0, 0) ∷ (0, 1) ∷ []) ∷ Illegal ∷ Illegal ∷ [])
    ∷ (Stalemate ∷ Illegal ∷ Replies ((3, 2) ∷ (0, 0) ∷ []) ∷ Illegal ∷ [])
    -- in 5 the player has no legal try, and in 6 and 7 the opponent is to move
    ∷ []
    ∷ []
    ∷ []
    ∷ (Illegal ∷ Mate ∷ Mate ∷ Illegal ∷ [])
    ∷ (Replies ((4, 9) ∷ []) ∷ Illegal ∷ Illegal ∷ Illegal ∷ [])
    ∷ (Illegal ∷ Replies ((0, 0) ∷ []) ∷ Mate ∷ Illegal ∷ [])
    ∷ []

-- what becomes of a try in a position of the toy game
abbrev pub verdict : ℕ → ℕ → Verdict
verdict p t = slice_index_or (slice_index_or verdicts p []) t Illegal

-- the try is legal
abbrev pub is_legal : Verdict → Bool
is_legal Illegal = false
is_legal Mate = true
is_legal Stalemate = true
is_legal (Replies os) = true

-- the try stalemates
abbrev pub is_stalemate : Verdict → Bool
is_stalemate Illegal = false
is_stalemate Mate = false
is_stalemate Stalemate = true
is_stalemate (Replies os) = false

-- what is heard and where the game stands after each reply
abbrev pub replies : Verdict → List (ℕ × ℕ)
replies Illegal = []
replies Mate = []
replies Stalemate = []
replies (Replies os) = os

-- a game of eleven positions and four tries, all by number
abbrev pub toy : Game
toy = record {
  Position = ℕ;
  Move = ℕ;
  Key = ℕ;
  moves = 0 ∷ 1 ∷ 2 ∷ 3 ∷ [];
  legal = λ p t. nat_lt t 4 && is_legal (verdict p t);
  stalemates = λ p t. is_stalemate (verdict p t);
  outcomes = λ p t. replies (verdict p t);
  position_lt = nat_lt;
  move_lt = nat_lt;
  key_lt = nat_lt;
}

-- A row for each position. The opponent has three moves in 6, two of which sound alike, and none in 7.
abbrev pub first_heard : List (List (ℕ × ℕ))
first_heard =
    ((0, 0) ∷ [])
    ∷ ((0, 1) ∷ [])
    ∷ ((0, 2) ∷ [])
    ∷ ((0, 3) ∷ [])
    ∷ ((9, 4) ∷ [])
    ∷ ((0, 5) ∷ [])
    ∷ ((1, 0) ∷ (1, 1) ∷ (2, 2) ∷ [])
    ∷ []
    ∷ ((0, 8) ∷ [])
    ∷ ((0, 9) ∷ [])
    ∷ ((0, 10) ∷ [])
    ∷ []

-- how it begins: what is heard first, and whose turn it is
abbrev pub toy_start : Outset toy
toy_start = record {
  Root = ℕ;
  starts = λ p. slice_index_or first_heard p [];
  waits = λ p. (p == 6) || (p == 7);
  root_lt = nat_lt;
}

-- a node of its plans
abbrev pub Node : Type 0
Node = Tree ℕ ℕ

-- a try with nothing planned after it
abbrev pub only : ℕ → Node
only t = Try t Nothing NoEdges

-- a try, and another one if it is illegal
abbrev pub or_else : ℕ → Node → Node
or_else t n = Try t (Just n) NoEdges

-- the tree for the position 2: what is heard decides
abbrev pub by_ear : Node
by_ear = Try 0 Nothing (Edge 0 (only 0) (Edge 1 (only 1) NoEdges))
