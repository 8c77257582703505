-- A game in which the player does not see the position, and tries moves until the umpire allows one.
use Rattle.std.specs.Prelude.{◌≡◌, Bool, true, List}
use Rattle.krieg_theory.specs.Sets.{In, IsOrder, Ascending}

-- The operations. A position is one in which the player is to move.
pub record Game : Type 1 where
  pub Position : Type 0
  pub Move : Type 0
  -- what is heard between two own turns: of the own move and of the reply to it
  pub Key : Type 0
  -- every move that can be tried, in order
  pub moves : List Move
  pub legal : Position → Move → Bool
  -- the legal try leaves the opponent without a reply, and not mated
  pub stalemates : Position → Move → Bool
  -- for each reply to the legal try: what is heard, and the position after the reply
  pub outcomes : Position → Move → List (Key × Position)
  pub position_lt : Position → Position → Bool
  pub move_lt : Move → Move → Bool
  pub key_lt : Key → Key → Bool

-- The laws that the operations must meet.
pub record IsGame (G : Game) : Type 0 where
  pub listed : (p : G.Position) (t : G.Move) → G.legal p t ≡ true → In t G.moves
  pub in_order : Ascending G.move_lt G.moves
  pub position_order : IsOrder G.position_lt
  pub move_order : IsOrder G.move_lt
  pub key_order : IsOrder G.key_lt
