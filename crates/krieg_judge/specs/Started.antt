-- What comes of the listed positions before the first own turn.
use Rattle.std.specs.Prelude.{◌≡◌, ◌↔◌, ℕ, ◌≤◌, Bool, not, ◌&&◌, List, map, length, if◌then◌else◌}
use Rattle.std.specs.List.{list_all}
use Rattle.krieg_board.specs.Pos.{Pos}
use Rattle.krieg_theory.specs.Sets.{In}
use Rattle.krieg_theory.specs.Plans.{is_over}
use Rattle.krieg_game.specs.Chess.{chess}
use Rattle.krieg_game.specs.Keys.{RootKey, root_lt}
use Rattle.krieg_game.specs.Outset.{outset, starts, waits}
use Rattle.krieg_plan.specs.Trees.{NodeTree}
use Rattle.krieg_strategy.specs.Roots.{root_of}
use Rattle.krieg_strategy.specs.declared.strategy.Strategy.{Strategy}
use Rattle.krieg_strategy.specs.declared.limits.TheConstants.{MOST_WORST}
use Rattle.krieg_judge.specs.Reach.{first_at, first_pairs}
use Rattle.krieg_judge.specs.Demands.{Adds, enough, waiting}
use Rattle.krieg_judge.specs.Steps.{link_held}
use Rattle.krieg_judge.specs.declared.findings.Findings.{Findings}

module _ (s : Strategy) where
  -- the roots: their keys, and the numbers that they lead to
  abbrev pub root_links : List (RootKey × ℕ)
  root_links = map root_of s.roots.items

  -- something can start in the position, and each start is won at the root with its key
  abbrev pub starts_held : List NodeTree → ℕ → Pos → Bool
  starts_held trees k p =
      not (is_over (chess s.dialect) (outset s.dialect s.side) p)
      && list_all (link_held s.dialect root_lt root_links 0 trees k) (starts s.dialect s.side p)

  -- one unit for each first move of the opponent
  abbrev pub start_cost : Pos → ℕ
  start_cost p = if waits s.side p then length (starts s.dialect s.side p) else 0

  -- what comes first of a position
  abbrev pub first_of : Pos → List (ℕ × Pos)
  first_of p = first_at (chess s.dialect) (outset s.dialect s.side) s.nodes root_links p

  -- what comes first of all positions of a list
  abbrev pub first_of_all : List Pos → List (ℕ × Pos)
  first_of_all B = first_pairs (chess s.dialect) (outset s.dialect s.side) s.nodes root_links B

  -- the position is to be won, however it starts
  abbrev pub StartAdds : Pos → Findings → Findings → Type 0
  StartAdds p old new =
      (trees : List NodeTree) → Adds s.dialect trees old new (λ k. starts_held trees k p) (first_of p)

  -- all positions of a list are, and nothing else
  pub record AreStarted (B : List Pos) (found : Findings) : Type 0 where
    pub enough_part : (trees : List NodeTree) (k : ℕ) → k ≤ MOST_WORST →
        enough s.dialect trees found k ≡ list_all (starts_held trees k) B
    pub pairs_part : (y : ℕ × Pos) → In y (waiting found) ↔ In y (first_of_all B)
