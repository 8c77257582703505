-- What was found so far, and what is still to be shown: that the trees of nodes win positions in time.
use Rattle.std.specs.Prelude.{◌≡◌, ◌↔◌, ℕ, ◌-◌, ◌≤◌, Bool, ◌&&◌, List, Option, Some, None, map, max, ◌⊎◌}
use Rattle.std.specs.List.{list_all}
use Rattle.krieg_board.specs.Pos.{Pos}
use Rattle.krieg_words.specs.declared.dialects.Dialect.{Dialect}
use Rattle.krieg_theory.specs.Sets.{In}
use Rattle.krieg_theory.specs.Wins.{wins_other}
use Rattle.krieg_game.specs.Chess.{chess}
use Rattle.krieg_plan.specs.Trees.{NodeTree}
use Rattle.krieg_checker.specs.Needs.{within}
use Rattle.krieg_strategy.specs.Unfolded.{led_to}
use Rattle.krieg_strategy.specs.declared.limits.TheConstants.{MOST_WORST}
use Rattle.krieg_judge.specs.declared.findings.Findings.{Findings}

-- the pairs of a node and a position that wait
abbrev pub waiting : Findings → List (ℕ × Pos)
waiting f = map (λ e. e.0) f.waiting.entries

-- the greater of a number that may be there, and another one
abbrev pub latest : Option ℕ → ℕ → ℕ
latest None n = n
latest (Some m) n = max m n

module _ (d : Dialect) (trees : List NodeTree) where
  -- the tree of the node wins the position within k own moves, those counted that come before it
  abbrev pub held : ℕ → (ℕ × Pos) × ℕ → Bool
  held k x = wins_other (chess d) (led_to trees (Some x.0.0)) x.0.1 (k - x.1)

  -- k own moves are enough for all that was met, and for all that waits
  abbrev pub enough : Findings → ℕ → Bool
  enough f k = within f.need k && list_all (held k) f.waiting.entries

  -- one more test is to hold for k, and these pairs wait too
  pub record Adds (old new : Findings) (more : ℕ → Bool) (pairs : List (ℕ × Pos)) : Type 0 where
    pub enough_part : (k : ℕ) → k ≤ MOST_WORST → enough new k ≡ (more k && enough old k)
    pub pairs_part : (y : ℕ × Pos) → In y (waiting new) ↔ (In y pairs ⊎ In y (waiting old))
