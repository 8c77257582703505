-- What comes of outcomes and of nodes, as demands.
use Rattle.std.specs.Prelude.{ℕ, ◌-◌, Bool, List, length, flat_map}
use Rattle.std.specs.List.{list_all}
use Rattle.krieg_board.specs.Pos.{Pos}
use Rattle.krieg_board.specs.declared.men.Move.{Move}
use Rattle.krieg_moves.specs.After.{after}
use Rattle.krieg_words.specs.Words.{Said}
use Rattle.krieg_words.specs.WordsOfMoves.{words}
use Rattle.krieg_words.specs.ToldWords.{told}
use Rattle.krieg_words.specs.declared.dialects.Dialect.{Dialect}
use Rattle.krieg_theory.specs.Wins.{wins, wins_other}
use Rattle.krieg_game.specs.Chess.{chess}
use Rattle.krieg_game.specs.Keys.{Key}
use Rattle.krieg_plan.specs.Trees.{NodeTree}
use Rattle.krieg_strategy.specs.Nodes.{Node, first_to}
use Rattle.krieg_strategy.specs.Unfolded.{led_to, tree_on}
use Rattle.krieg_strategy.specs.WellFormed.{IsBelow}
use Rattle.krieg_judge.specs.Reach.{pair_at, next_at}
use Rattle.krieg_judge.specs.Demands.{Adds}
use Rattle.krieg_judge.specs.declared.findings.Findings.{Findings}

module _ {K : Type 0} (d : Dialect) (lt : K → K → Bool) (links : List (K × ℕ)) (done : ℕ) where
  -- the tree at the first link with the key wins the position
  abbrev pub link_held : List NodeTree → ℕ → K × Pos → Bool
  link_held trees k o = wins_other (chess d) (led_to trees (first_to lt links o.0)) o.1 (k - done)

  -- outcomes are to be won at their links
  abbrev pub LinksAdd : Findings → Findings → List (K × Pos) → Type 0
  LinksAdd old new os =
      (trees : List NodeTree) → Adds d trees old new (λ k. list_all (link_held trees k) os)
      (flat_map (λ o. pair_at (chess d) (first_to lt links o.0) o.1) os)

-- what is told of a reply behind words that were told, and the position after it
abbrev pub heard_after : Dialect → Said → Pos → Move → Key × Pos
heard_after d own q r = ((own, told d (words q r)), after q r)

-- the position is to be won by the node, after so many own moves
abbrev pub NodeAdds : Dialect → Node Move Key → ℕ → Pos → Findings → Findings → Type 0
NodeAdds d n done p old new =
    (trees : List NodeTree) → IsBelow (length trees) n →
    Adds d trees old new (λ k. wins (chess d) (tree_on trees n) p (k - done)) (next_at (chess d) n p)
