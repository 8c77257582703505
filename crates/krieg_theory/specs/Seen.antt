-- Mate by a player who sees the position. No sets, no trees, nothing heard.
use Rattle.std.specs.Prelude.{ℕ, zero, suc, Bool, false, not, ◌&&◌, List}
use Rattle.std.specs.List.{list_all, list_any}
use Rattle.krieg_theory.specs.Game.{Game}
use Rattle.krieg_theory.specs.Split.{given}

module _ (G : Game) where
  -- the legal try mates, or does not stalemate and leaves after each reply a position that passes
  abbrev pub mates_with : (G.Position → Bool) → G.Position → G.Move → Bool
  mates_with less p t = G.legal p t && (not (G.stalemates p t) && list_all (λ o. less o.1) (G.outcomes p t))

  -- with full information the position is a mate within j own moves
  abbrev pub sees : ℕ → G.Position → Bool
  sees zero p = false
  sees (suc j) p = list_any (mates_with (sees j) p) G.moves

  -- in the position the try is legal, and some reply leads to one that is no mate within j even so
  abbrev pub escapes : ℕ → G.Move → G.Position → Bool
  escapes j t p = list_any (λ o. not (sees j o.1)) (given G t p)

  -- there is such a member
  abbrev pub escapes_in_some : ℕ → List G.Position → G.Move → Bool
  escapes_in_some j B t = list_any (escapes j t) B
