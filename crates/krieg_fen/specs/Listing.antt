-- Listed positions: the lines that spell them, and their written form.
use Rattle.std.specs.Prelude.{◌≡◌, ◌≤◌, ℕ, true, List, [], ◌∷◌, Option, Some, None, Ok, unwrap_or, length}
use Rattle.krieg_board.specs.Pos.{Pos}
use Rattle.krieg_board.specs.Hand.{same_hand}
use Rattle.krieg_board.specs.declared.men.Side.{Side}
use Rattle.krieg_fen.specs.declared.forms.Turn.{Turn}
use Rattle.krieg_fen.specs.Forms.{side_line, side_form, list_line, list_form, position_form, has_turn}
use Rattle.krieg_fen.specs.declared.forms.TheConstants.{MOST_LISTED}
use Rattle.krieg_text.specs.Languages.{Language, One, Times, Any, ◌⨾◌}
use Rattle.krieg_text.specs.FirstBad.{Has}
use Rattle.krieg_fen.specs.Spelling.{Spells}

-- the first position has the turn that is asked for, and each other one has, for that side, the hand of the first
abbrev pub Suits : Turn → Side → Option Pos → Pos → Type 0
Suits turn who None p = has_turn turn who p ≡ true
Suits turn who (Some first) p = same_hand first p who ≡ true

-- each line spells a position, and all have one hand
abbrev pub SpellList : Turn → Side → Option Pos → List (List ℕ) → List Pos → Type 0
SpellList turn who first [] [] = Unit {0}
SpellList turn who first (l ∷ ls) (p ∷ ps) = Spells l p × Suits turn who first p × SpellList turn who (Some (unwrap_or first p)) ls ps
SpellList turn who first _ _ = ⊥

-- Whose text it is, how many positions are listed, and these, at least one and no more than the most, with one hand:
-- only they have more than one spelling.
pub record SpellsListing (turn : Turn) (ls : List (List ℕ)) (who : Side) (ps : List Pos) : Type 0 where
  pub positions : List (List ℕ)
  pub is : ls ≡ side_line who ∷ list_line (length ps) ∷ positions
  pub some : 1 ≤ length ps
  pub few : length ps ≤ MOST_LISTED
  pub spelled : SpellList turn who None positions ps

-- The grammar: the texts of n positions, valid or not.
abbrev pub ListGrammar : ℕ → Language
ListGrammar n = Times n (Has position_form)

-- whose text it is, how many positions are listed, and their texts
abbrev pub ListingGrammar : Language
ListingGrammar = One (Has side_form) ⨾ Any (λ n. One (λ l. list_form l ≡ Ok n) ⨾ ListGrammar n)

-- The written form.

-- the lines before n positions
abbrev pub list_head : Side → ℕ → List (List ℕ)
list_head who n = side_line who ∷ list_line n ∷ []
