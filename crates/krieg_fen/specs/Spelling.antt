-- Which texts spell a position: the grammar of its fields, without a reader.
use Rattle.std.specs.Prelude.{◌≡◌, ℕ, zero, suc, true, List, [], ◌∷◌, Some}
use Rattle.std.specs.List.{join_with_byte}
use Rattle.krieg_board.specs.Board.{Board}
use Rattle.krieg_board.specs.Pos.{Pos}
use Rattle.krieg_board.specs.Validity.{IsValid}
use Rattle.krieg_fen.specs.Ranks.{row_of}
use Rattle.krieg_fen.specs.Fields.{is_clock}
use Rattle.krieg_fen.specs.FenText.{rank_at, side_text, rights_text, mark_text}

-- n texts, each of which spells the eight squares of a rank, from the highest of the n lowest ranks to the first
abbrev pub SpellRanks : List (List ℕ) → ℕ → Board → Type 0
SpellRanks [] zero board = Unit {0}
SpellRanks (r ∷ rs) (suc n) board = (row_of r ≡ Some (rank_at board n)) × SpellRanks rs n board
SpellRanks _ _ board = ⊥

-- eight ranks joined by `/`
pub record SpellsBoard (field : List ℕ) (board : Board) : Type 0 where
  pub ranks : List (List ℕ)
  pub joined : field ≡ join_with_byte 47 ranks
  pub spelled : SpellRanks ranks 8 board

-- no clocks, or two of one to ten digits each
abbrev pub AreClocks : List (List ℕ) → Type 0
AreClocks [] = Unit {0}
AreClocks (half ∷ full ∷ []) = (is_clock half ≡ true) × (is_clock full ≡ true)
AreClocks _ = ⊥

-- The board, the side to move, the rights, the mark and the clocks, joined by spaces, of a position that is
-- valid. The first field has many spellings, the next three have one each, and the clocks say nothing of it.
pub record Spells (text : List ℕ) (p : Pos) : Type 0 where
  pub board : List ℕ
  pub clocks : List (List ℕ)
  pub joined : text ≡ join_with_byte 32 (board ∷ side_text p.side ∷ rights_text p.rights ∷ mark_text p.mark ∷ clocks)
  pub is_board : SpellsBoard board p.board
  pub are_clocks : AreClocks clocks
  pub is_valid : IsValid p
