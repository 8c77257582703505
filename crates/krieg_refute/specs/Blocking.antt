-- What blocks a try, as stored results tell it.
use Rattle.std.specs.Prelude.{◌≡◌, ℕ, ◌<◌, false, List, [], ◌∷◌, ◌++◌, Some}
use Rattle.krieg_board.specs.Pos.{Pos}
use Rattle.krieg_board.specs.declared.men.Move.{Move}
use Rattle.krieg_words.specs.declared.dialects.Dialect.{Dialect}
use Rattle.krieg_theory.specs.Sets.{is_nil}
use Rattle.krieg_costs.specs.Block.{block_pair}
use Rattle.krieg_costs.specs.Refutation.{Reason}
use Rattle.krieg_claims.specs.InOrder.{claimed}
use Rattle.krieg_claims.specs.Walks.{behind_try}
use Rattle.krieg_claims.specs.Written as written
use Rattle.krieg_game.specs.Keys.{Key}
use Rattle.krieg_game.specs.Chess.{chess}
use Rattle.krieg_table.specs.SetRows.{SetRows}
use Rattle.krieg_search.specs.declared.notes.Question.{Question}
use Rattle.krieg_search.specs.declared.notes.Block.{Block}
use Rattle.krieg_search.specs.declared.notes.Note.{Note}
use Rattle.krieg_search.specs.Notes.{IsBlock, IsRow}
use Rattle.krieg_search.specs.Openings.{AddsSets}
use Rattle.krieg_refute.specs.Claiming.{IsLost}

module _ (d : Dialect) where
  -- A try of a set at the number i + 1, which is j, is blocked by the pair, which is stored as lost: what is claimed of the pair
  -- is what the try adds, and r is the reason at the place of its claim.
  pub record IsBlockedBy (T : SetRows) (B : List Pos) (t : Move) (i j : ℕ) (q : List Pos × ℕ) (r : ℕ → Reason Key) : Type 0 where
    pub adds : behind_try (chess d) i B t ≡ claimed (chess d) q.1 q.0
    pub pair : block_pair (chess d) j B t ≡ Some q
    pub reason : (qs : List (List Pos × ℕ)) → written.reason_at (chess d) qs j B t ≡ r (written.place_of (chess d) qs q)
    pub lost : IsLost T q.0 q.1
    pub some : is_nil q.0 ≡ false
    pub number : 0 < q.1

  -- only sets may have come to the table, and this blocks the try
  abbrev pub HasBlock : SetRows → SetRows → List Pos → Move → ℕ → Block → Type 0
  HasBlock T T' B t j b = AddsSets T T' × IsBlock d false T' B j t b

  -- the same, and the try is noted with it behind others
  pub record IsNoted (T T' : SetRows) (B : List Pos) (t : Move) (j : ℕ) (ns ns' : List Note) : Type 0 where
    pub block : Block
    pub has : HasBlock T T' B t j block
    pub noted : ns' ≡ ns ++ record { mv = t; block = block } ∷ []

  -- what blocks it, of each try that makes sense in the set
  abbrev pub HasRow : SetRows → SetRows → Question → List Note → Type 0
  HasRow T T' a ns = AddsSets T T' × IsRow d false T' a ns
