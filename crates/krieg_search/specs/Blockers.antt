-- What blocked tries of sets when they were split last.
use Rattle.std.specs.Prelude.{◌≡◌, ℕ, ◌-◌, ◌<◌, Bool, true, false, List, length, if◌then◌else◌}
use Rattle.krieg_board.specs.Pos.{Pos}
use Rattle.krieg_board.specs.declared.men.Move.{Move}
use Rattle.krieg_words.specs.declared.dialects.Dialect.{Dialect}
use Rattle.krieg_theory.specs.Sets.{In, is_nil}
use Rattle.krieg_theory.specs.Split.{refused, keys, class}
use Rattle.krieg_costs.specs.Cost.{made}
use Rattle.krieg_game.specs.Keys.{Key}
use Rattle.krieg_game.specs.Chess.{chess}
use Rattle.krieg_table.specs.SetRows.{SetRows, set_at}
use Rattle.krieg_search.specs.declared.blockers.Blocker.{Blocker}

-- with how many moves a part is to be won where the try is to win with j
abbrev pub moves_for : Bool → ℕ → ℕ
moves_for refuses j = if refuses then j else j - 1

module _ (d : Dialect) where
  -- the part is what the try leaves of the set: the members that refuse it, or the class of something that may be heard
  abbrev pub IsPart : List Pos → Move → Bool → List Pos → Type 0
  IsPart B t true X = (X ≡ refused (chess d) B t) × (is_nil X ≡ false)
  IsPart B t false X = (key : Key) × In key (keys (chess d) B t) × (X ≡ class (chess d) B t key)

-- tries may be cut, and this is a part of the set, which has a number too; the split of the try takes so many units
pub record IsBlocker (d : Dialect) (cut : Bool) (T : SetRows) (b : Blocker) : Type 0 where
  pub may : cut ≡ true
  pub within : b.set < length T
  pub part_within : b.part < length T
  pub part : IsPart d (set_at T b.set) b.mv b.refuses (set_at T b.part)
  pub made : b.made ≡ made (chess d) (set_at T b.set) b.mv

-- each of them is
abbrev pub AreBlockers : Dialect → Bool → SetRows → List Blocker → Type 0
AreBlockers d cut T bs = (b : Blocker) → In b bs → IsBlocker d cut T b
