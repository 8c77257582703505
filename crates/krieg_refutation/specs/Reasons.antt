-- What is found of claims.
use Rattle.std.specs.Prelude.{ℕ, ◌≤◌, ◌&&◌, Bool, true, List, [], ◌∷◌, map, if◌then◌else◌}
use Rattle.std.specs.List.{list_all, list_any}
use Rattle.std.specs.Ordering.{is_eq}
use Rattle.krieg_board.specs.Pos.{Pos}
use Rattle.krieg_board.specs.declared.men.Move.{Move}
use Rattle.krieg_board.specs.declared.men.Side.{Side}
use Rattle.krieg_words.specs.Words.{Said, words_cmp}
use Rattle.krieg_words.specs.WordsOfMoves.{opening}
use Rattle.krieg_words.specs.ToldWords.{told}
use Rattle.krieg_words.specs.declared.dialects.Dialect.{Dialect}
use Rattle.krieg_pack.specs.Order.{position_lt}
use Rattle.krieg_theory.specs.Sets.{same}
use Rattle.krieg_theory.specs.Plans.{openings, opening_set}
use Rattle.krieg_costs.specs.Refutation.{Reason, Claim, holds, is_within}
use Rattle.krieg_game.specs.Keys.{Key, key_lt}
use Rattle.krieg_game.specs.Chess.{chess}
use Rattle.krieg_game.specs.Outset.{outset}
use Rattle.krieg_board.specs.Order.{move_lt}
use Rattle.krieg_costs.specs.Cost.{made}
use Rattle.krieg_split.specs.Tallies.{AreTallies}
use Rattle.krieg_split.specs.declared.tallies.Tally.{Tally}
use Rattle.krieg_refutation.specs.Refutations.{claims_of, reason_of}
use Rattle.krieg_refutation.specs.declared.denial.PlacedClaim.{PlacedClaim}

-- the set that stands in a list of classes under a key: nothing where none does
abbrev pub class_in : List (Key × List Pos) → Key → List Pos
class_in [] key = []
class_in (c ∷ cs) key = if same key_lt c.0 key then c.1 else class_in cs key

-- the words are told of the position at the start
abbrev pub opens_with : Dialect → Said → Pos → Bool
opens_with d w p = is_eq (words_cmp (told d (opening p)) w)

-- the set is within one of the opening sets of a list
abbrev pub within_opening : Dialect → Side → List Pos → List Pos → Bool
within_opening d who S X = list_any (λ key. is_within position_lt X (opening_set (chess d) (outset d who) S key)) (openings (chess d) (outset d who) S)

module _ (d : Dialect) (before : List (Claim (chess d))) (j : ℕ) (B : List Pos) (t : Move) where
  -- the reason, where it is one for this try, holds at the number j + 1
  abbrev pub holds_if_own : Move × Reason Key → Bool
  holds_if_own r = if same move_lt r.0 t then holds (chess d) before j B t r.1 else true

  -- there is a reason for the try, and each one holds
  abbrev pub try_holds : List (Move × Reason Key) → Bool
  try_holds rs = list_any (λ r. same move_lt r.0 t) rs && list_all holds_if_own rs

-- the try, where one move more than the number is left, does not begin to win the claim's set, by the reasons that the claim has for it
abbrev pub holds_at : ℕ → PlacedClaim → Move → Bool
holds_at j c t = try_holds c.dialect (claims_of c.dialect c.before.now) j c.claim.now.set t (map reason_of c.claim.now.reasons.items)

-- what the split of the claim's set by the try takes
abbrev pub price_at : PlacedClaim → Move → ℕ
price_at c t = made (chess c.dialect) c.claim.now.set t

-- one move is left, and these are the tallies of all tries of the claim's set
abbrev pub AreLast : PlacedClaim → List Tally → Type 0
AreLast c ys = (c.claim.now.moves ≤ 1) × AreTallies c.claim.now.set c.claim.now.set ys
