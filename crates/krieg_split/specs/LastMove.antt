-- What a try makes of a set where one move is left.
use Rattle.std.specs.Prelude.{◌≡◌, true, false, ◌&&◌, ◌||◌, [], List, Option, Some, None}
use Rattle.krieg_board.specs.Pos.{Pos}
use Rattle.krieg_board.specs.declared.men.Move.{Move}
use Rattle.krieg_words.specs.declared.dialects.Dialect.{Dialect}
use Rattle.krieg_theory.specs.Sets.{is_nil}
use Rattle.krieg_theory.specs.Split.{refused, legal_in_some, stale_in_some, keys}
use Rattle.krieg_theory.specs.Can.{can, begins}
use Rattle.krieg_costs.specs.Block.{lives_in_some}
use Rattle.krieg_game.specs.Chess.{chess}

-- in some member the try is legal and does not mate, so with one move left it does not begin to win
pub record SomeLives (d : Dialect) (B : List Pos) (t : Move) : Type 0 where
  pub lives : lives_in_some (chess d) B t ≡ true
  pub fails : begins (chess d) 1 B t ≡ false

-- Wherever it is legal it mates: it stalemates in no member and nothing can be heard after it. What is left are the
-- members that refuse it, and it begins to win just where there are none, or where they can be won.
pub record AllMate (d : Dialect) (B : List Pos) (t : Move) (rest : List Pos) : Type 0 where
  pub refused_part : rest ≡ refused (chess d) B t
  pub none_lives : lives_in_some (chess d) B t ≡ false
  pub none_stale : stale_in_some (chess d) B t ≡ false
  pub no_keys : keys (chess d) B t ≡ []
  pub begins_by_rest : begins (chess d) 1 B t ≡ (legal_in_some (chess d) B t && (is_nil (refused (chess d) B t) || can (chess d) 1 (refused (chess d) B t)))

-- the try lives in some member; or it mates wherever it is legal, and these refuse it
abbrev pub IsLastMove : Dialect → List Pos → Move → Option (List Pos) → Type 0
IsLastMove d B t None = SomeLives d B t
IsLastMove d B t (Some rest) = AllMate d B t rest
