-- A king who is alone steps to an empty square: what comes of it is the same wherever he comes from.
use Rattle.std.specs.Prelude.{◌≡◌, ◌<◌, ℕ, true, List, Some, None, IfSome, slice_set}
use Rattle.krieg_board.specs.Board.{man_at}
use Rattle.krieg_board.specs.Boards.{board_of}
use Rattle.krieg_board.specs.Men.{no_rights, other}
use Rattle.krieg_board.specs.Pos.{Pos}
use Rattle.krieg_board.specs.Sets.{has}
use Rattle.krieg_board.specs.declared.bits.Sets.{Sets}
use Rattle.krieg_board.specs.declared.men.Kind.TheVariants.{King}
use Rattle.krieg_board.specs.declared.men.Man.{Man}
use Rattle.krieg_board.specs.declared.men.Rights.{Rights}
use Rattle.krieg_board.specs.declared.men.Side.{Side}
use Rattle.krieg_moves.specs.Wings.{king_square}
use Rattle.krieg_words.specs.Words.{Said}
use Rattle.krieg_words.specs.ToldWords.{told}
use Rattle.krieg_words.specs.WordsOfMoves.{said}
use Rattle.krieg_words.specs.declared.dialects.Dialect.{Dialect}
use Rattle.krieg_words.specs.declared.words.Took.TheVariants.{Nothing}
use Rattle.krieg_theory.specs.Sets.{In}
use Rattle.krieg_game.specs.Outcomes.{KeyedPosition}
use Rattle.krieg_game.specs.declared.steps.Before.{Before}
use Rattle.krieg_game.specs.declared.steps.Steps.{Steps}

-- the king of that side
abbrev pub king_of : Side → Man
king_of side = record { side = side; kind = King }

-- he is to move and stands on that square, where no castling begins, no right is held, no mark stands, and the others stand there
pub record IsKingAt (p : Pos) (king : ℕ) (side : Side) (others : Sets) : Type 0 where
  pub stands : man_at p.board king ≡ Some (king_of side)
  pub away : (king ≡ king_square side) → ⊥
  pub rest : slice_set p.board king None ≡ board_of others
  pub turn : p.side ≡ side
  pub unheld : p.rights ≡ no_rights
  pub unmarked : p.mark ≡ None

-- the position after he stepped to the square
abbrev pub stepped : Side → Sets → ℕ → Pos
stepped side others to = record { board = slice_set (board_of others) to (Some (king_of side)); side = other side; rights = no_rights; mark = None }

-- what comes of a step, behind what was told of the move before
abbrev pub step_outcome : Steps → ℕ → KeyedPosition
step_outcome s to = ((s.before.own, told s.before.dialect (said Nothing (stepped s.side s.others to))), stepped s.side s.others to)

-- what the dialect tells of a move of those words
abbrev pub told_before : Dialect → Said → Before
told_before d own = record { dialect = d; own = told d own }

-- they are the steps in the position, behind what was told of the move before
pub record AreFor (s : Steps) (b : Before) (p : Pos) : Type 0 where
  pub told : IfSome s.king (λ king. s.before ≡ b)
  pub stands : IfSome s.king (λ king. IsKingAt p king s.side s.others)

-- a step to an empty square is kept
pub record IsKept (s : Steps) (to : ℕ) (pool : List KeyedPosition) : Type 0 where
  pub free : man_at (board_of s.others) to ≡ None
  pub there : In (step_outcome s to) pool

-- each step that was made is
abbrev pub AreReached : Steps → List KeyedPosition → Type 0
AreReached s pool = (to : ℕ) → to < 64 → has s.reached to ≡ true → IsKept s to pool
