-- What keeps a king safe from the men that attack him.
use Rattle.std.specs.Prelude.{ℕ, Bool, ◌≡◌, ◌<◌, true, not, ◌&&◌, ◌||◌, ◌==◌}
use Rattle.krieg_board.specs.Men.{other}
use Rattle.krieg_board.specs.Squares.{every_square}
use Rattle.krieg_board.specs.Board.{Board, man_at, is_of, is_man}
use Rattle.krieg_board.specs.Attacks.{attacks, is_between}
use Rattle.krieg_board.specs.Pos.{Pos}
use Rattle.krieg_board.specs.Sets.{has}
use Rattle.krieg_board.specs.declared.men.Side.{Side}
use Rattle.krieg_board.specs.declared.men.Kind.TheVariants.{King}
use Rattle.krieg_rays.specs.Pinned.{is_pinned}
use Rattle.krieg_moves.specs.declared.guard.Guard.{Guard}

-- a man who arrives on t captures the man on s, or comes to stand between him and k
abbrev pub answers : ℕ → ℕ → ℕ → Bool
answers s k t = t == s || is_between s k t

-- a man who arrives on t answers each of these attackers of k
unfoldable pub answers_all : ℕ → ℕ → ℕ → Bool
answers_all attackers k t = every_square (λ s. not (has attackers s) || answers s k t)

-- a man who arrives on t answers each attack of that side on k
unfoldable pub is_answered : Board → Side → ℕ → ℕ → Bool
is_answered b by k t = every_square (λ s. not (is_of by (man_at b s) && attacks b s k) || answers s k t)

-- the guard of the king of the side to move: where he stands, who attacks him, who is pinned, and where the attacks on him are answered
pub record IsGuard (p : Pos) (g : Guard) : Type 0 where
  pub inside : g.king < 64
  pub king : is_man p.side King (man_at p.board g.king) ≡ true
  pub checkers : (k : ℕ) → k < 64 → has g.checkers k ≡ (is_of (other p.side) (man_at p.board k) && attacks p.board k g.king)
  pub pinned : (k : ℕ) → k < 64 → has g.pinned k ≡ is_pinned p.board p.side k
  pub answers : (t : ℕ) → t < 64 → has g.answers t ≡ is_answered p.board (other p.side) g.king t
