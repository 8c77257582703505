-- What is known of positions, and how many looks are left.
use Rattle.std.specs.Prelude.{◌≡◌, ℕ, ◌<◌, true, false, List}
use Rattle.krieg_board.specs.Pos.{Pos}
use Rattle.krieg_theory.specs.Sets.{In}
use Rattle.krieg_sight.specs.declared.told.Told.{Told}
use Rattle.krieg_nets.specs.Seen.{leaves_none, mates_within}

-- each position with what is told of it
abbrev pub Memo : Type 0
Memo = List (Pos × Told)

-- the numbers within which it is told that there is no mate, and that some move leaves none, are right; nothing is claimed of the others
pub record IsRight (p : Pos) (told : Told) : Type 0 where
  pub none : mates_within told.none p ≡ false
  pub fled : 0 < told.fled → leaves_none told.fled p ≡ true

-- all that is told is right
abbrev pub AreRight : Memo → Type 0
AreRight m = (e : Pos × Told) → In e m → IsRight e.0 e.1

-- what a sight holds: what is told of positions, and how many looks are left
pub record SightState : Type 0 where
  pub told : Memo
  pub left : ℕ
