-- The order of positions: by the first of their numbers that differs.
use Rattle.std.specs.Prelude.{Bool}
use Rattle.std.specs.Cmp.Lexicographic.{slice_cmp}
use Rattle.std.specs.Ordering.{nat_cmp, on, is_lt, eq_by_cmp}
use Rattle.std.specs.declared.cmp.Ordering.{Ordering}
use Rattle.krieg_board.specs.Pos.{Pos}
use Rattle.krieg_pack.specs.Codes.{numbers}

-- by the code of each square from a1 to h8, then by rights, mark and side to move
abbrev pub position_cmp : Pos → Pos → Ordering
position_cmp = on numbers (slice_cmp nat_cmp)

-- p stands before q
abbrev pub position_lt : Pos → Pos → Bool
position_lt p q = is_lt (position_cmp p q)

-- all their numbers are the same
abbrev pub position_eq : Pos → Pos → Bool
position_eq = eq_by_cmp position_cmp
