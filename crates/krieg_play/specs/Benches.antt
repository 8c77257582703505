-- A bench as its two sides.
use Rattle.std.specs.Global.{Global}
use Rattle.std.specs.declared.dyn_box.DynBox.{DynBox}
use Rattle.krieg_play.specs.Teams.{team_of}
use Rattle.krieg_play.specs.Played.{Sides, sides}
use Rattle.krieg_play.specs.declared.bench.Bench.{Bench}
use Rattle.krieg_play.specs.declared.team.Roster.{Roster}

-- the two sides of a bench, whatever seats it holds
abbrev pub bench_sides : {I : Type 0} {F : I → Type 0} → Bench I F → Sides (DynBox I Global F)
bench_sides b = sides (team_of b.white b.white_out) (team_of b.black b.black_out)

-- the two sides of such rosters
abbrev pub roster_sides : {I : Type 0} {F : I → Type 0} → Roster I F → Roster I F → Sides (DynBox I Global F)
roster_sides white black = sides (team_of white.seats white.out) (team_of black.seats black.out)
