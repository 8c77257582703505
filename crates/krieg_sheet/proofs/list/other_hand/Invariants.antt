use Rattle.std.proofs.Common.{◌≡◌, ◌+◌, drop, take}
use Rattle.std.specs.List.{All}
use Rattle.krieg_sheet.proofs.Common.{IsValid, other_hand}
use Rattle.krieg_sheet.proofs.list.other_hand.Given as goal

-- the rest, looked at from here, gives what the whole gives
abbrev pub invariant-loop-i : goal.invariant-loop-i
invariant-loop-i l = record {
  value : other_hand l.who l.first (l.i + 1) (drop l.i l.behind) ≡ other_hand l.who l.first 1 l.behind;
  valid : All IsValid (take l.i l.behind);
}
