use Rattle.std.proofs.Common.{◌≡◌, ◌*◌, ◌++◌, map, take, drop, length}
use Rattle.krieg_pack.proofs.Common.{man_code, paired}
use Rattle.krieg_pack.proofs.packed.Packed.bytes.Given as goal

abbrev pub invariant-loop-i : goal.invariant-loop-i
invariant-loop-i l = record {
  size : length l.bytes ≡ 35;
  state : drop 32 l.bytes ≡ drop 32 l.initial.bytes;
  done : take l.i l.bytes ++ paired (drop (2 * l.i) (map man_code l.self.board)) ≡ paired (map man_code l.self.board);
}
