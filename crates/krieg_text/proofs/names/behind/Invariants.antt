use Rattle.std.proofs.Common.{◌≡◌, drop}
use Rattle.krieg_text.specs.Names.{behind}
use Rattle.krieg_text.proofs.names.behind.Given as goal

abbrev pub invariant-loop-byte : goal.invariant-loop-byte
invariant-loop-byte l = behind l.name l.text ≡ behind (drop l.byte-index l.name) l.rest
