use Rattle.std.proofs.Common.{map}
use Rattle.std.specs.Prelude.{string_bytes}
use Rattle.krieg_args.specs.Command.{command_of, find_of}
use Rattle.krieg_cli.proofs.Starting.{starts_alone}
use Rattle.krieg_cli.proofs.shell.start_alone.Goals as goal

pub returns-in-Krieg : goal.returns-in-Krieg
returns-in-Krieg g c =
    rw c.in-Krieg.is
    (starts_alone (command_of (map string_bytes c.args.call.now.words.now)) _ _ _ _ _ c.new-bench.ensures.white c.new-bench.ensures.white_out c.new-bench.ensures.black c.new-bench.ensures.black_out c.run.ensures.ends)

pub returns : goal.returns
returns g c =
    rw c.in-Find.is
    (starts_alone (find_of (map string_bytes c.args.call.now.words.now)) _ _ _ _ _ c.new-bench.ensures.white c.new-bench.ensures.white_out c.new-bench.ensures.black c.new-bench.ensures.black_out c.run_find.ensures.ends)
