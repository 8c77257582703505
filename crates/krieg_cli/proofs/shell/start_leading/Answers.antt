use Rattle.std.proofs.Common.{map, arith}
use Rattle.std.proofs.lemmas.Grind.{common_steps}
use Rattle.std.specs.Prelude.{string_bytes}
use Rattle.krieg_args.specs.Command.{command_of, find_of}
use Rattle.krieg_cli.proofs.Starting.{starts_leading}
use Rattle.krieg_cli.proofs.shell.start_leading.Goals as goal

pub returns-in-Krieg : goal.returns-in-Krieg
returns-in-Krieg g c =
    rw c.in-Krieg.is
    (starts_leading (command_of (map string_bytes c.args.call.now.words.now)) g.P.Players.made c.args.tries.now c.args.told.now
    c.into_dyn_box-opponent.result _ _ _ _ _
    (grind (arith, common_steps, c.push.ensures.items, c.new-bench.ensures.white)) c.new-bench.ensures.white_out c.new-bench.ensures.black c.new-bench.ensures.black_out c.know_player.ensures c.run.ensures.ends)

pub returns : goal.returns
returns g c =
    rw c.in-Find.is
    (starts_leading (find_of (map string_bytes c.args.call.now.words.now)) g.P.Players.made c.args.tries.now c.args.told.now
    c.into_dyn_box-opponent.result _ _ _ _ _
    (grind (arith, common_steps, c.push.ensures.items, c.new-bench.ensures.white)) c.new-bench.ensures.white_out c.new-bench.ensures.black c.new-bench.ensures.black_out c.know_player.ensures c.run_find.ensures.ends)
