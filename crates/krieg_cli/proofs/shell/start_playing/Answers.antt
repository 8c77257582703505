use Rattle.std.proofs.Common.{map, arith}
use Rattle.std.proofs.lemmas.Grind.{common_steps}
use Rattle.std.specs.Prelude.{string_bytes}
use Rattle.krieg_args.specs.Command.{command_of}
use Rattle.krieg_cli.proofs.Starting.{starts_playing}
use Rattle.krieg_cli.proofs.shell.start_playing.Goals as goal

pub returns : goal.returns
returns g c =
    starts_playing (command_of (map string_bytes c.args.call.now.words.now)) g.P.Players.made (record { win = c.args.files.now.win.now; wout = c.args.files.now.wout.now; bin = c.args.files.now.bin.now; bout = c.args.files.now.bout.now })
    c.into_dyn_box-white.result c.into_dyn_box-black.result _ _ _ _ _
    (grind (arith, common_steps, c.push.ensures.items, c.new-bench.ensures.white)) c.new-bench.ensures.white_out (grind (arith, common_steps, c.push-else-is_err.ensures.items, c.new-bench.ensures.black)) c.new-bench.ensures.black_out c.know_player.ensures c.know_player-2.ensures c.run-status.ensures.ends
