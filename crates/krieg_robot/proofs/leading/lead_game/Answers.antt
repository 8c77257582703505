use Rattle.std.proofs.Common.{◌∙◌, ap}
use Rattle.krieg_robot.proofs.Common.{opening, told_line, Opens}
use Rattle.krieg_robot.proofs.Beginning.{breaks}
use Rattle.krieg_robot.proofs.leading.lead_game.Goals as goal

pub returns-in-Err : goal.returns-in-Err
returns-in-Err g c =
    breaks
    (record {
      line = c.told_line-line.result;
      fresh_is = c.requires.account;
      position = c.requires.position;
      log = c.requires.log;
      line_is = c.told_line-line.ensures.value ∙ (ap (λ w. told_line c.dialect.result (Opens w)) c.opening.ensures.value ∙ ap (λ d. told_line d (Opens (opening c.args.start.now))) (c.dialect.ensures ∙ ap (λ x. x.dialect) c.guide.ensures));
      tells = c.tell_both.ensures;
    })
    c.in-Err.fault c.in-Err.is
