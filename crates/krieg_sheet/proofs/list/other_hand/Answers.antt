use Rattle.std.proofs.Common.{◌≡◌, true, ◌<◌, length, rules, arith}
use Rattle.krieg_sheet.proofs.Common.{same_hand}
use Rattle.krieg_sheet.proofs.Hands.{hand_same, valid_more, valid_end}
use Rattle.krieg_sheet.proofs.list.other_hand.Goals as goal

pub loop-i-preserved : goal.loop-i-preserved
loop-i-preserved c =
    let lt : c.loop-i.i < length c.args.behind.now = omega arith in
    let same : same_hand c.args.first.now c.index-behind-i.result c.args.who ≡ true = search rules in
    record {
      value = hand_same c.args.who c.args.first.now c.args.behind.now c.loop-i.i c.index-behind-i.result _ lt c.index-behind-i.is same c.loop-i.invariant.value;
      valid = valid_more c.args.behind.now c.loop-i.i c.index-behind-i.result lt c.index-behind-i.is c.loop-i.invariant.valid c.has_hand_of.ensures.valid;
    }

pub returns-clause-valid : goal.returns-clause-valid
returns-clause-valid c = λ none. valid_end c.args.behind.now c.loop-i.i (omega arith) c.loop-i.invariant.valid
