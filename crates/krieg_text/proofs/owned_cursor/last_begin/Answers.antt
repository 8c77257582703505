use Rattle.std.proofs.Common.{rules, ◌≡◌, ◌<◌, ◌+◌, length, take, get_or, sym, ◌∙◌, arith, length-take}
use Rattle.std.proofs.lemmas.List.{get_or-take}
use Rattle.krieg_text.proofs.OwnedLines.{lines_parts}
use Rattle.krieg_text.proofs.owned_cursor.last_begin.Goals as goal

pub returns : goal.returns
returns c =
    let text = c.args.text.now in
    let most = c.in_ok-most.most in
    let end = c.in_ok-end.end in
    let lt : end + 1 < length text = search rules in
    let within : end < length (take most text) = search rules in
    let is : get_or (take most text) end 0 ≡ 10 = search rules in
    (omega arith, lt, lines_parts text end (omega (arith, lt)) (sym (get_or-take most text end 0 (omega (arith, within, length-take most text))) ∙ is))
