use Rattle.std.proofs.Common.{rules, ◌≡◌, inl, ◌<◌, length, take, drop, ◌++◌, [], ◌∷◌, sym, subst, ap, ◌∙◌, append_assoc, arith, length-take, length-drop}
use Rattle.krieg_text.proofs.Common.{lines, lines_back, HaveBytes}
use Rattle.krieg_text.proofs.LineCuts.{length_lines_le}
use Rattle.krieg_text.proofs.OwnedLines.{back_last, bytes_more}
use Rattle.krieg_text.proofs.owned_cursor.OwnedCursor.new.Goals as goal

pub loop-begin-preserved : goal.loop-begin-preserved
loop-begin-preserved c =
    let i = c.in-Some.begin in
    let text = c.loop-begin.piece.items in
    let later = c.loop-begin.later.items in
    let end = c.in_ok-cut_off.field-0 in
    let some : 0 < i = search rules in
    let lt : i < length text = search rules in
    let parts : lines text ≡ lines (take i text) ++ lines (drop i text) = search rules in
    let front : c.cut_off.new.text.items ≡ take i text = search rules in
    let back : end.items ≡ drop i text = search rules in
    let pushed : c.push.new.self.items ≡ later ++ end ∷ [] = search rules in
    let bytes : 0 < length end.items = omega (arith, lt, ap length back, length-drop i text) in
    record {
      same =
          ap (λ t. lines t ++ lines_back c.push.new.self.items) front ∙ ap (λ t. lines (take i text) ++ t) (ap lines_back pushed ∙ back_last later end ∙ ap (λ t. lines t ++ lines_back later) back)
          ∙ sym (append_assoc (lines (take i text)) (lines (drop i text)) (lines_back later)) ∙ ap (λ t. t ++ lines_back later) (sym parts) ∙ c.loop-begin.invariant.same;
      some = inl (omega (arith, some, lt, ap length front, length-take i text));
      bytes = subst HaveBytes (sym pushed) (bytes_more later end c.loop-begin.invariant.bytes bytes);
    }

pub invariant_of-result : goal.invariant_of-result
invariant_of-result c = (omega arith, c.loop-begin.invariant.some, c.loop-begin.invariant.bytes, omega (arith, ap length c.loop-begin.invariant.same, length_lines_le c.args.text.items, c.args.text.ok, c.args.text.small))
