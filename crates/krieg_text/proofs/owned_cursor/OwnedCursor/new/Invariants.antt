use Rattle.std.proofs.Common.{◌≡◌, ◌⊎◌, ◌<◌, length, ◌++◌, []}
use Rattle.krieg_text.proofs.Common.{lines, lines_back, HaveBytes}
use Rattle.krieg_text.proofs.owned_cursor.OwnedCursor.new.Given as goal

-- the text that is left and the pieces that were cut off have its lines
abbrev pub invariant-loop-begin : goal.invariant-loop-begin
invariant-loop-begin l = record {
  same : lines l.piece.items ++ lines_back l.later.items ≡ lines l.fn.text.items;
  some : (0 < length l.piece.items) ⊎ (l.later.items ≡ []);
  bytes : HaveBytes l.later.items;
}

abbrev pub decreases-loop-begin : goal.decreases-loop-begin
decreases-loop-begin l = length l.piece.items
