use Rattle.std.proofs.Common.{rules, ◌<◌, length, drop, ◌++◌, ap, ◌∙◌, arith, length-drop}
use Rattle.krieg_text.proofs.Common.{lines, Place, ended, lines_back}
use Rattle.krieg_text.proofs.ReadingLemmas.{ended_some}
use Rattle.krieg_text.proofs.OwnedLines.{left_some}
use Rattle.krieg_text.proofs.owned_cursor.OwnedCursorLineSource.end.Goals as goal

pub returns-then-self-len : goal.returns-then-self-len
returns-then-self-len c =
    let inside = c.self.inside in
    let rest = drop inside.at inside.piece.items in
    let lt : inside.at < length inside.piece.items = search rules in
    let other = left_some rest (lines_back inside.later.items) (omega (arith, lt, length-drop inside.at inside.piece.items)) in
    ended_some tt inside.number (lines rest ++ lines_back inside.later.items) other ∙ ap (λ (p : Place). ended tt p.number p.left) c.self.view_is
