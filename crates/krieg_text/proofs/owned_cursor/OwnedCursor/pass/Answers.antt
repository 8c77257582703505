use Rattle.std.proofs.Common.{rules, ◌≡◌, inl, inr, ◌<◌, ◌+◌, length, drop, ◌++◌, [], ◌∷◌, sym, subst, ap, ◌∙◌, arith, length-drop}
use Rattle.std.proofs.lemmas.List.{drop_all}
use Rattle.krieg_text.proofs.Common.{lines, place, lines_back, HaveBytes, behind_line}
use Rattle.krieg_text.proofs.OwnedLines.{have_lines, behind, behind_number, back_last, bytes_last}
use Rattle.krieg_text.proofs.owned_cursor.OwnedCursor.pass.Goals as goal

pub invariant_of-self : goal.invariant_of-self
invariant_of-self c =
    let inside = c.self.inside in
    let next = c.next_begin-self-inside.result in
    let lt : inside.at < length inside.piece.items = search rules in
    let rest : lines (drop next inside.piece.items) ≡ drop 1 (lines (drop inside.at inside.piece.items)) = search rules in
    let some = have_lines (drop inside.at inside.piece.items) (omega (arith, length-drop inside.at inside.piece.items, lt)) in
    let popped : inside.later.items ≡ c.pop.new.self.items ++ c.in-Some.next ∷ [] = search rules in
    let more : lines_back inside.later.items ≡ lines c.in-Some.next.items ++ lines_back c.pop.new.self.items = ap lines_back popped ∙ back_last c.pop.new.self.items c.in-Some.next in
    let none : drop next inside.piece.items ≡ [] = drop_all next inside.piece.items (search rules) in
    let bytes = bytes_last c.pop.new.self.items c.in-Some.next (subst HaveBytes popped c.self.invariant.2) in (
      omega arith,
      inl bytes.1,
      bytes.0,
      omega (arith, c.self.invariant.3, ap (λ t. length (lines t ++ lines_back inside.later.items)) none, ap length more, behind_number inside.number (lines (drop inside.at inside.piece.items)) (lines (drop next inside.piece.items)) (lines_back inside.later.items) some rest),
    )

pub invariant_of-self-in_default : goal.invariant_of-self-in_default
invariant_of-self-in_default c =
    let inside = c.self.inside in
    let next = c.next_begin-self-inside.result in
    let lt : inside.at < length inside.piece.items = search rules in
    let rest : lines (drop next inside.piece.items) ≡ drop 1 (lines (drop inside.at inside.piece.items)) = search rules in
    let some = have_lines (drop inside.at inside.piece.items) (omega (arith, length-drop inside.at inside.piece.items, lt)) in
    let none : c.pop.new.self.items ≡ [] = search rules in
    let same : c.pop.new.self.items ≡ inside.later.items = none ∙ sym (search rules) in (
      search rules,
      inr none,
      subst HaveBytes (sym none) tt,
      omega (arith, c.self.invariant.3, ap (λ t. length (lines (drop next inside.piece.items) ++ lines_back t)) same, behind_number inside.number (lines (drop inside.at inside.piece.items)) (lines (drop next inside.piece.items)) (lines_back inside.later.items) some rest),
    )

pub invariant_of-self-else-self-len-2 : goal.invariant_of-self-else-self-len-2
invariant_of-self-else-self-len-2 c =
    let inside = c.self.inside in
    let next = c.next_begin-self-inside.result in
    let lt : inside.at < length inside.piece.items = search rules in
    let rest : lines (drop next inside.piece.items) ≡ drop 1 (lines (drop inside.at inside.piece.items)) = search rules in
    let some = have_lines (drop inside.at inside.piece.items) (omega (arith, length-drop inside.at inside.piece.items, lt)) in
    (search rules, inl (search rules), c.self.invariant.2, omega (arith, c.self.invariant.3, behind_number inside.number (lines (drop inside.at inside.piece.items)) (lines (drop next inside.piece.items)) (lines_back inside.later.items) some rest))

pub returns-in-Some : goal.returns-in-Some
returns-in-Some c =
    let inside = c.self.inside in
    let next = c.next_begin-self-inside.result in
    let lt : inside.at < length inside.piece.items = search rules in
    let rest : lines (drop next inside.piece.items) ≡ drop 1 (lines (drop inside.at inside.piece.items)) = search rules in
    let some = have_lines (drop inside.at inside.piece.items) (omega (arith, length-drop inside.at inside.piece.items, lt)) in
    let popped : inside.later.items ≡ c.pop.new.self.items ++ c.in-Some.next ∷ [] = search rules in
    let more : lines_back inside.later.items ≡ lines c.in-Some.next.items ++ lines_back c.pop.new.self.items = ap lines_back popped ∙ back_last c.pop.new.self.items c.in-Some.next in
    let none : drop next inside.piece.items ≡ [] = drop_all next inside.piece.items (search rules) in
    ap (place (inside.number + 1)) (sym more ∙ ap (λ t. lines t ++ lines_back inside.later.items) (sym none)) ∙ behind inside.number (lines (drop inside.at inside.piece.items)) (lines (drop next inside.piece.items)) (lines_back inside.later.items) some rest ∙ ap behind_line c.self.view_is

pub returns-in_default : goal.returns-in_default
returns-in_default c =
    let inside = c.self.inside in
    let next = c.next_begin-self-inside.result in
    let lt : inside.at < length inside.piece.items = search rules in
    let rest : lines (drop next inside.piece.items) ≡ drop 1 (lines (drop inside.at inside.piece.items)) = search rules in
    let some = have_lines (drop inside.at inside.piece.items) (omega (arith, length-drop inside.at inside.piece.items, lt)) in
    let none : c.pop.new.self.items ≡ [] = search rules in
    let same : c.pop.new.self.items ≡ inside.later.items = none ∙ sym (search rules) in
    ap (λ t. place (inside.number + 1) (lines (drop next inside.piece.items) ++ lines_back t)) same ∙ behind inside.number (lines (drop inside.at inside.piece.items)) (lines (drop next inside.piece.items)) (lines_back inside.later.items) some rest ∙ ap behind_line c.self.view_is

pub returns-else-self-len-2 : goal.returns-else-self-len-2
returns-else-self-len-2 c =
    let inside = c.self.inside in
    let next = c.next_begin-self-inside.result in
    let lt : inside.at < length inside.piece.items = search rules in
    let rest : lines (drop next inside.piece.items) ≡ drop 1 (lines (drop inside.at inside.piece.items)) = search rules in
    let some = have_lines (drop inside.at inside.piece.items) (omega (arith, length-drop inside.at inside.piece.items, lt)) in
    behind inside.number (lines (drop inside.at inside.piece.items)) (lines (drop next inside.piece.items)) (lines_back inside.later.items) some rest ∙ ap behind_line c.self.view_is
