use Rattle.std.proofs.Common.{rules, ◌≡◌, Ok, refl}
use Rattle.std.specs.Fn.{FnOnceReturnsAt}
use Rattle.krieg_text.proofs.Common.{line_at}
use Rattle.krieg_text.proofs.ReadingLemmas.{form_gives, form_made}
use Rattle.krieg_text.proofs.owned_cursor.OwnedCursorLineSource.next.Goals as goal

pub returns-clause-value : goal.returns-clause-value
returns-clause-value g c reads is =
    let l = c.in_ok-line.field-0 in
    let at : line_at c.args.self.now ≡ Ok (l.now, c.pass.new.self) = search rules in
    form_gives reads _ c.args.self.now c.pass.new.self l.now c.form-read.result c.at_line.result c.self.view_is at (is l.now c.form-read.result (l, c.form-read.ensures, refl)) c.at_line.ensures

pub returns-clause-made : goal.returns-clause-made
returns-clause-made g c =
    let l = c.in_ok-line.field-0 in
    form_made (FnOnceReturnsAt g.F.FnOnce c.args.form) c.self.inside.number l.now c.form-read.result c.at_line.result (l, c.form-read.ensures, refl) c.at_line.ensures
