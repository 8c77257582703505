use Rattle.std.proofs.Common.{◌≡◌, true, sym, subst}
use Rattle.krieg_sheet.proofs.Common.{LineFits, SheetState, is_in_place, IsTold}
use Rattle.krieg_sheet.proofs.Entering.{kept_more}
use Rattle.krieg_sheet.proofs.sheet.Sheet.enter.Goals as goal

pub invariant_of-self-2 : goal.invariant_of-self-2
invariant_of-self-2 c =
    let s : SheetState = record { dialect = c.self.inside.dialect; side = c.self.inside.side; list = c.self.inside.list.items; opens = c.self.inside.opens; entries = c.self.inside.entries.items } in
    let told : IsTold s.dialect c.args.line = (c.know_line.ensures, subst (λ (t : SheetState). LineFits t.dialect c.args.line) (sym c.self.view_is) c.requires.fits) in
    let stands : is_in_place s c.args.line ≡ true = subst (λ (t : SheetState). is_in_place t c.args.line ≡ true) (sym c.self.view_is) c.requires.in_place in
    rw (c.in_ok-push.ensures.items, c.turn_after-turn.ensures, c.over_after-over.ensures) (kept_more s c.args.line c.self.inside.turn c.self.inside.over c.self.invariant told stands)
