use Rattle.std.proofs.Common.{◌≡◌, Some, ◌∙◌, rules}
use Rattle.krieg_wordtext.proofs.LineLaws.{line_read}
use Rattle.krieg_wordtext.proofs.line_reading.read_line_in.Goals as goal

pub returns-clause-only : goal.returns-clause-only
returns-clause-only c l valid fits is =
    let e : c.line_in.result ≡ Some l = c.line_in.ensures ∙ line_read c.args.d c.args.text.now l valid fits is in
    search rules
