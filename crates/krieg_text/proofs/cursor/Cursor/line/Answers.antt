use Rattle.std.proofs.Common.{rules, ◌≡◌, ◌+◌, Ok}
use Rattle.krieg_text.proofs.Common.{place, line_at}
use Rattle.krieg_text.proofs.ReadingLemmas.{passed_line}
use Rattle.krieg_text.proofs.cursor.Cursor.line.Goals as goal

pub returns-in-Some-clause-rest : goal.returns-in-Some-clause-rest
returns-in-Some-clause-rest c =
    let taken : line_at c.args.self.now ≡ Ok (c.in-Some.line.now, place (c.self.inside.number + 1) c.next.new.self) = search rules in
    passed_line c.args.self.now (place (c.self.inside.number + 1) c.next.new.self) c.in-Some.line.now taken
