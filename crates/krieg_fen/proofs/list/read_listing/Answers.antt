use Rattle.std.proofs.Common.{rules}
use Rattle.krieg_fen.proofs.Common.{listing_at}
use Rattle.krieg_text.proofs.ReadingLemmas.{passed_then}
use Rattle.krieg_fen.proofs.list.read_listing.Goals as goal

pub returns-in_err-side-clause-value : goal.returns-in_err-side-clause-value
unfolding listing_at
returns-in_err-side-clause-value g c = search rules

pub returns-in_err-side-clause-rest : goal.returns-in_err-side-clause-rest
returns-in_err-side-clause-rest g c = c.read_side.ensures.rest

pub returns-in_err-count-clause-value : goal.returns-in_err-count-clause-value
unfolding listing_at
returns-in_err-count-clause-value g c = search rules

pub returns-in_err-count-clause-rest : goal.returns-in_err-count-clause-rest
returns-in_err-count-clause-rest g c =
    let at = g.S.LineSource.place in
    passed_then (at c.args.from.now) (at c.read_side.new.from) (at c.read_list_line.new.from) c.read_side.ensures.rest c.read_list_line.ensures.rest

pub returns-in_err-list-clause-value : goal.returns-in_err-list-clause-value
unfolding listing_at
returns-in_err-list-clause-value g c = search rules

pub returns-in_err-list-clause-rest : goal.returns-in_err-list-clause-rest
returns-in_err-list-clause-rest g c =
    let at = g.S.LineSource.place in
    let head = passed_then (at c.args.from.now) (at c.read_side.new.from) (at c.read_list_line.new.from) c.read_side.ensures.rest c.read_list_line.ensures.rest in
    passed_then (at c.args.from.now) (at c.read_list_line.new.from) (at c.list_at.new.from) head c.list_at.ensures.rest

pub returns-clause-value : goal.returns-clause-value
unfolding listing_at
returns-clause-value g c = search rules

pub returns-clause-rest : goal.returns-clause-rest
returns-clause-rest g c =
    let at = g.S.LineSource.place in
    let head = passed_then (at c.args.from.now) (at c.read_side.new.from) (at c.read_list_line.new.from) c.read_side.ensures.rest c.read_list_line.ensures.rest in
    passed_then (at c.args.from.now) (at c.read_list_line.new.from) (at c.list_at.new.from) head c.list_at.ensures.rest
