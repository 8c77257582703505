use Rattle.std.proofs.Common.{rules, ◌≡◌, length}
use Rattle.krieg_refutefile.proofs.WrittenClaims.{all_lines}
use Rattle.krieg_refutefile.proofs.writing.denial_lines.Goals as goal

pub returns : goal.returns
returns c =
    let claimed : c.len-2.result ≡ length c.args.denial.claims.items = search rules in
    all_lines c.args.denial.dialect c.args.denial.side c.args.denial.moves c.len.result c.len-2.result c.args.denial.set c.args.denial.claims.items c.new-text.result c.begin.new.text c.move_set.new.text c.put_number_line.new.text c.move_claims.new.text c.end.new.text
    c.len.ensures.value claimed c.new-text.ensures c.in_ok-begin.ensures c.in_ok-move_set.ensures c.in_ok-put_number_line.ensures c.in_ok-move_claims.ensures c.in_ok-end.ensures
