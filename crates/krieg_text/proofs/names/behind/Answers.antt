use Rattle.std.proofs.Common.{sym, ap, ◌∙◌}
use Rattle.std.proofs.lemmas.List.{at_drop_more, at_drop_all}
use Rattle.std.specs.Option.{option_copied}
use Rattle.krieg_text.specs.Names.{behind}
use Rattle.krieg_text.proofs.NameLemmas.{behind_stops, behind_goes}
use Rattle.krieg_text.proofs.names.behind.Goals as goal

pub returns-in_err-rest : goal.returns-in_err-rest
returns-in_err-rest c =
    let step = at_drop_more (λ bs. behind bs c.loop-byte.rest.now) c.args.name.now c.loop-byte.byte-index 0 c.loop-byte-test.true in
    ap option_copied c.from_residual.ensures ∙ sym (c.loop-byte.invariant ∙ step ∙ behind_stops _ _ _ c.in_err-rest.ensures)

pub loop-byte-preserved : goal.loop-byte-preserved
loop-byte-preserved c =
    let step = at_drop_more (λ bs. behind bs c.loop-byte.rest.now) c.args.name.now c.loop-byte.byte-index 0 c.loop-byte-test.true in
    c.loop-byte.invariant ∙ step ∙ behind_goes _ _ _ _ c.in_ok-rest.ensures

pub returns : goal.returns
unfolding behind
returns c = sym (c.loop-byte.invariant ∙ at_drop_all (λ bs. behind bs c.loop-byte.rest.now) c.args.name.now c.loop-byte.byte-index c.loop-byte-test.false)
