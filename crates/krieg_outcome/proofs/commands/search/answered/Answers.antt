use Rattle.std.proofs.Common.{sym, ◌∙◌, arith}
use Rattle.krieg_outcome.proofs.Common.{is_over, ByKind}
use Rattle.krieg_outcome.proofs.Asking.{given, later, asked}
use Rattle.krieg_outcome.proofs.Searching.{few_possible}
use Rattle.krieg_outcome.proofs.SheetTurns.{valid_possible}
use Rattle.krieg_outcome.proofs.commands.search.answered.Goals as goal

pub searched-requires-clause-few : goal.searched-requires-clause-few
searched-requires-clause-few c =
    let leaves = (given c.args.terms.limit c.args.sheet c.is_over.result c.in_ok-set.set c.in_ok-set.ensures.set).0 in
    omega (arith, few_possible c.args.sheet c.args.terms.limit c.in_ok-set.set leaves.within leaves.possible, c.requires.terms.few)

pub searched-requires-clause-valid : goal.searched-requires-clause-valid
searched-requires-clause-valid c =
    let leaves = (given c.args.terms.limit c.args.sheet c.is_over.result c.in_ok-set.set c.in_ok-set.ensures.set).0 in
    valid_possible c.args.sheet c.in_ok-set.set c.dialect-dialect.ensures.sheet leaves.possible

pub returns : goal.returns
returns c =
    let is = given c.args.terms.limit c.args.sheet c.is_over.result c.in_ok-set.set c.in_ok-set.ensures.set in
    asked (ByKind c.args.kind) (later c.args.kind) c.args.terms.moves c.args.terms.budget c.args.terms.limit c.args.sheet is_over c.in_ok-set.set is.0 (sym c.is_over.ensures.value ∙ is.1)
    (λ answer. answer.items) c.searched.result c.dialect-dialect.result c.side-side.result c.dialect-dialect.ensures.value c.side-side.ensures.value c.searched.ensures
