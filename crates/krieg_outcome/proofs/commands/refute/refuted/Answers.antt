use Rattle.std.proofs.Common.{sym, subst, ◌∙◌, arith}
use Rattle.krieg_outcome.proofs.Common.{Side, has_no_turn, CanBeListed, Claimed}
use Rattle.krieg_outcome.proofs.Asking.{given, asked}
use Rattle.krieg_outcome.proofs.Refuting.{is_to_move, later}
use Rattle.krieg_outcome.proofs.Searching.{few_possible}
use Rattle.krieg_outcome.proofs.SheetTurns.{own_turn, valid_possible}
use Rattle.krieg_outcome.proofs.commands.refute.refuted.Goals as goal

pub searched-requires-clause-listed : goal.searched-requires-clause-listed
searched-requires-clause-listed c =
    let S = c.in_ok-set.set in
    let is = given c.args.limit c.args.sheet c.has_no_turn.result S c.in_ok-set.ensures.set in
    let leaves = is.0 in
    subst (λ (who : Side). CanBeListed who S) (sym c.side-side.ensures.value) (record {
      some = leaves.some;
      few = omega (arith, few_possible c.args.sheet c.args.limit S leaves.within leaves.possible, c.requires.few);
      valid = valid_possible c.args.sheet S c.has_no_turn.ensures.sheet leaves.possible;
      hand = c.in_ok-set.ensures.hand;
      turn = own_turn c.args.sheet S c.has_no_turn.ensures.sheet leaves.possible (is_to_move c.args.sheet (sym c.has_no_turn.ensures.none ∙ is.1));
    })

pub returns : goal.returns
returns c =
    let is = given c.args.limit c.args.sheet c.has_no_turn.result c.in_ok-set.set c.in_ok-set.ensures.set in
    asked Claimed later c.args.moves c.args.budget c.args.limit c.args.sheet has_no_turn c.in_ok-set.set is.0 (sym c.has_no_turn.ensures.none ∙ is.1)
    (λ answer. answer) c.searched.result c.dialect-dialect.result c.side-side.result c.dialect-dialect.ensures.value c.side-side.ensures.value c.searched.ensures
