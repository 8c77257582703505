use Rattle.std.proofs.Common.{◌∙◌, sym}
use Rattle.krieg_moves.proofs.Common.{is_attacked, in_check}
use Rattle.krieg_board.proofs.Facts.{facts}
use Rattle.krieg_board.proofs.OneKing.{one_king_attacked}
use Rattle.krieg_board.proofs.SameTests.{some_square_same}
use Rattle.krieg_moves.proofs.Kings.{one_king}
use Rattle.krieg_moves.proofs.ends.in_check_by.Goals as goal

pub returns : goal.returns
unfolding in_check is_attacked
returns c =
    let p = c.args.p.now in
    c.has_squares.ensures
    ∙ some_square_same _ _ c.requires.checkers
    ∙ sym (one_king_attacked p.board p.side c.args.guard.now.king (facts p c.know_valid.ensures).squares (one_king p c.know_valid.ensures p.side) c.requires.inside c.requires.king)
