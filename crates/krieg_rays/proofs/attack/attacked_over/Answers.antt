use Rattle.std.proofs.Common.{◌∙◌}
use Rattle.krieg_rays.proofs.Common.{is_open}
use Rattle.krieg_rays.proofs.Attacking.{pawn_over, knight_over, king_over, rook_over, bishop_over, queen_over}
use Rattle.krieg_rays.proofs.attack.attacked_over.Goals as goal

pub returns-in-Pawn : goal.returns-in-Pawn
returns-in-Pawn c = λ k h. c.pawn_attacks.ensures k h ∙ pawn_over (is_open c.args.occupied c.args.from k) c.args.man c.args.from k c.in-Pawn.is

pub returns-in-Knight : goal.returns-in-Knight
returns-in-Knight c = λ k h. c.knight_attacks.ensures k h ∙ knight_over (is_open c.args.occupied c.args.from k) c.args.man c.args.from k c.in-Knight.is

pub returns-in-King : goal.returns-in-King
returns-in-King c = λ k h. c.king_attacks.ensures k h ∙ king_over (is_open c.args.occupied c.args.from k) c.args.man c.args.from k c.in-King.is

pub returns-in-Bishop : goal.returns-in-Bishop
returns-in-Bishop c = λ k h. c.diagonal_from.ensures k h ∙ bishop_over (is_open c.args.occupied c.args.from k) c.args.man c.args.from k c.in-Bishop.is

pub returns-in-Rook : goal.returns-in-Rook
returns-in-Rook c = λ k h. c.straight_from.ensures k h ∙ rook_over (is_open c.args.occupied c.args.from k) c.args.man c.args.from k c.in-Rook.is

pub returns-in-Queen : goal.returns-in-Queen
returns-in-Queen c = λ k h.
    queen_over (is_open c.args.occupied c.args.from k) c.args.man c.args.from k c.straight_from-in-Queen.result c.diagonal_from-in-Queen.result c.in-Queen.is
    (c.straight_from-in-Queen.ensures k h) (c.diagonal_from-in-Queen.ensures k h)
