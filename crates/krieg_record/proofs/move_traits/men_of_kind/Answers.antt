use Rattle.std.proofs.Common.{◌∙◌, ap, sym}
use Rattle.krieg_record.proofs.Common.{man_at, is_kind}
use Rattle.krieg_record.proofs.move_traits.men_of_kind.Goals as goal

pub returns-in-Pawn : goal.returns-in-Pawn
returns-in-Pawn c = λ b k s l. s.pawns k l ∙ ap (λ kind. is_kind kind (man_at b k)) (sym c.in-Pawn.is)

pub returns-in-Knight : goal.returns-in-Knight
returns-in-Knight c = λ b k s l. s.knights k l ∙ ap (λ kind. is_kind kind (man_at b k)) (sym c.in-Knight.is)

pub returns-in-Bishop : goal.returns-in-Bishop
returns-in-Bishop c = λ b k s l. s.bishops k l ∙ ap (λ kind. is_kind kind (man_at b k)) (sym c.in-Bishop.is)

pub returns-in-Rook : goal.returns-in-Rook
returns-in-Rook c = λ b k s l. s.rooks k l ∙ ap (λ kind. is_kind kind (man_at b k)) (sym c.in-Rook.is)

pub returns-in-Queen : goal.returns-in-Queen
returns-in-Queen c = λ b k s l. s.queens k l ∙ ap (λ kind. is_kind kind (man_at b k)) (sym c.in-Queen.is)

pub returns-in-King : goal.returns-in-King
returns-in-King c = λ b k s l. s.kings k l ∙ ap (λ kind. is_kind kind (man_at b k)) (sym c.in-King.is)
