-- The move that a text means, computed: `Means` tells what this comes to.
use Rattle.std.specs.Prelude.{ℕ, Bool, ◌&&◌, List, [], ◌∷◌, Option, Some, None, Result, Ok, Err, filter}
use Rattle.krieg_board.specs.Pos.{Pos}
use Rattle.krieg_board.specs.Squares.{squares}
use Rattle.krieg_board.specs.Sets.{has}
use Rattle.krieg_board.specs.declared.men.Kind.{Kind}
use Rattle.krieg_board.specs.declared.men.Kind.TheVariants as kind
use Rattle.krieg_board.specs.declared.men.Move.{Move}
use Rattle.krieg_board.specs.declared.men.Promo.{Promo}
use Rattle.krieg_board.specs.declared.men.Promo.TheVariants as promo
use Rattle.krieg_moves.specs.Wings.{arrival}
use Rattle.krieg_moves.specs.Legal.{is_legal}
use Rattle.krieg_record.specs.declared.notation.Movement.{Movement}
use Rattle.krieg_record.specs.declared.notation.Movement.TheVariants.{Castles, ByOfficer, ByPawn}
use Rattle.krieg_record.specs.declared.notation.Notation.{Notation}
use Rattle.krieg_record.specs.declared.san_reading.SanFault.{SanFault}
use Rattle.krieg_record.specs.declared.san_reading.SanFault.TheVariants.{Syntax, Unknown, Several}
use Rattle.krieg_record.specs.NotationReading.{notation_of}
use Rattle.krieg_record.specs.MoveTraits.{kind_of}
use Rattle.krieg_record.specs.Matching.{is_matched}

-- the kind of the man that goes
abbrev pub mover : Movement → Kind
mover (Castles wing) = kind.King
mover (ByOfficer o) = kind_of o.officer
mover (ByPawn w) = kind.Pawn

-- where the man arrives
abbrev pub arrives : Pos → Movement → ℕ
arrives p (Castles wing) = arrival wing p.side
arrives p (ByOfficer o) = o.to
arrives p (ByPawn w) = w.to

-- what a pawn becomes
abbrev pub becomes : Movement → Promo
becomes (Castles wing) = promo.Plain
becomes (ByOfficer o) = promo.Plain
becomes (ByPawn w) = w.promo

-- the move from that square that the text could mean
abbrev pub move_from : Pos → Movement → ℕ → Move
move_from p movement s = record { from = s; to = arrives p movement; promo = becomes movement }

-- it is legal, and the text may mean it
abbrev pub goes_from : Pos → Notation → ℕ → Bool
goes_from p n s = is_legal p (move_from p n.movement s) && is_matched p n (move_from p n.movement s)

-- those of a set of squares from which such a move goes
unfoldable pub leaving : Pos → Notation → ℕ → List ℕ
leaving p n set = filter (λ s. has set s && goes_from p n s) squares

-- the movement from the one square that fits; unknown where none does, several where more do
abbrev pub the_only : Pos → Movement → List ℕ → Result Move SanFault
the_only p movement [] = Err Unknown
the_only p movement (s ∷ []) = Ok (move_from p movement s)
the_only p movement (s ∷ t ∷ more) = Err Several

-- the one move that fits what a text spells
abbrev pub meant_by : Pos → Option Notation → Result Move SanFault
meant_by p None = Err Syntax
meant_by p (Some n) = the_only p n.movement (filter (goes_from p n) squares)

-- the one move that the text may mean, or the fault
unfoldable pub meant : Pos → List ℕ → Result Move SanFault
meant p text = meant_by p (notation_of text)
