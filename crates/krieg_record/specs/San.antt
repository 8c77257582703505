-- What the text of a legal move says (PGN standard, section 8.2.3).
use Rattle.std.specs.Prelude.{ℕ, List, Option, Some, None, if◌then◌else◌}
use Rattle.krieg_board.specs.Pos.{Pos}
use Rattle.krieg_board.specs.Squares.{file_of}
use Rattle.krieg_board.specs.declared.men.Move.{Move}
use Rattle.krieg_moves.specs.After.{after}
use Rattle.krieg_moves.specs.Moves.{in_check, is_mate}
use Rattle.krieg_moves.specs.declared.wing.Wing.{Wing}
use Rattle.krieg_record.specs.declared.notation.Officer.{Officer}
use Rattle.krieg_record.specs.declared.notation.Movement.{Movement}
use Rattle.krieg_record.specs.declared.notation.Movement.TheVariants.{Castles, ByOfficer, ByPawn}
use Rattle.krieg_record.specs.declared.notation.CheckSuffix.{CheckSuffix}
use Rattle.krieg_record.specs.declared.notation.CheckSuffix.TheVariants.{Nothing, Check, Mate}
use Rattle.krieg_record.specs.declared.notation.Notation.{Notation}
use Rattle.krieg_record.specs.NotationText.{notation_text}
use Rattle.krieg_record.specs.MoveTraits.{castling, captures, officer_at}
use Rattle.krieg_record.specs.Disambiguation.{origin}

-- castling as such; an officer with the least of its origin that tells it; a pawn, with its file where it captures
abbrev pub movement_by : Pos → Move → Option Wing → Option Officer → Movement
movement_by p m (Some wing) officer = Castles wing
movement_by p m None (Some officer) = ByOfficer (record { officer = officer; origin = origin p officer m; captures = captures p m; to = m.to })
movement_by p m None None = ByPawn (record { file = if captures p m then Some (file_of m.from) else None; to = m.to; promo = m.promo })

-- of the position after the move: it is mate, or else there is a check
abbrev pub ending : Pos → CheckSuffix
ending q = if is_mate q then Mate else if in_check q then Check else Nothing

-- what the text of the move says
unfoldable pub san : Pos → Move → Notation
san p m = record { movement = movement_by p m (castling p m) (officer_at p m.from); ending = ending (after p m) }

-- the one text of a legal move
unfoldable pub san_text : Pos → Move → List ℕ
san_text p m = notation_text (san p m)
