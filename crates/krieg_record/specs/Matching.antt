-- Which legal moves a text may mean, and what it means in a position.
use Rattle.std.specs.Prelude.{◌≡◌, ◌≢◌, ℕ, Bool, true, false, List, Option, Some, None, Result, Ok, Err, not, ◌&&◌, ◌==◌, is_none}
use Rattle.krieg_board.specs.Men.{is_same_bool}
use Rattle.krieg_board.specs.Pos.{Pos}
use Rattle.krieg_board.specs.Squares.{file_of}
use Rattle.krieg_board.specs.declared.men.Kind.TheVariants as kind
use Rattle.krieg_board.specs.declared.men.Promo.{Promo}
use Rattle.krieg_board.specs.declared.men.Promo.TheVariants as promo
use Rattle.krieg_board.specs.declared.men.Move.{Move}
use Rattle.krieg_moves.specs.After.{after}
use Rattle.krieg_moves.specs.Legal.{is_legal}
use Rattle.krieg_moves.specs.Moves.{in_check, is_mate}
use Rattle.krieg_moves.specs.declared.wing.Wing.{Wing}
use Rattle.krieg_moves.specs.declared.wing.Wing.TheVariants.{Short, Long}
use Rattle.krieg_record.specs.declared.notation.Movement.{Movement}
use Rattle.krieg_record.specs.declared.notation.Movement.TheVariants.{Castles, ByOfficer, ByPawn}
use Rattle.krieg_record.specs.declared.notation.CheckSuffix.{CheckSuffix}
use Rattle.krieg_record.specs.declared.notation.CheckSuffix.TheVariants.{Nothing, Check, Mate}
use Rattle.krieg_record.specs.declared.notation.Notation.{Notation}
use Rattle.krieg_record.specs.declared.san_reading.SanFault.{SanFault}
use Rattle.krieg_record.specs.declared.san_reading.SanFault.TheVariants.{Syntax, Unknown, Several, NoMemory}
use Rattle.krieg_record.specs.NotationText.{Says}
use Rattle.krieg_record.specs.MoveTraits.{kind_of, is_own, castling, captures}
use Rattle.krieg_record.specs.Disambiguation.{fits}

-- the castling is to that wing
abbrev pub is_wing : Wing → Option Wing → Bool
is_wing Short (Some Short) = true
is_wing Long (Some Long) = true
is_wing _ _ = false

-- both promote to the same kind, or neither does
abbrev pub is_same_promo : Promo → Promo → Bool
is_same_promo promo.Plain promo.Plain = true
is_same_promo promo.Queen promo.Queen = true
is_same_promo promo.Rook promo.Rook = true
is_same_promo promo.Bishop promo.Bishop = true
is_same_promo promo.Knight promo.Knight = true
is_same_promo _ _ = false

-- a capture from the file that is told, or no capture where none is
abbrev pub is_pawn_capture : Option ℕ → Pos → Move → Bool
is_pawn_capture None p m = not (captures p m)
is_pawn_capture (Some f) p m = captures p m && file_of m.from == f

-- the legal move is such a one: it castles on that wing; or it does not castle, and such an officer makes it; or such a pawn does
abbrev pub is_movement : Pos → Movement → Move → Bool
is_movement p (Castles wing) m = is_wing wing (castling p m)
is_movement p (ByOfficer o) m =
    is_none (castling p m) && (is_own p (kind_of o.officer) m.from && (fits o.origin m.from
    && (is_same_bool o.captures (captures p m) && (m.to == o.to && is_same_promo promo.Plain m.promo))))
is_movement p (ByPawn w) m =
    is_own p kind.Pawn m.from && (is_pawn_capture w.file p m && (m.to == w.to && is_same_promo w.promo m.promo))

-- what is told of the position after the move is true: nothing, a check, which may be a mate, or a mate
abbrev pub is_ending : CheckSuffix → Pos → Bool
is_ending Nothing q = true
is_ending Check q = in_check q
is_ending Mate q = is_mate q

-- the notation may mean the legal move
unfoldable pub is_matched : Pos → Notation → Move → Bool
is_matched p n m = is_movement p n.movement m && is_ending n.ending (after p m)

-- the text is of the form
abbrev pub IsOfForm : List ℕ → Type 0
IsOfForm text = (n : Notation) × Says text n

-- the move is legal, and the text may mean it
pub record Matches (p : Pos) (text : List ℕ) (m : Move) : Type 0 where
  pub legal : is_legal p m ≡ true
  pub notation : Notation
  pub says : Says text notation
  pub matched : is_matched p notation m ≡ true

-- it is the one move that the text may mean
pub record IsOnly (p : Pos) (text : List ℕ) (m : Move) : Type 0 where
  pub matches : Matches p text m
  pub alone : (o : Move) → Matches p text o → o ≡ m

-- the text is of the form, and may mean no move
pub record IsUnknown (p : Pos) (text : List ℕ) : Type 0 where
  pub form : IsOfForm text
  pub none : (m : Move) → Matches p text m → ⊥

-- the text may mean two moves
pub record AreSeveral (p : Pos) (text : List ℕ) : Type 0 where
  pub one : Move
  pub other : Move
  pub matches_one : Matches p text one
  pub matches_other : Matches p text other
  pub apart : one ≢ other

-- The one move that the text may mean, or the fault. No two of these hold of one text, and want of memory never comes.
abbrev pub Means : Pos → List ℕ → Result Move SanFault → Type 0
Means p text (Ok m) = IsOnly p text m
Means p text (Err Syntax) = IsOfForm text → ⊥
Means p text (Err Unknown) = IsUnknown p text
Means p text (Err Several) = AreSeveral p text
Means p text (Err NoMemory) = ⊥
