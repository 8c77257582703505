-- The text of a move by its parts, and the bytes of each part (PGN standard, section 8.2.3).
use Rattle.std.specs.Prelude.{ℕ, Bool, true, false, ◌+◌, ◌<◌, ◌≡◌, List, [], ◌∷◌, ◌++◌, codes, Option, Some, None}
use Rattle.krieg_board.specs.declared.men.Promo.{Promo}
use Rattle.krieg_board.specs.declared.men.Promo.TheVariants as promo
use Rattle.krieg_moves.specs.declared.wing.Wing.TheVariants.{Short, Long}
use Rattle.krieg_fen.specs.MoveText.{square_text}
use Rattle.krieg_record.specs.declared.notation.Officer.{Officer}
use Rattle.krieg_record.specs.declared.notation.Officer.TheVariants.{King, Queen, Rook, Bishop, Knight}
use Rattle.krieg_record.specs.declared.notation.Origin.{Origin}
use Rattle.krieg_record.specs.declared.notation.OfficerMove.{OfficerMove}
use Rattle.krieg_record.specs.declared.notation.PawnMove.{PawnMove}
use Rattle.krieg_record.specs.declared.notation.Movement.{Movement}
use Rattle.krieg_record.specs.declared.notation.Movement.TheVariants.{Castles, ByOfficer, ByPawn}
use Rattle.krieg_record.specs.declared.notation.CheckSuffix.{CheckSuffix}
use Rattle.krieg_record.specs.declared.notation.CheckSuffix.TheVariants.{Nothing, Check, Mate}
use Rattle.krieg_record.specs.declared.notation.Notation.{Notation}

-- what is told of the square that a man leaves: its file, its rank, both or nothing
abbrev pub told : Option ℕ → Option ℕ → Origin
told file rank = record { file = file; rank = rank }

-- the letters `K` 75, `Q` 81, `R` 82, `B` 66 and `N` 78
abbrev pub letter : Officer → ℕ
letter King = 75
letter Queen = 81
letter Rook = 82
letter Bishop = 66
letter Knight = 78

-- a letter from `a` 97 to `h` 104, where a file is told
abbrev pub file_text : Option ℕ → List ℕ
file_text None = []
file_text (Some f) = (97 + f) ∷ []

-- a digit from `1` 49 to `8` 56, where a rank is told
abbrev pub rank_text : Option ℕ → List ℕ
rank_text None = []
rank_text (Some r) = (49 + r) ∷ []

-- `x` 120 where something is captured
abbrev pub capture_text : Bool → List ℕ
capture_text false = []
capture_text true = 120 ∷ []

-- `=` 61 and the letter of what a pawn becomes, where it is promoted
abbrev pub promotion_text : Promo → List ℕ
promotion_text promo.Plain = []
promotion_text promo.Queen = 61 ∷ 81 ∷ []
promotion_text promo.Rook = 61 ∷ 82 ∷ []
promotion_text promo.Bishop = 61 ∷ 66 ∷ []
promotion_text promo.Knight = 61 ∷ 78 ∷ []

-- the file that it leaves and `x` 120, where a pawn captures
abbrev pub pawn_capture_text : Option ℕ → List ℕ
pawn_capture_text None = []
pawn_capture_text (Some f) = (97 + f) ∷ 120 ∷ []

-- what stands behind an officer's letter: the origin, the capture, the square of arrival
abbrev pub officer_text : OfficerMove → List ℕ
officer_text o = file_text o.origin.file ++ (rank_text o.origin.rank ++ (capture_text o.captures ++ square_text o.to))

-- the capture, the square of arrival, the promotion
abbrev pub pawn_text : PawnMove → List ℕ
pawn_text w = pawn_capture_text w.file ++ (square_text w.to ++ promotion_text w.promo)

-- the text of how a man moves: castling, an officer, or a pawn
abbrev pub movement_text : Movement → List ℕ
movement_text (Castles Short) = codes "O-O"
movement_text (Castles Long) = codes "O-O-O"
movement_text (ByOfficer o) = letter o.officer ∷ officer_text o
movement_text (ByPawn w) = pawn_text w

-- `+` 43 for a check and `#` 35 for a mate
abbrev pub ending_text : CheckSuffix → List ℕ
ending_text Nothing = []
ending_text Check = 43 ∷ []
ending_text Mate = 35 ∷ []

-- the text of a move: how the man moves, and then check or mate
unfoldable pub notation_text : Notation → List ℕ
notation_text n = movement_text n.movement ++ ending_text n.ending

-- a file or a rank of the board, where one is told
abbrev pub IsCoordinate : Option ℕ → Type 0
IsCoordinate None = Unit {0}
IsCoordinate (Some n) = n < 8

-- files, ranks and squares are those of the board
abbrev pub IsMovement : Movement → Type 0
IsMovement (Castles wing) = Unit {0}
IsMovement (ByOfficer o) = IsCoordinate o.origin.file × IsCoordinate o.origin.rank × (o.to < 64)
IsMovement (ByPawn w) = IsCoordinate w.file × (w.to < 64)

-- the text is of the form, and this is what it says
pub record Says (text : List ℕ) (n : Notation) : Type 0 where
  pub is : text ≡ notation_text n
  pub named : IsMovement n.movement
