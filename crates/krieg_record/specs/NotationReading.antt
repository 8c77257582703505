-- What the bytes of a move's text say, where they are of the form: `Says` tells what this comes to.
use Rattle.std.specs.Prelude.{ℕ, Bool, true, false, ◌-◌, ◌&&◌, ◌==◌, nat_le, List, [], ◌∷◌, Option, Some, None, if◌then◌else◌}
use Rattle.std.specs.Str.{bytes_eq}
use Rattle.krieg_board.specs.declared.men.Promo.{Promo}
use Rattle.krieg_board.specs.declared.men.Promo.TheVariants as promo
use Rattle.krieg_moves.specs.declared.wing.Wing.TheVariants.{Short, Long}
use Rattle.krieg_fen.specs.MoveText.{square_of}
use Rattle.krieg_record.specs.declared.notation.Officer.{Officer}
use Rattle.krieg_record.specs.declared.notation.Officer.TheVariants.{King, Queen, Rook, Bishop, Knight}
use Rattle.krieg_record.specs.declared.notation.Origin.{Origin}
use Rattle.krieg_record.specs.declared.notation.Movement.{Movement}
use Rattle.krieg_record.specs.declared.notation.Movement.TheVariants.{Castles, ByOfficer, ByPawn}
use Rattle.krieg_record.specs.declared.notation.CheckSuffix.{CheckSuffix}
use Rattle.krieg_record.specs.declared.notation.CheckSuffix.TheVariants.{Nothing, Check, Mate}
use Rattle.krieg_record.specs.declared.notation.Notation.{Notation}
use Rattle.krieg_record.specs.NotationText.{told}

-- the file with the letter, `a` 97 to `h` 104
abbrev pub file_named : ℕ → Option ℕ
file_named b = if nat_le 97 b && nat_le b 104 then Some (b - 97) else None

-- the rank with the digit, `1` 49 to `8` 56
abbrev pub rank_named : ℕ → Option ℕ
rank_named b = if nat_le 49 b && nat_le b 56 then Some (b - 49) else None

-- a file, or else a rank
abbrev pub coordinate_told : Option ℕ → Option ℕ → Option Origin
coordinate_told (Some f) rank = Some (told (Some f) None)
coordinate_told None (Some r) = Some (told None (Some r))
coordinate_told None None = None

-- what one byte tells of the origin
abbrev pub one_told : ℕ → Option Origin
one_told b = coordinate_told (file_named b) (rank_named b)

-- a file and a rank
abbrev pub square_told : Option ℕ → Option ℕ → Option Origin
square_told (Some f) (Some r) = Some (told (Some f) (Some r))
square_told _ _ = None

-- what two bytes tell of it
abbrev pub both_told : ℕ → ℕ → Option Origin
both_told a b = square_told (file_named a) (rank_named b)

-- an officer's movement of these parts, where none is missing
abbrev pub officer_with : Officer → Bool → Option Origin → Option ℕ → Option Movement
officer_with officer captures (Some o) (Some to) = Some (ByOfficer (record { officer = officer; origin = o; captures = captures; to = to }))
officer_with officer captures _ _ = None

-- what stands behind an officer's letter; `x` is 120
abbrev pub officer_movement : Officer → List ℕ → Option Movement
officer_movement officer (a ∷ b ∷ []) = officer_with officer false (Some (told None None)) (square_of a b)
officer_movement officer (a ∷ b ∷ c ∷ []) =
    if a == 120 then officer_with officer true (Some (told None None)) (square_of b c) else officer_with officer false (one_told a) (square_of b c)
officer_movement officer (a ∷ b ∷ c ∷ d ∷ []) =
    if b == 120 then officer_with officer true (one_told a) (square_of c d) else officer_with officer false (both_told a b) (square_of c d)
officer_movement officer (a ∷ b ∷ c ∷ d ∷ e ∷ []) = if c == 120 then officer_with officer true (both_told a b) (square_of d e) else None
officer_movement officer _ = None

-- `Q` 81, `R` 82, `B` 66 and `N` 78
abbrev pub promo_named : ℕ → Option Promo
promo_named b = if b == 81 then Some promo.Queen else (if b == 82 then Some promo.Rook else (if b == 66 then Some promo.Bishop else (if b == 78 then Some promo.Knight else None)))

-- a pawn's movement of these parts, where none is missing
abbrev pub pawn_with : Option ℕ → Option ℕ → Option Promo → Option Movement
pawn_with file (Some to) (Some r) = Some (ByPawn (record { file = file; to = to; promo = r }))
pawn_with file _ _ = None

-- a pawn's capture, which names the file that it comes from
abbrev pub pawn_taking : Option ℕ → Option ℕ → Option Promo → Option Movement
pawn_taking (Some f) to r = pawn_with (Some f) to r
pawn_taking None to r = None

-- a pawn's move; `=` is 61
abbrev pub pawn_movement : List ℕ → Option Movement
pawn_movement (a ∷ b ∷ []) = pawn_with None (square_of a b) (Some promo.Plain)
pawn_movement (a ∷ b ∷ c ∷ d ∷ []) =
    if b == 120 then pawn_taking (file_named a) (square_of c d) (Some promo.Plain)
    else if c == 61 then pawn_with None (square_of a b) (promo_named d) else None
pawn_movement (a ∷ b ∷ c ∷ d ∷ e ∷ f ∷ []) =
    if b == 120 && e == 61 then pawn_taking (file_named a) (square_of c d) (promo_named f) else None
pawn_movement _ = None

-- what stands behind the first `O` 79 of castling, which has a dash 45 between two of them
abbrev pub castling_movement : List ℕ → Option Movement
castling_movement rest =
    if bytes_eq rest (45 ∷ 79 ∷ []) then Some (Castles Short)
    else if bytes_eq rest (45 ∷ 79 ∷ 45 ∷ 79 ∷ []) then Some (Castles Long) else None

-- the officer of that letter
abbrev pub officer_named : ℕ → Option Officer
officer_named a =
    if a == 75 then Some King
    else if a == 81 then Some Queen
    else if a == 82 then Some Rook
    else if a == 66 then Some Bishop
    else if a == 78 then Some Knight
    else None

-- the movement of a text that begins with that byte, behind which these stand
abbrev pub movement_from : ℕ → List ℕ → Option Movement
movement_from a rest =
    if a == 75 then officer_movement King rest
    else if a == 81 then officer_movement Queen rest
    else if a == 82 then officer_movement Rook rest
    else if a == 66 then officer_movement Bishop rest
    else if a == 78 then officer_movement Knight rest
    else if a == 79 then castling_movement rest
    else pawn_movement (a ∷ rest)

-- the movement that a text spells, if it does
abbrev pub movement_of : List ℕ → Option Movement
movement_of [] = None
movement_of (a ∷ rest) = movement_from a rest

-- the movement with that ending, where it is one
abbrev pub with_ending : Option Movement → CheckSuffix → Option Notation
with_ending None e = None
with_ending (Some movement) e = Some (record { movement = movement; ending = e })

-- the last byte, where there is one: `+` 43 or `#` 35
abbrev pub ending_of : List ℕ → CheckSuffix
ending_of [] = Nothing
ending_of (b ∷ []) = if b == 43 then Check else (if b == 35 then Mate else Nothing)
ending_of (b ∷ c ∷ bs) = ending_of (c ∷ bs)

-- the text without its last byte
abbrev pub front_of : List ℕ → List ℕ
front_of [] = []
front_of (b ∷ []) = []
front_of (b ∷ c ∷ bs) = b ∷ front_of (c ∷ bs)

-- what a text spells that has this ending: the sign of check or mate is its last byte
abbrev pub notation_by : List ℕ → CheckSuffix → Option Notation
notation_by text Nothing = with_ending (movement_of text) Nothing
notation_by text Check = with_ending (movement_of (front_of text)) Check
notation_by text Mate = with_ending (movement_of (front_of text)) Mate

-- what a text spells, if it does
unfoldable pub notation_of : List ℕ → Option Notation
notation_of text = notation_by text (ending_of text)
