-- Equal sides and kinds, and what a test of a man tells.
use Rattle.std.proofs.Common.{◌≡◌, true, false, ◌&&◌, refl, inl, inr}
use Rattle.std.proofs.Math.Bool.{and_comm}
use Rattle.std.proofs.lemmas.Bool.{and_parts, and_right, or_cases}
use Rattle.std.specs.Prelude.{Option, Some, None}
use Rattle.krieg_board.proofs.Common.{Side, White, Black, Kind, Pawn, King, Man, other, is_same_side, is_same_kind, is_man, is_of, is_kind, is_pawn}
use Rattle.krieg_board.specs.declared.men.Kind.TheVariants.{Knight, Bishop, Rook, Queen}

pub same_side_eq : (a b : Side) → is_same_side a b ≡ true → a ≡ b
same_side_eq White White h = refl
same_side_eq Black Black h = refl
same_side_eq White Black h = cc
same_side_eq Black White h = cc

pub same_side_self : (a : Side) → is_same_side a a ≡ true
same_side_self White = refl
same_side_self Black = refl

pub same_side_other : (a : Side) → is_same_side a (other a) ≡ false
same_side_other White = refl
same_side_other Black = refl

pub other_other : (a : Side) → other (other a) ≡ a
other_other White = refl
other_other Black = refl

pub same_kind_eq : (a b : Kind) → is_same_kind a b ≡ true → a ≡ b
same_kind_eq Pawn Pawn h = refl
same_kind_eq Knight Knight h = refl
same_kind_eq Bishop Bishop h = refl
same_kind_eq Rook Rook h = refl
same_kind_eq Queen Queen h = refl
same_kind_eq King King h = refl
same_kind_eq _ _ h = cc

-- a man that the test finds has that side and kind
pub is_man_tells : (side : Side) (which : Kind) (man : Man) → is_man side which (Some man) ≡ true → (man.side ≡ side) × (man.kind ≡ which)
is_man_tells side which man h =
    let (s, k) = and_parts (is_same_side man.side side) (is_same_kind man.kind which) h in
    (same_side_eq man.side side s, same_kind_eq man.kind which k)

-- a man of another kind is not found
pub is_man_other_kind : (side : Side) (which : Kind) (man : Man) → is_same_kind man.kind which ≡ false → is_man side which (Some man) ≡ false
is_man_other_kind side which man h = and_right (is_same_side man.side side) (is_same_kind man.kind which) h

-- the men of a kind that are of a side are the side's men of that kind
pub kind_side : (which : Kind) (side : Side) (x : Option Man) → (is_kind which x && is_of side x) ≡ is_man side which x
kind_side which side None = refl
kind_side which side (Some man) = and_comm (is_same_kind man.kind which) (is_same_side man.side side)

pub is_pawn_tells : (man : Man) → is_pawn (Some man) ≡ true → man.kind ≡ Pawn
is_pawn_tells man h =
    elim (or_cases (is_man White Pawn (Some man)) (is_man Black Pawn (Some man)) h) [
      | inl w ↦ (is_man_tells White Pawn man w).1
      | inr w ↦ (is_man_tells Black Pawn man w).1
    ]

pub is_pawn_not : (man : Man) → is_same_kind man.kind Pawn ≡ false → is_pawn (Some man) ≡ false
is_pawn_not man h = rw (is_man_other_kind White Pawn man h, is_man_other_kind Black Pawn man h)
