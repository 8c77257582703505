-- A position has the hand of itself.
use Rattle.std.proofs.Common.{◌≡◌, Bool, true, false, not, cond, Option, Some, None, refl}
use Rattle.krieg_fen.proofs.Common.{is_same_side, is_same_kind, is_same_bool, man_at, Pos, is_same_of, has_same_men, has_same_rights, same_hand, Side, White, Black, Kind, Pawn, King, Man, Rights}
use Rattle.krieg_board.specs.declared.men.Kind.TheVariants.{Knight, Bishop, Rook, Queen}
use Rattle.krieg_board.proofs.SquareTests.{every_square_all}

side_self : (a : Side) → is_same_side a a ≡ true
side_self White = refl
side_self Black = refl

kind_self : (k : Kind) → is_same_kind k k ≡ true
kind_self Pawn = refl
kind_self Knight = refl
kind_self Bishop = refl
kind_self Rook = refl
kind_self Queen = refl
kind_self King = refl

bool_self : (b : Bool) → is_same_bool b b ≡ true
bool_self true = refl
bool_self false = refl

of_self : (who : Side) (a : Option Man) → is_same_of who a a ≡ true
of_self who None = refl
of_self who (Some a) = rw (side_self a.side, kind_self a.kind) (go (is_same_side a.side who))
  where
    go : (t : Bool) → cond t true (not t) ≡ true
    go true = refl
    go false = refl

rights_self : (who : Side) (r : Rights) → has_same_rights who r r ≡ true
rights_self White r = rw (bool_self r.white_short, bool_self r.white_long) refl
rights_self Black r = rw (bool_self r.black_short, bool_self r.black_long) refl

pub hand_self : (who : Side) (p : Pos) → same_hand p p who ≡ true
unfolding same_hand has_same_men
hand_self who p =
    rw (every_square_all (λ s. is_same_of who (man_at p.board s) (man_at p.board s)) (λ s l. of_self who (man_at p.board s)), rights_self who p.rights, side_self p.side) refl
