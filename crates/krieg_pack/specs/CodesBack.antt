-- Each code gives back what it stands for, so no two men, marks, sides or rights have one code.
use Rattle.std.proofs.Common.{◌≡◌, ℕ, ◌+◌, ◌-◌, Bool, true, false, List, [], ◌∷◌, refl, ap, ◌∙◌, arith, map}
use Rattle.std.specs.Prelude.{Option, Some, None, ◌==◌}
use Rattle.std.proofs.lemmas.Bool.{cond-false}
use Rattle.std.proofs.lemmas.Bool.Decides.{nat_tests}
use Rattle.krieg_board.specs.Men.{bits_of}
use Rattle.krieg_board.specs.declared.men.Side.{Side}
use Rattle.krieg_board.specs.declared.men.Side.TheVariants.{White, Black}
use Rattle.krieg_board.specs.declared.men.Kind.{Kind}
use Rattle.krieg_board.specs.declared.men.Kind.TheVariants.{Pawn, Knight, Bishop, Rook, Queen, King}
use Rattle.krieg_board.specs.declared.men.Man.{Man}
use Rattle.krieg_board.specs.declared.men.Rights.{Rights}
use Rattle.krieg_pack.specs.Codes.{man_code, mark_code, side_code}
use Rattle.krieg_pack.specs.Decoding.{man_of, mark_of, side_of, rights_of}

-- each man
by_kind : (side : Side) (kind : Kind) → man_of (man_code (Some (record { side = side; kind = kind }))) ≡ Some (record { side = side; kind = kind })
by_kind White Pawn = refl
by_kind White Knight = refl
by_kind White Bishop = refl
by_kind White Rook = refl
by_kind White Queen = refl
by_kind White King = refl
by_kind Black Pawn = refl
by_kind Black Knight = refl
by_kind Black Bishop = refl
by_kind Black Rook = refl
by_kind Black Queen = refl
by_kind Black King = refl

-- a man, or none, from its code
pub man_back : (m : Option Man) → man_of (man_code m) ≡ m
man_back None = refl
man_back (Some m) = by_kind m.side m.kind

-- a row of squares from its codes
pub men_back : (ms : List (Option Man)) → map man_of (map man_code ms) ≡ ms
men_back [] = refl
men_back (m ∷ ms) = λ i. man_back m i ∷ men_back ms i

-- the code of a side gives the side back
pub side_back : (s : Side) → side_of (side_code s) ≡ s
side_back White = refl
side_back Black = refl

-- the code of a mark gives the mark back
pub mark_back : (m : Option ℕ) → mark_of (mark_code m) ≡ m
mark_back None = refl
mark_back (Some s) =
    let some : (s + 1 == 0) ≡ false = grind (arith, nat_tests) in
    cond-false (s + 1 == 0) None (Some (s + 1 - 1)) some ∙ ap Some (omega arith)

-- each of the sixteen sets of rights
by_bits : (a b c d : Bool) → rights_of (bits_of (record { white_short = a; white_long = b; black_short = c; black_long = d })) ≡ record { white_short = a; white_long = b; black_short = c; black_long = d }
by_bits true true true true = refl
by_bits true true true false = refl
by_bits true true false true = refl
by_bits true true false false = refl
by_bits true false true true = refl
by_bits true false true false = refl
by_bits true false false true = refl
by_bits true false false false = refl
by_bits false true true true = refl
by_bits false true true false = refl
by_bits false true false true = refl
by_bits false true false false = refl
by_bits false false true true = refl
by_bits false false true false = refl
by_bits false false false true = refl
by_bits false false false false = refl

-- the bits of rights give the rights back
pub rights_back : (r : Rights) → rights_of (bits_of r) ≡ r
rights_back r = by_bits r.white_short r.white_long r.black_short r.black_long
