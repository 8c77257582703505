-- Positions that differ in the square of one man alone, as a set of them is kept.
use Rattle.std.specs.Prelude.{ℕ, ◌-◌, ◌*◌, ◌/◌, ◌%◌, ◌^◌, ◌==◌, nat_lt, Bool, ◌&&◌, List, [], ◌∷◌, length, map, fold, slice_get, Option, Some, None, if◌then◌else◌, bit_and, bit_or, bit_xor}
use Rattle.std.specs.Int.{leading_zeros, w64}
use Rattle.std.specs.Cmp.Lexicographic.{pointwise}
use Rattle.krieg_board.specs.Pos.{Pos}
use Rattle.krieg_board.specs.Sets.{has}
use Rattle.krieg_board.specs.Squares.{gathered}
use Rattle.krieg_pack.specs.Packing.{packed, unpacked}
use Rattle.krieg_pack.specs.declared.one_man.OneMan.{OneMan}
use Rattle.krieg_pack.specs.declared.packed.Packed.TheInside.{Inside}

-- a set of squares with one more, where a part of a code is not 0
abbrev pub with_man : ℕ → ℕ → ℕ → ℕ
with_man set part square = if part == 0 then set else bit_or set square

-- the fields of the position with the man at a place, from h8 on down
abbrev pub at : OneMan → ℕ → Inside
at h k = record {
  ones = with_man h.ones (bit_and h.man 1) (2 ^ 63 / 2 ^ k);
  twos = with_man h.twos (bit_and h.man 2) (2 ^ 63 / 2 ^ k);
  fours = with_man h.fours (bit_and h.man 4) (2 ^ 63 / 2 ^ k);
  eights = with_man h.eights (bit_and h.man 8) (2 ^ 63 / 2 ^ k);
  rights = h.rights;
  mark = h.mark;
  side = h.side;
}

-- the fields of all of them, from the first place on
unfoldable pub fields_of : OneMan → List Inside
fields_of h = gathered (λ k. if has h.places k then at h k ∷ [] else []) 64

-- the positions themselves
abbrev pub members_of : OneMan → List Pos
members_of h = map unpacked (fields_of h)

-- all fields are the same
abbrev pub same_fields : Inside → Inside → Bool
same_fields k j = k.ones == j.ones && (k.twos == j.twos && (k.fours == j.fours && (k.eights == j.eights && (k.rights == j.rights && (k.mark == j.mark && k.side == j.side)))))

-- they are the positions of a list
unfoldable pub are : OneMan → List Pos → Bool
are h ps = pointwise same_fields (fields_of h) (map packed ps)

-- the squares of men, from four sets
abbrev pub men : ℕ → ℕ → ℕ → ℕ → ℕ
men ones twos fours eights = bit_or (bit_or ones twos) (bit_or fours eights)

-- those of a position
abbrev pub men_of : Inside → ℕ
men_of k = men k.ones k.twos k.fours k.eights

-- the place of the highest of some squares, as a set
abbrev pub place_of : ℕ → ℕ
place_of squares = 1 * 2 ^ (leading_zeros w64 (bit_or squares 1) % 64) % 2 ^ 64

-- the places where the positions have men that are not among some squares
unfoldable pub places_over : ℕ → List Pos → ℕ
places_over squares ps = fold (λ places p. bit_or places (place_of (bit_xor squares (men_of (packed p))))) 0 ps

-- the part of a code, where two sets differ
abbrev pub part : ℕ → ℕ → ℕ → ℕ
part a b n = if a == b then 0 else n

-- what two positions have in common, with the man in which they differ, and the places where the men of some positions are more
abbrev pub common : Inside → Inside → List Pos → OneMan
common p q ps = record {
  ones = bit_and p.ones q.ones;
  twos = bit_and p.twos q.twos;
  fours = bit_and p.fours q.fours;
  eights = bit_and p.eights q.eights;
  rights = p.rights;
  mark = p.mark;
  side = p.side;
  man = bit_or (bit_or (part p.ones q.ones 1) (part p.twos q.twos 2)) (bit_or (part p.fours q.fours 4) (part p.eights q.eights 8));
  places = places_over (men (bit_and p.ones q.ones) (bit_and p.twos q.twos) (bit_and p.fours q.fours) (bit_and p.eights q.eights)) ps;
}

-- the positions as such ones, from the first and the last of them, where they are
abbrev pub between : Option Pos → Option Pos → List Pos → Option OneMan
between (Some p) (Some q) ps = if are (common (packed p) (packed q) ps) ps then Some (common (packed p) (packed q) ps) else None
between None q ps = None
between (Some p) None ps = None

-- the positions of a list as such ones, where they are
unfoldable pub one_man : List Pos → Option OneMan
one_man ps = if nat_lt 64 (length ps) then None else between (slice_get ps 0) (slice_get ps (length ps - 1)) ps
