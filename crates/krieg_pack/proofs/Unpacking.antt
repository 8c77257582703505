-- Unpacking gives back what was packed, and what was unpacked packs to the same fields.
use Rattle.std.proofs.Common.{◌≡◌, ℕ, ◌+◌, ◌*◌, ◌^◌, ◌<◌, ◌≤◌, cond, length, refl, sym, ap, subst, ◌∙◌, arith, map}
use Rattle.std.proofs.lemmas.List.{length-map, ext_get_or, get_or-map}
use Rattle.std.specs.Prelude.{None}
use Rattle.krieg_pack.proofs.Common.{bits_of, Pos, Board, man_at, has, squares, IsValid, man_code, mark_code, side_code, man_of, mark_of, side_of, rights_of, plane, code_at, packed, unpacked, IsPacked, Inside, man_back, side_back, mark_back, rights_back}
use Rattle.krieg_board.proofs.BoardSets.{has_squares_where, squares_where_is, squares_where_small}
use Rattle.krieg_board.proofs.SquareTests.{length_squares, get_or_squares}
use Rattle.krieg_pack.proofs.CodeBits.{code_from_bits}

-- a set that has the squares whose code has bit i
pub plane_is : (n i : ℕ) (b : Board) → n < 2 ^ 64 → ((k : ℕ) → k < 64 → has n k ≡ has (man_code (man_at b k)) i) → n ≡ plane i b
unfolding plane
plane_is n i b small has_it = squares_where_is n (λ k. has (man_code (man_at b k)) i) small has_it

-- fields whose sets have the bits of the codes of a board
pub record Coded (k : Inside) (b : Board) : Type 0 where
  pub ones : (s : ℕ) → s < 64 → has k.ones s ≡ has (man_code (man_at b s)) 0
  pub twos : (s : ℕ) → s < 64 → has k.twos s ≡ has (man_code (man_at b s)) 1
  pub fours : (s : ℕ) → s < 64 → has k.fours s ≡ has (man_code (man_at b s)) 2
  pub eights : (s : ℕ) → s < 64 → has k.eights s ≡ has (man_code (man_at b s)) 3

pub packed_coded : (p : Pos) → Coded (packed p) p.board
unfolding packed plane
packed_coded p = record {
  ones = has_squares_where (λ s. has (man_code (man_at p.board s)) 0);
  twos = has_squares_where (λ s. has (man_code (man_at p.board s)) 1);
  fours = has_squares_where (λ s. has (man_code (man_at p.board s)) 2);
  eights = has_squares_where (λ s. has (man_code (man_at p.board s)) 3);
}

-- the four sets are numbers of 64 bits
pub record Narrow (k : Inside) : Type 0 where
  pub ones : k.ones < 2 ^ 64
  pub twos : k.twos < 2 ^ 64
  pub fours : k.fours < 2 ^ 64
  pub eights : k.eights < 2 ^ 64

packed_narrow : (p : Pos) → Narrow (packed p)
unfolding packed plane
packed_narrow p = record {
  ones = squares_where_small (λ s. has (man_code (man_at p.board s)) 0);
  twos = squares_where_small (λ s. has (man_code (man_at p.board s)) 1);
  fours = squares_where_small (λ s. has (man_code (man_at p.board s)) 2);
  eights = squares_where_small (λ s. has (man_code (man_at p.board s)) 3);
}

-- the code of a square from its four bits
pub coded_at : (k : Inside) (b : Board) → Coded k b → (s : ℕ) → s < 64 → code_at k s ≡ man_code (man_at b s)
coded_at k b c s h =
    (λ i. cond (c.ones s h i) 1 0 + 2 * cond (c.twos s h i) 1 0 + 4 * cond (c.fours s h i) 1 0 + 8 * cond (c.eights s h i) 1 0)
    ∙ code_from_bits (man_at b s)

-- a board from its four sets
board_back : (k : Inside) (b : Board) → Coded k b → length b ≡ 64 → map (λ s. man_of (code_at k s)) squares ≡ b
board_back k b c l =
    let size = length-map squares (λ s. man_of (code_at k s)) in
    ext_get_or None _ b (size ∙ length_squares ∙ sym l)
    (λ s h. let below : s < 64 = omega (arith, size, length_squares) in
    get_or-map (λ s. man_of (code_at k s)) squares s 0 None (omega (arith, length_squares))
    ∙ ap (λ s. man_of (code_at k s)) (get_or_squares s 0 below)
    ∙ ap man_of (coded_at k b c s below)
    ∙ man_back (man_at b s))

-- a position from its fields
unpacked_packed : (p : Pos) → length p.board ≡ 64 → unpacked (packed p) ≡ p
unfolding unpacked packed
unpacked_packed p l = λ i. record {
  board = board_back (packed p) p.board (packed_coded p) l i;
  side = side_back p.side i;
  rights = rights_back p.rights i;
  mark = mark_back p.mark i;
}

-- fields that were packed from a valid position stand for it
pub packed_view : (p : Pos) (k : Inside) → IsValid p → k ≡ packed p → unpacked k ≡ p
packed_view p k valid is = ap unpacked is ∙ unpacked_packed p valid.squares

-- and are what a packed position must be
pub packed_is : (p : Pos) (k : Inside) → IsValid p → k ≡ packed p → k.mark ≤ 64 → IsPacked k
packed_is p k valid is low =
    let back = packed_view p k valid is in
    record { valid = subst IsValid (sym back) valid; mark = low; exact = ap packed back ∙ sym is }

-- fields that were made one by one
pub fields_packed : (p : Pos) (k : Inside) →
    k.ones ≡ plane 0 p.board → k.twos ≡ plane 1 p.board → k.fours ≡ plane 2 p.board → k.eights ≡ plane 3 p.board →
    k.rights ≡ bits_of p.rights → k.mark ≡ mark_code p.mark → k.side ≡ side_code p.side → k ≡ packed p
unfolding packed
fields_packed p k e1 e2 e3 e4 er em es = λ i. record { ones = e1 i; twos = e2 i; fours = e3 i; eights = e4 i; rights = er i; mark = em i; side = es i }

-- what the fields of a packed position have to do with it
pub record Stand (k : Inside) (p : Pos) : Type 0 where
  pub coded : Coded k p.board
  pub narrow : Narrow k
  pub size : length p.board ≡ 64
  pub rights : k.rights ≡ bits_of p.rights
  pub mark : k.mark ≡ mark_code p.mark
  pub side : k.side ≡ side_code p.side

packed_stand : (p : Pos) → length p.board ≡ 64 → Stand (packed p) p
unfolding packed
packed_stand p l = record { coded = packed_coded p; narrow = packed_narrow p; size = l; rights = refl; mark = refl; side = refl }

pub stand : (k : Inside) (p : Pos) → IsPacked k → unpacked k ≡ p → Stand k p
stand k p v e =
    subst (λ q. Stand k q) e (subst (λ j. Stand j (unpacked k)) v.exact (packed_stand (unpacked k) v.valid.squares))

-- a position that was made part by part
pub unpacked_is : (k : Inside) (p : Pos) → p.board ≡ (unpacked k).board → p.side ≡ side_of k.side → p.rights ≡ rights_of k.rights → p.mark ≡ mark_of k.mark → p ≡ unpacked k
unfolding unpacked
unpacked_is k p eb es er em = λ i. record { board = eb i; side = es i; rights = er i; mark = em i }
