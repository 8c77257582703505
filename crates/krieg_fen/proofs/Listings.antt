-- A side and its listed positions: they are read exactly where the lines spell them, a fault rests on the lines up to it alone, and how the first two lines are written.
use Rattle.std.proofs.Common.{◌≡◌, ℕ, ◌+◌, List, ◌∷◌, ◌++◌, length, None, Result, Ok, sym, subst, ap, ◌∙◌, refl, arith}
use Rattle.krieg_fen.proofs.Common.{Pos, Side, TextFault, ◌>>=◌, Turn, Place, place, taken, side_line, side_form, list_line, list_form, positions_at, listing_at, SpellsListing}
use Rattle.krieg_text.proofs.Locality.{ok_is}
use Rattle.krieg_fen.proofs.FormSpellings.{side_spells, side_again, count_spells, count_again}
use Rattle.krieg_fen.proofs.ListSpellings.{list_spells, list_reads}
use Rattle.krieg_text.proofs.Takings.{steps, taken_at, taken_again, Read}

abbrev by_list : Side → List Pos × Place → Result ((Side × List Pos) × Place) TextFault
by_list who list = Ok ((who, list.0), list.1)

abbrev by_count : Turn → Side → ℕ × Place → Result ((Side × List Pos) × Place) TextFault
by_count turn who count = positions_at turn who None count.0 count.1 >>= by_list who

abbrev by_side : Turn → Side × Place → Result ((Side × List Pos) × Place) TextFault
by_side turn side = taken list_form side.1 >>= by_count turn side.0

-- two lines and what is after them
two_lines : (all behind rest : List (List ℕ)) (s t a b : List ℕ) {more : List (List ℕ)} → all ≡ s ∷ behind → s ≡ a → behind ≡ t ∷ rest → t ≡ b → rest ≡ more → all ≡ a ∷ b ∷ more
two_lines all behind rest s t a b first is second so left = cc

-- the lines that were taken
pub record ListingAt (turn : Turn) (p q : Place) (x : Side × List Pos) : Type 0 where
  pub lines : List (List ℕ)
  pub spelled : SpellsListing turn lines x.0 x.1
  pub left : p.left ≡ lines ++ q.left

-- by what each step gave
lines_taken : (turn : Turn) (p a b q : Place) (who : Side) (n : ℕ) (ps : List Pos) → taken side_form p ≡ Ok (who, a) → taken list_form a ≡ Ok (n, b) → positions_at turn who None n b ≡ Ok (ps, q) → ListingAt turn p q (who, ps)
lines_taken turn p a b q who n ps one two three =
    let side = taken_at side_form p a who one in
    let count = taken_at list_form a b n two in
    let number = count_spells count.text n count.is in
    let lines = list_spells n turn who None b.number b.left ps q three in
    record {
      lines = side_line who ∷ list_line (length ps) ∷ lines.listed;
      spelled = record {
        positions = lines.listed;
        is = refl;
        some = omega (arith, lines.count, number.0);
        few = omega (arith, lines.count, number.1);
        spelled = lines.spelled;
      };
      left = two_lines p.left a.left b.left _ _ _ _ side.left (side_spells side.text who side.is) count.left (number.2 ∙ ap list_line (sym lines.count)) lines.is;
    }

pub listing_spells : (turn : Turn) (p q : Place) (x : Side × List Pos) → listing_at turn p ≡ Ok (x, q) → ListingAt turn p q x
unfolding listing_at
listing_spells turn p q x e =
    let side = steps (taken side_form p) (by_side turn) (x, q) e in
    let count = steps (taken list_form side.mid.1) (by_count turn side.mid.0) (x, q) side.second in
    let list = steps (positions_at turn side.mid.0 None count.mid.0 count.mid.1) (by_list side.mid.0) (x, q) count.second in
    let same = ok_is {A = (Side × List Pos) × Place} ((side.mid.0, list.mid.0), list.mid.1) (x, q) list.second in
    subst (λ (t : (Side × List Pos) × Place). ListingAt turn p t.1 t.0) same
    (lines_taken turn p side.mid.1 count.mid.1 list.mid.1 side.mid.0 count.mid.0 list.mid.0 side.first count.first list.first)

pub listing_reads : (turn : Turn) (ls : List (List ℕ)) (who : Side) (ps : List Pos) (n : ℕ) (rest : List (List ℕ)) → SpellsListing turn ls who ps → Read (listing_at turn (place n (ls ++ rest))) (who, ps) rest
unfolding listing_at
listing_reads turn ls who ps n rest s = record {
  number = n + 1 + 1 + length ps;
  is = ap (λ (t : List (List ℕ)). listing_at turn (place n (t ++ rest))) s.is
      ∙ ap (λ (r : Result (Side × Place) TextFault). r >>= by_side turn) (taken_again side_form n (side_line who) (list_line (length ps) ∷ (s.positions ++ rest)) who (side_again who))
      ∙ ap (λ (r : Result (ℕ × Place) TextFault). r >>= by_count turn who) (taken_again list_form (n + 1) (list_line (length ps)) (s.positions ++ rest) (length ps) (count_again (length ps) s.some s.few))
      ∙ ap (λ (r : Result (List Pos × Place) TextFault). r >>= by_list who) (list_reads s.positions ps turn who None (n + 1 + 1) rest s.spelled);
}
