-- A text is read as a position exactly where it spells it.
use Rattle.std.proofs.Common.{◌≡◌, ℕ, List, [], ◌∷◌, length, Option, Some, None, Result, Ok, Err, refl, sym, ap, ◌∙◌, arith}
use Rattle.std.specs.List.{join_with_byte}
use Rattle.std.proofs.lemmas.List.Splits.{join_with_byte-slice_split}
use Rattle.krieg_fen.proofs.Common.{Side, Rights, BadPosition, Board, Pos, IsValid, first_fault, ◌>>=◌, pieces, board_of, side_of, rights_of, mark_of, FenFault, clocks_at, unless, checked, position_at, position_of, side_text, rights_text, mark_text, AreClocks, Spells}
use Rattle.krieg_board.proofs.Facts.{facts}
use Rattle.krieg_text.proofs.Free.{above_less}
use Rattle.krieg_fen.proofs.FenTexts.{side_again, side_above, rights_again, rights_above, mark_again, mark_above, parts, parts_again}
use Rattle.krieg_fen.proofs.BoardSpellings.{board_spells, board_long, board_high, board_reads, AllAbove, pieces_join}
use Rattle.krieg_fen.proofs.FieldSpellings.{side_spells, rights_spells, mark_spells, clocks_spell, clocks_read, clock_above}

-- what the parts of a text that is read tell
record Told (p : Pos) (a : Option Board) (b : Option Side) (c : Option Rights) (d : Option (Option ℕ)) (clocks : Result (Unit {0}) FenFault) : Type 0 where
  board : a ≡ Some p.board
  side : b ≡ Some p.side
  rights : c ≡ Some p.rights
  mark : d ≡ Some p.mark
  clock : clocks ≡ Ok tt
  none : first_fault p ≡ None

checked_tells : (q p : Pos) (f : Option BadPosition) → first_fault q ≡ f → unless q f ≡ Ok p → (q ≡ p) × (first_fault p ≡ None)
checked_tells q p None is e = let same : q ≡ p = cc in (same, ap first_fault (sym same) ∙ is)
checked_tells q p (Some fault) is e = absurd cc

abbrev all_parts : Option Board → Option Side → Option Rights → Option (Option ℕ) → Result (Unit {0}) FenFault → Result Pos FenFault
all_parts a b c d clocks = parts a b c d >>= λ q. clocks >>= λ u. checked q

parts_tell : (p : Pos) (a : Option Board) (b : Option Side) (c : Option Rights) (d : Option (Option ℕ)) (clocks : Result (Unit {0}) FenFault) → all_parts a b c d clocks ≡ Ok p → Told p a b c d clocks
parts_tell p None b c d clocks e = absurd cc
parts_tell p (Some a) None c d clocks e = absurd cc
parts_tell p (Some a) (Some b) None d clocks e = absurd cc
parts_tell p (Some a) (Some b) (Some c) None clocks e = absurd cc
parts_tell p (Some a) (Some b) (Some c) (Some d) (Err fault) e = absurd cc
parts_tell p (Some a) (Some b) (Some c) (Some d) (Ok u) e =
    let q : Pos = record { board = a; side = b; rights = c; mark = d } in
    let t = checked_tells q p (first_fault q) refl e in
    record {
      board = ap (λ (r : Pos). Some r.board) t.0;
      side = ap (λ (r : Pos). Some r.side) t.0;
      rights = ap (λ (r : Pos). Some r.rights) t.0;
      mark = ap (λ (r : Pos). Some r.mark) t.0;
      clock = refl;
      none = t.1;
    }

spelled : (text a b c d : List ℕ) (clocks : List (List ℕ)) (p : Pos) (r : Result (Unit {0}) FenFault) → text ≡ join_with_byte 32 (a ∷ b ∷ c ∷ d ∷ clocks) → AreClocks clocks → length p.board ≡ 64 →
    Told p (board_of a) (side_of b) (rights_of c) (mark_of d) r → Spells text p
spelled text a b c d clocks p r is are long t =
    let sb : b ≡ side_text p.side = side_spells b p.side t.side in
    let sc : c ≡ rights_text p.rights = rights_spells c p.rights t.rights in
    let sd : d ≡ mark_text p.mark = mark_spells d p.mark t.mark in
    record {
      board = a;
      clocks = clocks;
      joined = is ∙ ap (λ (x : List ℕ). join_with_byte 32 (a ∷ x ∷ c ∷ d ∷ clocks)) sb ∙ ap (λ (x : List ℕ). join_with_byte 32 (a ∷ side_text p.side ∷ x ∷ d ∷ clocks)) sc ∙ ap (λ (x : List ℕ). join_with_byte 32 (a ∷ side_text p.side ∷ rights_text p.rights ∷ x ∷ clocks)) sd;
      is_board = board_spells a p.board t.board;
      are_clocks = are;
      is_valid = record { squares = long; no_fault = t.none };
    }

fields_spell : (fs : List (List ℕ)) (text : List ℕ) (p : Pos) → text ≡ join_with_byte 32 fs → position_at fs ≡ Ok p → Spells text p
fields_spell [] text p is e = absurd cc
fields_spell (a ∷ []) text p is e = absurd cc
fields_spell (a ∷ b ∷ []) text p is e = absurd cc
fields_spell (a ∷ b ∷ c ∷ []) text p is e = absurd cc
fields_spell (a ∷ b ∷ c ∷ d ∷ []) text p is e =
    let t = parts_tell p (board_of a) (side_of b) (rights_of c) (mark_of d) (Ok tt) e in
    spelled text a b c d [] p (Ok tt) is tt (board_long a p.board t.board) t
fields_spell (a ∷ b ∷ c ∷ d ∷ h ∷ []) text p is e = absurd cc
fields_spell (a ∷ b ∷ c ∷ d ∷ h ∷ f ∷ []) text p is e =
    let t = parts_tell p (board_of a) (side_of b) (rights_of c) (mark_of d) (clocks_at h f) e in
    spelled text a b c d (h ∷ f ∷ []) p (clocks_at h f) is (clocks_spell h f t.clock) (board_long a p.board t.board) t
fields_spell (a ∷ b ∷ c ∷ d ∷ h ∷ f ∷ g ∷ k) text p is e = absurd cc

-- what is read is spelled so
pub position_spells : (text : List ℕ) (p : Pos) → position_of text ≡ Ok p → Spells text p
unfolding position_of
position_spells text p e = fields_spell (pieces 32 text) text p (sym (join_with_byte-slice_split 32 text)) e

clocks_above : (clocks : List (List ℕ)) → AreClocks clocks → AllAbove 32 clocks
clocks_above [] are = tt
clocks_above (h ∷ []) are = absurd are
clocks_above (h ∷ f ∷ []) are = (above_less 32 47 h (omega arith) (clock_above h are.0), (above_less 32 47 f (omega arith) (clock_above f are.1), tt))
clocks_above (h ∷ f ∷ g ∷ k) are = absurd are

fields_read : (p : Pos) (a : List ℕ) (clocks : List (List ℕ)) → AreClocks clocks → board_of a ≡ Some p.board → IsValid p →
    position_at (a ∷ side_text p.side ∷ rights_text p.rights ∷ mark_text p.mark ∷ clocks) ≡ Ok p
fields_read p a [] are board valid =
    ap (λ (r : Result Pos FenFault). r >>= checked)
    (parts_again p _ _ _ _ board (side_again p.side) (rights_again p.rights) (mark_again p.board p.side p.mark (facts p valid).mark))
    ∙ ap (unless p) valid.no_fault
fields_read p a (h ∷ []) are board valid = absurd are
fields_read p a (h ∷ f ∷ []) are board valid =
    ap (λ (r : Result Pos FenFault). r >>= λ q. clocks_at h f >>= λ u. checked q)
    (parts_again p _ _ _ _ board (side_again p.side) (rights_again p.rights) (mark_again p.board p.side p.mark (facts p valid).mark))
    ∙ ap (λ (c : Result (Unit {0}) FenFault). c >>= λ u. checked p) (clocks_read h f are.0 are.1)
    ∙ ap (unless p) valid.no_fault
fields_read p a (h ∷ f ∷ g ∷ k) are board valid = absurd are

-- what is spelled so is read
pub position_reads : (text : List ℕ) (p : Pos) → Spells text p → position_of text ≡ Ok p
unfolding position_of
position_reads text p s =
    ap (λ (t : List ℕ). position_at (pieces 32 t)) s.joined
    ∙ ap position_at (pieces_join 32 s.board (side_text p.side ∷ rights_text p.rights ∷ mark_text p.mark ∷ s.clocks) (board_high s.board p.board s.is_board)
    (side_above p.side, (rights_above p.rights, (mark_above p.mark, clocks_above s.clocks s.are_clocks))))
    ∙ fields_read p s.board s.clocks s.are_clocks (board_reads s.board p.board s.is_valid.squares s.is_board) s.is_valid

pub ruleset spellings = (position_spells, position_reads)
