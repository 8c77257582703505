-- The kings, the numbers of men, the pawns' ranks and the castling rights after a move are those of a valid position.
use Rattle.std.proofs.Common.{◌≡◌, ℕ, Bool, true, false, not, ◌&&◌, ◌||◌, refl, ◌==◌, nat_le, ◌+◌, ◌≤◌, arith, sym, ◌≢◌, ◌∙◌, ap, inl, inr}
use Rattle.std.proofs.lemmas.Bool.{and_from, and_parts, not-true, eqb-true, eq-eqb, eqb-false, both_ways}
use Rattle.std.specs.Prelude.{Some}
use Rattle.std.proofs.lemmas.Bool.Decides.{nat_tests}
use Rattle.krieg_moves.proofs.Common.{Side, White, Black, Pawn, King, Man, Move, is_same_side, is_same_kind, Pos, rank_of, Board, man_at, is_of, is_man, is_pawn, has_kings, has_pawns_inside, has_castles, has_castle, is_small, count_kind, count_side, king_square, corner, rook_file, placed, rights_after, keeps_right, Wing, Short, Long}
use Rattle.krieg_board.specs.declared.men.Kind.TheVariants.{Rook}
use Rattle.krieg_board.proofs.SquareTests.{every_square_at, every_square_all}
use Rattle.krieg_board.proofs.Facts.{Facts}
use Rattle.krieg_board.proofs.Counting.{one}
use Rattle.krieg_moves.proofs.Effects.{Effect}
use Rattle.krieg_moves.proofs.Movers.{Mover}
use Rattle.krieg_moves.proofs.Castling.{four_castles, held_castle}
use Rattle.krieg_moves.proofs.Arrivals.{Arrives}

pub kings_after : (p : Pos) (m : Move) (man : Man) (next : Board) → Facts p → Arrives p m man → Effect p.board man m next → has_kings next ≡ true
kings_after p m man next f a e =
    let was = and_parts (count_kind p.board White King == 1) (count_kind p.board Black King == 1) f.kings in
    and_from (count_kind next White King == 1) (count_kind next Black King == 1)
    (eq-eqb (count_kind next White King) 1 (one_king White (eqb-true (count_kind p.board White King) 1 was.0)))
    (eq-eqb (count_kind next Black King) 1 (one_king Black (eqb-true (count_kind p.board Black King) 1 was.1)))
  where
    sums : (n o x t y : ℕ) → n + x + t ≡ o + y → y ≡ x → t ≡ 0 → o ≡ 1 → n ≡ 1
    sums n o x t y c same none h = omega arith

    one_king : (side : Side) → count_kind p.board side King ≡ 1 → count_kind next side King ≡ 1
    one_king side h =
        let c = e.counts (is_man side King) refl in
        let same : one (is_man side King (Some (placed man m))) ≡ one (is_man side King (Some man)) = ap one (a.king side) in
        let none : one (is_man side King e.taken) ≡ 0 = ap one (e.no_king_taken side) in
        sums (count_kind next side King) (count_kind p.board side King) (one (is_man side King (Some man))) (one (is_man side King e.taken)) (one (is_man side King (Some (placed man m)))) c same none h

pub small_after : (p : Pos) (m : Move) (man : Man) (next : Board) → Facts p → Arrives p m man → Effect p.board man m next → (is_small next White && is_small next Black) ≡ true
small_after p m man next f a e =
    let was = and_parts (is_small p.board White) (is_small p.board Black) f.small in
    and_from (is_small next White) (is_small next Black) (small White was.0) (small Black was.1)
  where
    fewer : (n o x t y : ℕ) → n + x + t ≡ o + y → y ≤ x → n ≤ o
    fewer n o x t y c h = omega arith

    le_trans_test : (n o k : ℕ) → n ≤ o → nat_le o k ≡ true → nat_le n k ≡ true
    le_trans_test n o k h t = grind (arith, nat_tests)

    small : (side : Side) → is_small p.board side ≡ true → is_small next side ≡ true
    small side h =
        let was = and_parts (nat_le (count_side p.board side) 16) (nat_le (count_kind p.board side Pawn) 8) h in
        let men = fewer (count_side next side) (count_side p.board side) (one (is_of side (Some man))) (one (is_of side e.taken)) (one (is_of side (Some (placed man m)))) (e.counts (is_of side) refl) (omega arith) in
        let pawns = fewer (count_kind next side Pawn) (count_kind p.board side Pawn) (one (is_man side Pawn (Some man))) (one (is_man side Pawn e.taken)) (one (is_man side Pawn (Some (placed man m)))) (e.counts (is_man side Pawn) refl) (a.pawn side) in
        and_from (nat_le (count_side next side) 16) (nat_le (count_kind next side Pawn) 8)
        (le_trans_test (count_side next side) (count_side p.board side) 16 men was.0) (le_trans_test (count_kind next side Pawn) (count_kind p.board side Pawn) 8 pawns was.1)

inside_test : (t : Bool) (r : ℕ) → (t ≡ true → (r ≢ 0) × (r ≢ 7)) → not (t && (r == 0 || r == 7)) ≡ true
inside_test false r h = refl
inside_test true r h = let k = h refl in edge r k.0 k.1
  where
    edge : (r : ℕ) → r ≢ 0 → r ≢ 7 → not (r == 0 || r == 7) ≡ true
    edge r a b = grind (arith, nat_tests)

pub pawns_after : (p : Pos) (m : Move) (man : Man) (next : Board) → Facts p → Arrives p m man → Effect p.board man m next → has_pawns_inside next ≡ true
unfolding has_pawns_inside
pawns_after p m man next f a e =
    every_square_all (λ s. not (is_pawn (man_at next s) && (rank_of s == 0 || rank_of s == 7))) (λ s l.
    elim (e.each s) [
      | inl same ↦ ap (λ x. not (is_pawn x && (rank_of s == 0 || rank_of s == 7))) same
          ∙ every_square_at (λ s. not (is_pawn (man_at p.board s) && (rank_of s == 0 || rank_of s == 7))) f.pawns s l
      | inr r ↦ elim r [
        | inl none ↦ ap (λ t. not (t && (rank_of s == 0 || rank_of s == 7))) none
        | inr there ↦ inside_test (is_pawn (man_at next s)) (rank_of s)
            (λ q. (let t = a.inside (ap is_pawn (sym there.1) ∙ q) in ((λ z. t.0 (sym (ap rank_of there.0) ∙ z)), (λ z. t.1 (sym (ap rank_of there.0) ∙ z)))))
      ]
    ])

implied : (t x : Bool) → (t ≡ true → x ≡ true) → (not t || x) ≡ true
implied true x h = h refl
implied false x h = refl

castle_after : (p : Pos) (m : Move) (man : Man) (next : Board) → Mover p m man → Effect p.board man m next → (held : Bool) (wing : Wing) (side : Side) →
    has_castle p.board held side (rook_file wing) ≡ true → has_castle next (keeps_right held wing side man m) side (rook_file wing) ≡ true
castle_after p m man next v e held wing side h =
    implied (keeps_right held wing side man m) (is_man side King (man_at next (king_square side)) && is_man side Rook (man_at next (corner wing side))) (λ k.
    let a = and_parts held (not (is_same_kind man.kind King && is_same_side man.side side) && (not (m.from == corner wing side) && not (m.to == corner wing side))) k in
    let b = and_parts (not (is_same_kind man.kind King && is_same_side man.side side)) (not (m.from == corner wing side) && not (m.to == corner wing side)) a.1 in
    let c = and_parts (not (m.from == corner wing side)) (not (m.to == corner wing side)) b.1 in
    let still = not-true (is_same_kind man.kind King && is_same_side man.side side) b.0 in
    let not_from = eqb-false m.from (corner wing side) (not-true (m.from == corner wing side) c.0) in
    let not_to = eqb-false m.to (corner wing side) (not-true (m.to == corner wing side) c.1) in
    let was = held_castle p.board held side (rook_file wing) h a.0 in
    let rook = e.kept (corner wing side) side Rook was.1 refl (λ z. not_from (sym z)) (λ z. not_to (sym z)) still in
    let king' = e.kept (king_square side) side King was.0 refl (λ z. moves_not z was.0 still) (λ z. taken_not z was.0) still in
    and_from (is_man side King (man_at next (king_square side))) (is_man side Rook (man_at next (corner wing side)))
    (ap (is_man side King) king' ∙ was.0) (ap (is_man side Rook) rook ∙ was.1))
  where
    moves_not : king_square side ≡ m.from → is_man side King (man_at p.board (king_square side)) ≡ true → (is_same_kind man.kind King && is_same_side man.side side) ≡ false → ⊥
    moves_not z here still =
        let it : is_man side King (Some man) ≡ true = ap (is_man side King) (sym v.departs.stands ∙ ap (man_at p.board) (sym z)) ∙ here in
        let parts = and_parts (is_same_side man.side side) (is_same_kind man.kind King) it in
        let yes = and_from (is_same_kind man.kind King) (is_same_side man.side side) parts.1 parts.0 in
        both_ways (is_same_kind man.kind King && is_same_side man.side side) still yes

    taken_not : king_square side ≡ m.to → is_man side King (man_at p.board (king_square side)) ≡ true → ⊥
    taken_not z here = both_ways (is_man side King (man_at p.board m.to)) (e.no_king_there side) (ap (λ s. is_man side King (man_at p.board s)) (sym z) ∙ here)

pub castles_after : (p : Pos) (m : Move) (man : Man) (next : Board) → Facts p → Mover p m man → Effect p.board man m next → has_castles next (rights_after p.rights man m) ≡ true
castles_after p m man next f v e =
    let c = four_castles p.board p.rights f.castles in
    let r = rights_after p.rights man m in
    let ws = castle_after p m man next v e p.rights.white_short Short White c.white_short in
    let wl = castle_after p m man next v e p.rights.white_long Long White c.white_long in
    let bs = castle_after p m man next v e p.rights.black_short Short Black c.black_short in
    let bl = castle_after p m man next v e p.rights.black_long Long Black c.black_long in
    and_from (has_castle next r.white_short White 7) (has_castle next r.white_long White 0 && (has_castle next r.black_short Black 7 && has_castle next r.black_long Black 0)) ws
    (and_from (has_castle next r.white_long White 0) (has_castle next r.black_short Black 7 && has_castle next r.black_long Black 0) wl
    (and_from (has_castle next r.black_short Black 7) (has_castle next r.black_long Black 0) bs bl))
