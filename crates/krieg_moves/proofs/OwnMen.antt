-- A side's own men on the board after a move: after its own, and after the opponent's.
use Rattle.std.proofs.Common.{◌≡◌, ℕ, Bool, true, false, not, ◌&&◌, refl, cond, ◌==◌, ◌<◌, length, arith, sym, set, ◌∙◌, ap}
use Rattle.std.proofs.lemmas.Bool.{and_parts, cond-false, cond-true, eqb-true, eqb-false, ne_eqb}
use Rattle.std.specs.Prelude.{Option, Some, None}
use Rattle.std.proofs.Math.ListN.{length-set}
use Rattle.krieg_moves.proofs.Common.{Side, White, Black, Pawn, Man, Move, other, is_same_side, is_same_kind, Pos, Board, man_at, file_of, corner, crossing, board_after, moved, placed, with_rook, is_en_passant, is_castling, is_marked, passed_square, Wing, Short, Long}
use Rattle.krieg_board.specs.declared.men.Kind.TheVariants.{Rook}
use Rattle.krieg_board.proofs.Facts.{Facts}
use Rattle.krieg_board.proofs.MenLemmas.{same_side_self, same_kind_eq}
use Rattle.krieg_moves.proofs.Boards.{man_at_set_same, man_at_set_other, length_moved}
use Rattle.krieg_moves.proofs.Movers.{Mover}
use Rattle.krieg_moves.proofs.Pawns.{Passing, passing, pawn_castles_not}
use Rattle.krieg_moves.proofs.Castling.{Castling, castling, squares_apart}

-- the man, where it is of that side
abbrev pub own : Side → Option Man → Option Man
own who None = None
own who (Some man) = cond (is_same_side man.side who) (Some man) None

pub own_man : (who : Side) (man : Man) → man.side ≡ who → own who (Some man) ≡ Some man
own_man who man e = cond-true (is_same_side man.side who) (Some man) None (ap (λ x. is_same_side x who) e ∙ same_side_self who)

pub other_side : (who : Side) → is_same_side (other who) who ≡ false
other_side White = refl
other_side Black = refl

own_enemy : (who : Side) (man : Man) → man.side ≡ other who → own who (Some man) ≡ None
own_enemy who man e = cond-false (is_same_side man.side who) (Some man) None (ap (λ x. is_same_side x who) e ∙ other_side who)

own_set : (who : Side) (b : Board) (i s : ℕ) (v : Option Man) → i < length b → own who (man_at (set b i v) s) ≡ cond (s == i) (own who v) (own who (man_at b s))
own_set who b i s v h = by_test (s == i) refl
  where
    by_test : (t : Bool) → (s == i) ≡ t → own who (man_at (set b i v) s) ≡ cond t (own who v) (own who (man_at b s))
    by_test true e = ap (own who) (ap (man_at (set b i v)) (eqb-true s i e) ∙ man_at_set_same b i v h)
    by_test false e = ap (own who) (man_at_set_other b i s v (eqb-false s i e))

own_of_moved : (who : Side) (b : Board) (man : Man) (m : Move) (s : ℕ) → m.from < length b → m.to < length b →
    own who (man_at (moved b man m) s) ≡ cond (s == m.to) (own who (Some (placed man m))) (cond (s == m.from) None (own who (man_at b s)))
own_of_moved who b man m s from_in to_in =
    own_set who (set b m.from None) m.to s (Some (placed man m)) (rw length-set to_in)
    ∙ ap (cond (s == m.to) (own who (Some (placed man m)))) (own_set who b m.from s None from_in)

own_of_rook : (who side : Side) (wing : Wing) (b : Board) (s : ℕ) → corner wing side < length b → crossing wing side < length b →
    own who (man_at (with_rook wing side b) s) ≡
    cond (s == crossing wing side) (own who (Some (record { side = side; kind = Rook }))) (cond (s == corner wing side) None (own who (man_at b s)))
own_of_rook who side wing b s corner_in crossing_in =
    own_set who (set b (corner wing side) None) (crossing wing side) s (Some (record { side = side; kind = Rook })) (rw length-set crossing_in)
    ∙ ap (cond (s == crossing wing side) (own who (Some (record { side = side; kind = Rook })))) (own_set who b (corner wing side) s None corner_in)

-- a square that was empty may be left again
left : (t : Bool) (x : Option Man) → (t ≡ true → x ≡ None) → cond t None x ≡ x
left true x h = sym (h refl)
left false x h = refl

left_empty : (t : Bool) (x : Option Man) → x ≡ None → cond t None x ≡ None
left_empty true x h = refl
left_empty false x h = h

-- Of a side's own move: what of its men stands on s, from what stood there.

abbrev own_moved : Man → Move → ℕ → Option Man → Option Man
own_moved man m s x = cond (s == m.to) (Some (placed man m)) (cond (s == m.from) None x)

abbrev own_castled : Wing → Side → ℕ → Option Man → Option Man
own_castled wing side s x = cond (s == crossing wing side) (Some (record { side = side; kind = Rook })) (cond (s == corner wing side) None x)

abbrev pub own_after : Man → Move → ℕ → Option Man → Option Man
own_after man m s x =
    cond (is_castling Short man m) (own_castled Short man.side s (own_moved man m s x))
    (cond (is_castling Long man m) (own_castled Long man.side s (own_moved man m s x)) (own_moved man m s x))

pub own_men : (who : Side) (p : Pos) (m : Move) (man : Man) (s : ℕ) → Facts p → Mover p m man → man.side ≡ who →
    own who (man_at (board_after p.board p.mark man m) s) ≡ own_after man m s (own who (man_at p.board s))
own_men who p m man s f v mine = by_passing (is_en_passant p.mark man m) refl
  where
    b : Board
    b = moved p.board man m

    x : Option Man
    x = own who (man_at p.board s)

    size : length b ≡ 64
    size = length_moved p.board man m ∙ f.squares

    on_moved : own who (man_at b s) ≡ own_moved man m s x
    on_moved =
        own_of_moved who p.board man m s v.departs.from_in v.departs.to_in
        ∙ ap (λ y. cond (s == m.to) y (cond (s == m.from) None x)) (own_man who (placed man m) mine)

    on_rook : (wing : Wing) → own who (man_at (with_rook wing man.side b) s) ≡ own_castled wing man.side s (own_moved man m s x)
    on_rook wing =
        let a = squares_apart wing man.side in
        own_of_rook who man.side wing b s (omega (arith, size, a.corner_in)) (omega (arith, size, a.crossing_in))
        ∙ (ap (λ y. cond (s == crossing wing man.side) y (cond (s == corner wing man.side) None (own who (man_at b s)))) (own_man who (record { side = man.side; kind = Rook }) mine)
        ∙ ap (λ y. own_castled wing man.side s y) on_moved)

    by_castling : (short long : Bool) →
        own who (man_at (cond short (with_rook Short man.side b) (cond long (with_rook Long man.side b) b)) s)
        ≡ cond short (own_castled Short man.side s (own_moved man m s x)) (cond long (own_castled Long man.side s (own_moved man m s x)) (own_moved man m s x))
    by_castling true long = on_rook Short
    by_castling false true = on_rook Long
    by_castling false false = on_moved

    passed : Passing p m man → own who (man_at (set b (passed_square m) None) s) ≡ own_moved man m s x
    passed w =
        own_set who b (passed_square m) s None (omega (arith, size, w.inside))
        ∙ (ap (cond (s == passed_square m) None) on_moved ∙ left (s == passed_square m) (own_moved man m s x) (λ e. stood w (eqb-true s (passed_square m) e)))
      where
        stood : Passing p m man → s ≡ passed_square m → own_moved man m s x ≡ None
        stood w e =
            cond-false (s == m.to) (Some (placed man m)) (cond (s == m.from) None x) (ne_eqb s m.to (λ z. w.not_to (sym e ∙ z)))
            ∙ (cond-false (s == m.from) None x (ne_eqb s m.from (λ z. w.not_from (sym e ∙ z)))
            ∙ (ap (λ k. own who (man_at p.board k)) e ∙ (ap (own who) w.stands ∙ own_enemy who w.gone (w.enemy ∙ ap other (sym v.own ∙ mine)))))

    no_castling : is_en_passant p.mark man m ≡ true → (wing : Wing) → is_castling wing man m ≡ false
    no_castling e wing = pawn_castles_not man m (same_kind_eq man.kind Pawn (and_parts (is_same_kind man.kind Pawn) (is_marked p.mark m.to && not (file_of m.from == file_of m.to)) e).0) wing

    by_passing : (t : Bool) → is_en_passant p.mark man m ≡ t → own who (man_at (board_after p.board p.mark man m) s) ≡ own_after man m s x
    by_passing true e =
        ap (λ y. own who (man_at y s)) (cond-true (is_en_passant p.mark man m) _ _ e)
        ∙ (passed (passing p m man f v e)
        ∙ sym (cond-false (is_castling Short man m) _ _ (no_castling e Short) ∙ cond-false (is_castling Long man m) _ _ (no_castling e Long)))
    by_passing false e =
        ap (λ y. own who (man_at y s)) (cond-false (is_en_passant p.mark man m) _ _ e)
        ∙ by_castling (is_castling Short man m) (is_castling Long man m)

-- Of the opponent's move: a side loses the man on the square of the capture, and nothing else.

-- where the man that a move captures stands, if it captures one
abbrev pub captured_on : Option ℕ → Man → Move → ℕ
captured_on mark man m = cond (is_en_passant mark man m) (passed_square m) m.to

pub enemy_men : (who : Side) (p : Pos) (m : Move) (man : Man) (s : ℕ) → Facts p → Mover p m man → man.side ≡ other who →
    own who (man_at (board_after p.board p.mark man m) s) ≡ cond (s == captured_on p.mark man m) None (own who (man_at p.board s))
enemy_men who p m man s f v theirs = by_passing (is_en_passant p.mark man m) refl
  where
    b : Board
    b = moved p.board man m

    x : Option Man
    x = own who (man_at p.board s)

    size : length b ≡ 64
    size = length_moved p.board man m ∙ f.squares

    enemy_turn : p.side ≡ other who
    enemy_turn = sym v.own ∙ theirs

    on_moved : own who (man_at b s) ≡ cond (s == m.to) None x
    on_moved =
        own_of_moved who p.board man m s v.departs.from_in v.departs.to_in
        ∙ (ap (λ y. cond (s == m.to) y (cond (s == m.from) None x)) (own_enemy who (placed man m) theirs)
        ∙ ap (cond (s == m.to) None) (left (s == m.from) x (λ e. ap (λ k. own who (man_at p.board k)) (eqb-true s m.from e) ∙ (ap (own who) v.departs.stands ∙ own_enemy who man theirs))))

    on_rook : (wing : Wing) → is_castling wing man m ≡ true → own who (man_at (with_rook wing man.side b) s) ≡ cond (s == m.to) None x
    on_rook wing h =
        let a = squares_apart wing man.side in
        let c = castling p m man wing f v h in
        own_of_rook who man.side wing b s (omega (arith, size, a.corner_in)) (omega (arith, size, a.crossing_in))
        ∙ (ap (λ y. cond (s == crossing wing man.side) y (cond (s == corner wing man.side) None (own who (man_at b s)))) (own_enemy who (record { side = man.side; kind = Rook }) theirs)
        ∙ (ap (λ y. cond (s == crossing wing man.side) None (cond (s == corner wing man.side) None y)) on_moved
        ∙ (ap (cond (s == crossing wing man.side) None) (left (s == corner wing man.side) (cond (s == m.to) None x) (λ e. left_empty (s == m.to) x (at_corner wing c (eqb-true s (corner wing man.side) e))))
        ∙ left (s == crossing wing man.side) (cond (s == m.to) None x) (λ e. left_empty (s == m.to) x (at_crossing wing c (eqb-true s (crossing wing man.side) e))))))
      where
        at_corner : (wing : Wing) → Castling p m wing → s ≡ corner wing man.side → x ≡ None
        at_corner wing c e =
            ap (λ k. own who (man_at p.board k)) (e ∙ ap (corner wing) v.own)
            ∙ (ap (own who) c.rook ∙ own_enemy who (record { side = p.side; kind = Rook }) enemy_turn)

        at_crossing : (wing : Wing) → Castling p m wing → s ≡ crossing wing man.side → x ≡ None
        at_crossing wing c e = ap (λ k. own who (man_at p.board k)) (e ∙ ap (crossing wing) v.own) ∙ ap (own who) c.free

    by_castling : (short long : Bool) → is_castling Short man m ≡ short → is_castling Long man m ≡ long →
        own who (man_at (cond short (with_rook Short man.side b) (cond long (with_rook Long man.side b) b)) s) ≡ cond (s == m.to) None x
    by_castling true long hs hl = on_rook Short hs
    by_castling false true hs hl = on_rook Long hl
    by_castling false false hs hl = on_moved

    passed : Passing p m man → own who (man_at (set b (passed_square m) None) s) ≡ cond (s == passed_square m) None x
    passed w =
        own_set who b (passed_square m) s None (omega (arith, size, w.inside))
        ∙ (ap (cond (s == passed_square m) None) on_moved
        ∙ ap (cond (s == passed_square m) None) (left (s == m.to) x (λ e. ap (λ k. own who (man_at p.board k)) (eqb-true s m.to e) ∙ ap (own who) w.empty)))

    by_passing : (t : Bool) → is_en_passant p.mark man m ≡ t → own who (man_at (board_after p.board p.mark man m) s) ≡ cond (s == captured_on p.mark man m) None x
    by_passing true e =
        ap (λ y. own who (man_at y s)) (cond-true (is_en_passant p.mark man m) _ _ e)
        ∙ (passed (passing p m man f v e)
        ∙ sym (ap (λ k. cond (s == k) None x) (cond-true (is_en_passant p.mark man m) (passed_square m) m.to e)))
    by_passing false e =
        ap (λ y. own who (man_at y s)) (cond-false (is_en_passant p.mark man m) _ _ e)
        ∙ (by_castling (is_castling Short man m) (is_castling Long man m) refl refl
        ∙ sym (ap (λ k. cond (s == k) None x) (cond-false (is_en_passant p.mark man m) (passed_square m) m.to e)))
