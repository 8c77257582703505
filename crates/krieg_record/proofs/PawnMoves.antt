-- Two legal moves of pawns to one square, both captures from one file or both none, are from one square.
use Rattle.std.proofs.Common.{◌≡◌, ℕ, ◌+◌, Bool, true, false, not, ◌&&◌, ◌||◌, ◌==◌, refl, sym, ap, ◌∙◌, subst, arith, ◌⊎◌, inl, inr}
use Rattle.std.proofs.lemmas.Bool.{and_parts, or_cases, eqb-true, ne_eqb}
use Rattle.std.specs.Prelude.{Option, Some, None, is_none}
use Rattle.krieg_record.proofs.Common.{Side, White, Black, Pawn, Man, Move, other, is_same_kind, is_same_side, Pos, file_of, rank_of, crossed_rank, landing_rank, man_at, is_empty, is_of, is_man, attacks, can_reach, apart, is_forward, is_en_passant, is_marked, crossed, is_legal, is_move_of, is_move_of_kind, is_pawn_move, is_step, is_double_step, has_promotion, captures, captures_by, is_own}
use Rattle.krieg_board.proofs.MenLemmas.{is_man_tells}
use Rattle.krieg_moves.specs.Legal.{is_pawn_capture}
use Rattle.krieg_moves.proofs.LegalMoves.{legal}
use Rattle.krieg_moves.proofs.Shapes.{attack_reaches}
use Rattle.krieg_moves.proofs.Pawns.{Step, step, DoubleStep, double_step}

-- a pawn of the side to move stands on the from-square
pub record IsPawn (p : Pos) (m : Move) : Type 0 where
  pub man : Man
  pub stands : man_at p.board m.from ≡ Some man
  pub kind : man.kind ≡ Pawn
  pub own : man.side ≡ p.side

pub pawn_is : (p : Pos) (m : Move) → is_own p Pawn m.from ≡ true → IsPawn p m
pawn_is p m e = go (man_at p.board m.from) refl e
  where
    go : (x : Option Man) → man_at p.board m.from ≡ x → is_man p.side Pawn x ≡ true → IsPawn p m
    go None is k = absurd cc
    go (Some man) is k = let t = is_man_tells p.side Pawn man k in record { man = man; stands = is; own = t.0; kind = t.1 }

-- it goes to the next file and forward
pub record Takes (p : Pos) (m : Move) : Type 0 where
  pub files : apart (file_of m.from) (file_of m.to) ≡ 1
  pub forward : is_forward p.side m.from m.to ≡ true

pawn_goes : (p : Pos) (m : Move) → IsPawn p m → is_legal p m ≡ true → is_pawn_move p m ≡ true
pawn_goes p m w h = go (man_at p.board m.from) w.stands (legal p m h).moves
  where
    go : (x : Option Man) → x ≡ Some w.man → is_move_of x p m ≡ true → is_pawn_move p m ≡ true
    go None e k = absurd cc
    go (Some man) e k =
        let same : man ≡ w.man = cc in
        let r = and_parts (is_same_side man.side p.side) (is_move_of_kind man.kind p m) k in
        subst (λ t. is_move_of_kind t p m ≡ true) (ap (λ (x : Man). x.kind) same ∙ w.kind) r.1

capture_is : (p : Pos) (m : Move) (w : IsPawn p m) → captures p m ≡ captures_by p (Some w.man) m
capture_is p m w = ap (λ x. captures_by p x m) w.stands

takes : (p : Pos) (m : Move) → IsPawn p m → attacks p.board m.from m.to ≡ true → Takes p m
takes p m w a =
    let r = attack_reaches p.board w.man m.from m.to w.stands a in
    let q : can_reach Pawn w.man.side m.from m.to ≡ true = ap (λ k. can_reach k w.man.side m.from m.to) (sym w.kind) ∙ r in
    let b = and_parts (apart (file_of m.from) (file_of m.to) == 1) (is_forward w.man.side m.from m.to) q in
    record { files = eqb-true (apart (file_of m.from) (file_of m.to)) 1 b.0; forward = ap (λ s. is_forward s m.from m.to) (sym w.own) ∙ b.1 }

enemy_there : (p : Pos) (m : Move) (x : Option Man) (e : Bool) → is_of (other p.side) x ≡ true → (not (is_none x) || e) ≡ true
enemy_there p m None e h = absurd cc
enemy_there p m (Some man) e h = refl

or_right_true : (a b : Bool) → b ≡ true → (a || b) ≡ true
or_right_true true b e = refl
or_right_true false b e = e

-- a pawn's attack on an enemy or on the mark captures
attack_captures : (p : Pos) (m : Move) (w : IsPawn p m) → Takes p m → (is_of (other p.side) (man_at p.board m.to) || is_marked p.mark m.to) ≡ true → captures p m ≡ true
attack_captures p m w t h = capture_is p m w ∙ go (or_cases _ _ h)
  where
    apart_not : (file_of m.from == file_of m.to) ≡ false
    apart_not = ne_eqb (file_of m.from) (file_of m.to) (λ e. let a = t.files in omega arith)

    go : (is_of (other p.side) (man_at p.board m.to) ≡ true) ⊎ (is_marked p.mark m.to ≡ true) → captures_by p (Some w.man) m ≡ true
    go (inl e) = enemy_there p m (man_at p.board m.to) (is_en_passant p.mark w.man m) e
    go (inr e) =
        let k : is_same_kind w.man.kind Pawn ≡ true = ap (λ k. is_same_kind k Pawn) w.kind in
        or_right_true (not (is_empty p.board m.to)) (is_en_passant p.mark w.man m) (rw (k, e, apart_not) refl)

-- a straight move does not
straight_not : (p : Pos) (m : Move) (w : IsPawn p m) → man_at p.board m.to ≡ None → (file_of m.from == file_of m.to) ≡ true → captures p m ≡ false
straight_not p m w empty same = capture_is p m w ∙ rw (empty, same) (last (is_same_kind w.man.kind Pawn) (is_marked p.mark m.to))
  where
    last : (a b : Bool) → (a && (b && false)) ≡ false
    last true true = refl
    last true false = refl
    last false b = refl

pawn_ways : (p : Pos) (m : Move) → IsPawn p m → is_legal p m ≡ true → (Step p m ⊎ DoubleStep p m) ⊎ (Takes p m × (captures p m ≡ true))
pawn_ways p m w h = go (or_cases _ _ (and_parts (has_promotion p.side m) _ (pawn_goes p m w h)).1)
  where
    last : is_pawn_capture p m ≡ true → Takes p m × (captures p m ≡ true)
    last e =
        let b = and_parts (attacks p.board m.from m.to) _ e in
        let t = takes p m w b.0 in
        (t, attack_captures p m w t b.1)

    more : (is_double_step p.board p.side m ≡ true) ⊎ (is_pawn_capture p m ≡ true) → (Step p m ⊎ DoubleStep p m) ⊎ (Takes p m × (captures p m ≡ true))
    more (inl e) = inl (inr (double_step p m e))
    more (inr e) = inr (last e)

    go : (is_step p.board p.side m ≡ true) ⊎ ((is_double_step p.board p.side m || is_pawn_capture p m) ≡ true) → (Step p m ⊎ DoubleStep p m) ⊎ (Takes p m × (captures p m ≡ true))
    go (inl e) = inl (inl (step p m e))
    go (inr e) = more (or_cases _ _ e)

quiet : (p : Pos) (m : Move) → IsPawn p m → is_legal p m ≡ true → captures p m ≡ false → Step p m ⊎ DoubleStep p m
quiet p m w h none = go (pawn_ways p m w h)
  where
    go : (Step p m ⊎ DoubleStep p m) ⊎ (Takes p m × (captures p m ≡ true)) → Step p m ⊎ DoubleStep p m
    go (inl x) = x
    go (inr t) = let is = t.1 in absurd cc

taking : (p : Pos) (m : Move) → IsPawn p m → is_legal p m ≡ true → captures p m ≡ true → Takes p m
taking p m w h some = go (pawn_ways p m w h)
  where
    go : (Step p m ⊎ DoubleStep p m) ⊎ (Takes p m × (captures p m ≡ true)) → Takes p m
    go (inl (inl s)) = let none = straight_not p m w s.straight.empty s.straight.same_file in absurd cc
    go (inl (inr s)) = let none = straight_not p m w s.straight.empty s.straight.same_file in absurd cc
    go (inr t) = t.0

-- squares of one file from which one goes forward to one rank are one
forward_from : (side : Side) (a b t : ℕ) → file_of a ≡ file_of b → is_forward side a t ≡ true → is_forward side b t ≡ true → a ≡ b
forward_from White a b t files f g = let r = eqb-true (rank_of t) (rank_of a + 1) f in let s = eqb-true (rank_of t) (rank_of b + 1) g in omega arith
forward_from Black a b t files f g = let r = eqb-true (rank_of a) (rank_of t + 1) f in let s = eqb-true (rank_of b) (rank_of t + 1) g in omega arith

crossing_from : (side : Side) (a t : ℕ) → is_forward side a t ≡ true → rank_of t ≡ landing_rank side → rank_of a ≡ crossed_rank side
crossing_from White a t f l = let r = eqb-true (rank_of t) (rank_of a + 1) f in omega arith
crossing_from Black a t f l = let r = eqb-true (rank_of a) (rank_of t + 1) f in omega arith

-- a pawn that steps stands where one that advances would cross
blocked : (p : Pos) (m o : Move) → IsPawn p m → m.to ≡ o.to → Step p m → DoubleStep p o → ⊥
blocked p m o w to s d =
    let fm = eqb-true (file_of m.from) (file_of m.to) s.straight.same_file in
    let fo = eqb-true (file_of o.from) (file_of o.to) d.straight.same_file in
    let r = crossing_from p.side m.from m.to s.forward (ap rank_of to ∙ d.lands) in
    let here : crossed p.side o.from ≡ m.from = omega (arith, fm, fo, r, ap file_of to) in
    let none : man_at p.board m.from ≡ None = ap (man_at p.board) (sym here) ∙ d.free in
    let some = w.stands in
    absurd cc

pub same_quiet : (p : Pos) (m o : Move) → IsPawn p m → IsPawn p o → is_legal p m ≡ true → is_legal p o ≡ true → captures p m ≡ false → captures p o ≡ false → m.to ≡ o.to → m.from ≡ o.from
same_quiet p m o w v hm ho cm co to = go (quiet p m w hm cm) (quiet p o v ho co)
  where
    go : Step p m ⊎ DoubleStep p m → Step p o ⊎ DoubleStep p o → m.from ≡ o.from
    go (inl s) (inl t) =
        let fm = eqb-true (file_of m.from) (file_of m.to) s.straight.same_file in
        let fo = eqb-true (file_of o.from) (file_of o.to) t.straight.same_file in
        forward_from p.side m.from o.from o.to (fm ∙ ap file_of to ∙ sym fo) (ap (is_forward p.side m.from) (sym to) ∙ s.forward) t.forward
    go (inl s) (inr t) = absurd (blocked p m o w to s t)
    go (inr s) (inl t) = absurd (blocked p o m v (sym to) t s)
    go (inr s) (inr t) =
        let fm = eqb-true (file_of m.from) (file_of m.to) s.straight.same_file in
        let fo = eqb-true (file_of o.from) (file_of o.to) t.straight.same_file in
        let rm = s.departs in
        let ro = t.departs in
        omega (arith, fm, fo, rm, ro, ap file_of to)

pub same_taking : (p : Pos) (m o : Move) → IsPawn p m → IsPawn p o → is_legal p m ≡ true → is_legal p o ≡ true → captures p m ≡ true → captures p o ≡ true → m.to ≡ o.to → file_of m.from ≡ file_of o.from → m.from ≡ o.from
same_taking p m o w v hm ho cm co to files =
    let s = taking p m w hm cm in
    let t = taking p o v ho co in
    forward_from p.side m.from o.from o.to files (ap (is_forward p.side m.from) (sym to) ∙ s.forward) t.forward
