-- Where a pawn may go: forward, to a square that it attacks and where an enemy man stands, or to the mark.
use Rattle.std.proofs.Common.{◌≡◌, ℕ, ◌<◌, Bool, true, false, not, ◌&&◌, ◌||◌, ◌==◌, refl, sym, ◌∙◌, ap, arith, cond, set}
use Rattle.std.proofs.Math.Bool.{and-true, and-false, or-false}
use Rattle.std.specs.Prelude.{Option, Some, None, is_none}
use Rattle.std.proofs.lemmas.Bool.{and_parts, and_left, and_right, eqb-true, ne_eqb, both_ways}
use Rattle.krieg_moves.proofs.Common.{Side, White, Black, Pawn, King, Promo, Man, Move, other, is_same_side, is_same_kind, Pos, file_of, rank_of, last_rank, crossed_rank, pawn_rank, landing_rank, man_at, is_of, is_man, is_empty, attacks, apart, can_reach, is_forward, IsValid, is_marked, is_en_passant, crossed, is_legal, is_candidate, is_move_of_kind, is_plain, is_step, is_double_step, is_pawn_move, has_promotion, plain_move, promotes, can_go, is_answered, IsGuard, Guard, has, is_pinned, is_capture}
use Rattle.krieg_board.specs.declared.men.Promo.TheVariants as promo
use Rattle.krieg_board.proofs.Facts.{Facts, facts}
use Rattle.krieg_board.proofs.MenLemmas.{same_side_self}
use Rattle.krieg_moves.proofs.Answering.{unpinned_answered}
use Rattle.krieg_moves.proofs.Shapes.{attack_reaches, found_man}
use Rattle.krieg_moves.proofs.Pawns.{marked_crossed, other_file}
use Rattle.krieg_moves.proofs.MoveLists.{any_plain, any_promotions}
use Rattle.krieg_moves.proofs.Movers.{not_enemy}
use Rattle.krieg_moves.proofs.Safety.{candidate_is, legal_as, legal_answered}

-- the promotion with which a pawn goes to t: queen on the last rank, and none elsewhere
abbrev pub fitting : Bool → Promo
fitting last = cond last promo.Queen promo.Plain

abbrev pub promoted : ℕ → ℕ → Promo → Move
promoted f t r = record { from = f; to = t; promo = r }

-- a marked square is on no last rank
mark_not_last : (p : Pos) (t : ℕ) → Facts p → is_marked p.mark t ≡ true → (rank_of t == last_rank p.side) ≡ false
mark_not_last p t f h = by_side p.side (marked_crossed p t f h).rank
  where
    by_side : (side : Side) → rank_of t ≡ crossed_rank (other side) → (rank_of t == last_rank side) ≡ false
    by_side White e = ne_eqb (rank_of t) 7 (λ z. omega arith)
    by_side Black e = ne_eqb (rank_of t) 0 (λ z. omega arith)

unmarked_stays : (p : Pos) (man : Man) (m : Move) → is_marked p.mark m.to ≡ false → is_en_passant p.mark man m ≡ false
unmarked_stays p man m h =
    and_right (is_same_kind man.kind Pawn) (is_marked p.mark m.to && not (file_of m.from == file_of m.to)) (and_left (is_marked p.mark m.to) (not (file_of m.from == file_of m.to)) h)

same_file_stays : (p : Pos) (man : Man) (m : Move) → (file_of m.from == file_of m.to) ≡ true → is_en_passant p.mark man m ≡ false
same_file_stays p man m h =
    and_right (is_same_kind man.kind Pawn) (is_marked p.mark m.to && not (file_of m.from == file_of m.to)) (and_right (is_marked p.mark m.to) (not (file_of m.from == file_of m.to)) (ap not h))

-- which piece a pawn becomes does not matter to the legality of its move
as_pawn : (p : Pos) (f t : ℕ) (man : Man) (r : Promo) → f < 64 → t < 64 → man_at p.board f ≡ Some man → man.side ≡ p.side → man.kind ≡ Pawn →
    is_candidate p (promoted f t r) ≡ (not (is_of p.side (man_at p.board t)) && is_pawn_move p (promoted f t r))
as_pawn p f t man r hf ht is own pawn =
    candidate_is p (promoted f t r) man hf ht is own ∙ ap (λ k. not (is_of p.side (man_at p.board t)) && is_move_of_kind k p (promoted f t r)) pawn

alike : (p : Pos) (f t k : ℕ) (man : Man) (r : Promo) → IsValid p → f < 64 → t < 64 → k < 64 → is_man p.side King (man_at p.board k) ≡ true → man_at p.board f ≡ Some man →
    man.side ≡ p.side → man.kind ≡ Pawn → (rank_of t == last_rank p.side) ≡ true → is_pawn_move p (promoted f t r) ≡ is_pawn_move p (promoted f t promo.Queen) → is_legal p (promoted f t r) ≡ is_legal p (promoted f t promo.Queen)
alike p f t k man r valid hf ht hk king is own pawn last same =
    legal_as p (promoted f t r) (is_candidate p (promoted f t promo.Queen)) (is_answered (set p.board f None) (other p.side) k t) e (λ h. safe r (e ∙ h))
    ∙ sym (legal_as p (promoted f t promo.Queen) (is_candidate p (promoted f t promo.Queen)) (is_answered (set p.board f None) (other p.side) k t) refl (λ h. safe promo.Queen h))
  where
    e : is_candidate p (promoted f t r) ≡ is_candidate p (promoted f t promo.Queen)
    e = as_pawn p f t man r hf ht is own pawn ∙ ap (λ x. not (is_of p.side (man_at p.board t)) && x) same ∙ sym (as_pawn p f t man promo.Queen hf ht is own pawn)

    marked : (x : Bool) → is_marked p.mark t ≡ x → is_marked p.mark t ≡ false
    marked true e = absurd (both_ways (rank_of t == last_rank p.side) (mark_not_last p t (facts p valid) e) last)
    marked false e = e

    safe : (r : Promo) → is_candidate p (promoted f t r) ≡ true → is_legal p (promoted f t r) ≡ is_answered (set p.board f None) (other p.side) k t
    safe r h =
        legal_answered p (promoted f t r) man k valid is (ap (λ k. is_same_kind k King) pawn) (unmarked_stays p man (promoted f t r) (marked (is_marked p.mark t) refl)) hk king h

promotes_by : (p : Pos) (f t : ℕ) (man : Man) → man_at p.board f ≡ Some man → man.side ≡ p.side → man.kind ≡ Pawn → promotes p f t ≡ (rank_of t == last_rank p.side)
promotes_by p f t man is own pawn =
    ap (λ x. is_man p.side Pawn x && rank_of t == last_rank p.side) is
    ∙ (λ i. (is_same_side (own i) p.side && is_same_kind (pawn i) Pawn) && rank_of t == last_rank p.side)
    ∙ ap (λ x. (x && true) && rank_of t == last_rank p.side) (same_side_self p.side)

-- the legality of each promotion, where a pawn reaches the last rank
pub promotions_alike : (p : Pos) (f t k : ℕ) (man : Man) (r : Promo) → IsValid p → f < 64 → t < 64 → k < 64 → is_man p.side King (man_at p.board k) ≡ true → man_at p.board f ≡ Some man →
    man.side ≡ p.side → man.kind ≡ Pawn → (rank_of t == last_rank p.side) ≡ true → is_plain r ≡ false → is_legal p (promoted f t r) ≡ is_legal p (promoted f t promo.Queen)
promotions_alike p f t k man promo.Plain valid hf ht hk king is own pawn last h = cc
promotions_alike p f t k man promo.Queen valid hf ht hk king is own pawn last h = refl
promotions_alike p f t k man promo.Rook valid hf ht hk king is own pawn last h = alike p f t k man promo.Rook valid hf ht hk king is own pawn last refl
promotions_alike p f t k man promo.Bishop valid hf ht hk king is own pawn last h = alike p f t k man promo.Bishop valid hf ht hk king is own pawn last refl
promotions_alike p f t k man promo.Knight valid hf ht hk king is own pawn last h = alike p f t k man promo.Knight valid hf ht hk king is own pawn last refl

-- a pawn may go where the move with the fitting promotion is legal
pub go_by_fitting : (p : Pos) (f t k : ℕ) (man : Man) (last : Bool) → IsValid p → f < 64 → t < 64 → k < 64 → is_man p.side King (man_at p.board k) ≡ true → man_at p.board f ≡ Some man → man.side ≡ p.side →
    man.kind ≡ Pawn → (rank_of t == last_rank p.side) ≡ last → can_go p f t ≡ is_legal p (promoted f t (fitting last))
unfolding can_go
go_by_fitting p f t k man false valid hf ht hk king is own pawn e = any_plain p f t (promotes_by p f t man is own pawn ∙ e)
go_by_fitting p f t k man true valid hf ht hk king is own pawn e =
    any_promotions p f t (promotes_by p f t man is own pawn ∙ e)
    ∙ (λ i. is_legal p (promoted f t promo.Queen) || (same promo.Rook refl i || (same promo.Bishop refl i || (same promo.Knight refl i || false))))
    ∙ four (is_legal p (promoted f t promo.Queen))
  where
    same : (r : Promo) → is_plain r ≡ false → is_legal p (promoted f t r) ≡ is_legal p (promoted f t promo.Queen)
    same r h = promotions_alike p f t k man r valid hf ht hk king is own pawn e h

    four : (x : Bool) → (x || (x || (x || (x || false)))) ≡ x
    four true = refl
    four false = refl

abbrev forward : Pos → ℕ → ℕ → Bool
forward p f t = is_step p.board p.side (plain_move f t) || is_double_step p.board p.side (plain_move f t)

-- what is known of a candidate of a pawn with the fitting promotion
candidate_by : (p : Pos) (f t : ℕ) (man : Man) (last : Bool) → f < 64 → t < 64 → man_at p.board f ≡ Some man → man.side ≡ p.side → man.kind ≡ Pawn →
    (rank_of t == last_rank p.side) ≡ last →
    is_candidate p (promoted f t (fitting last))
    ≡ (not (is_of p.side (man_at p.board t)) && (is_step p.board p.side (plain_move f t) || (is_double_step p.board p.side (plain_move f t)
    || (attacks p.board f t && (is_of (other p.side) (man_at p.board t) || is_marked p.mark t)))))
candidate_by p f t man last hf ht is own pawn e =
    candidate_is p (promoted f t (fitting last)) man hf ht is own
    ∙ ap (λ k. not (is_of p.side (man_at p.board t)) && is_move_of_kind k p (promoted f t (fitting last))) pawn
    ∙ ap (λ x. not (is_of p.side (man_at p.board t)) && (x && (is_step p.board p.side (plain_move f t) || (is_double_step p.board p.side (plain_move f t)
    || (attacks p.board f t && (is_of (other p.side) (man_at p.board t) || is_marked p.mark t)))))) (fits last e)
  where
    fits : (last : Bool) → (rank_of t == last_rank p.side) ≡ last → has_promotion p.side (promoted f t (fitting last)) ≡ true
    fits true e = ap (λ x. cond x true false) e
    fits false e = ap (λ x. cond x false true) e

off_file : (p : Pos) (f t : ℕ) (man : Man) → man_at p.board f ≡ Some man → man.kind ≡ Pawn → attacks p.board f t ≡ true → (file_of f == file_of t) ≡ false
off_file p f t man is pawn a =
    let r = attack_reaches p.board man f t is a in
    let q = and_parts (apart (file_of f) (file_of t) == 1) (is_forward man.side f t) (ap (λ k. can_reach k man.side f t) (sym pawn) ∙ r) in
    other_file (file_of f) (file_of t) (eqb-true (apart (file_of f) (file_of t)) 1 q.0)

step_off_file : (p : Pos) (f t : ℕ) → (file_of f == file_of t) ≡ false → forward p f t ≡ false
step_off_file p f t e = λ i. (e i && (is_forward p.side f t && is_empty p.board t))
    || (e i && (rank_of f == pawn_rank p.side && (rank_of t == landing_rank p.side && (is_empty p.board (crossed p.side f) && is_empty p.board t))))

forward_on_file : (p : Pos) (f t : ℕ) (x : Bool) → (file_of f == file_of t) ≡ x → forward p f t ≡ true → (file_of f == file_of t) ≡ true
forward_on_file p f t true e h = e
forward_on_file p f t false e h = absurd (both_ways (forward p f t) (step_off_file p f t e) h)

-- a pawn that attacks the mark captures in passing
pub passing_candidate : (p : Pos) (m : Move) (man : Man) → IsValid p → m.from < 64 → m.to < 64 → man_at p.board m.from ≡ Some man → man.side ≡ p.side → man.kind ≡ Pawn →
    is_plain m.promo ≡ true → is_marked p.mark m.to ≡ true → attacks p.board m.from m.to ≡ true → is_candidate p m ≡ true
passing_candidate p m man valid hf ht is own pawn plain marked hits =
    let empty = (marked_crossed p m.to (facts p valid) marked).empty in
    candidate_is p m man hf ht is own
    ∙ ap (λ k. not (is_of p.side (man_at p.board m.to)) && is_move_of_kind k p m) pawn
    ∙ (λ i. not (is_of p.side (empty i)) && (cond (mark_not_last p m.to (facts p valid) marked i) (not (is_plain m.promo)) (is_plain m.promo)
    && (is_step p.board p.side m || (is_double_step p.board p.side m || (hits i && (is_of (other p.side) (man_at p.board m.to) || marked i))))))
    ∙ whole (is_plain m.promo) (is_step p.board p.side m) (is_double_step p.board p.side m) (is_of (other p.side) (man_at p.board m.to)) plain
  where
    whole : (q s d e : Bool) → q ≡ true → (q && (s || (d || (e || true)))) ≡ true
    whole true true d e h = refl
    whole true false true e h = refl
    whole true false false true h = refl
    whole true false false false h = refl
    whole false s d e h = cc

pub pawn_goes : (p : Pos) (f t k : ℕ) (man : Man) → IsValid p → f < 64 → t < 64 → k < 64 → is_man p.side King (man_at p.board k) ≡ true → man_at p.board f ≡ Some man →
    man.side ≡ p.side → man.kind ≡ Pawn →
    (((forward p f t || (attacks p.board f t && is_of (other p.side) (man_at p.board t))) && is_answered (set p.board f None) (other p.side) k t)
    || (is_marked p.mark t && (attacks p.board f t && is_legal p (plain_move f t)))) ≡ can_go p f t
pawn_goes p f t k man valid hf ht hk king is own pawn = by_mark (is_marked p.mark t && attacks p.board f t) refl
  where
    marked : Bool
    marked = is_marked p.mark t

    hits : Bool
    hits = attacks p.board f t

    enemy : Bool
    enemy = is_of (other p.side) (man_at p.board t)

    mine : Bool
    mine = is_of p.side (man_at p.board t)

    answered : Bool
    answered = is_answered (set p.board f None) (other p.side) k t

    step : Bool
    step = is_step p.board p.side (plain_move f t)

    double : Bool
    double = is_double_step p.board p.side (plain_move f t)

    -- a capture in passing: nobody stands on the mark, which is on no last rank
    passes : marked ≡ true → hits ≡ true → (((forward p f t || (hits && enemy)) && answered) || (marked && (hits && is_legal p (plain_move f t)))) ≡ can_go p f t
    passes m a =
        let c = marked_crossed p t (facts p valid) m in
        (λ i. ((step_off_file p f t (off_file p f t man is pawn a) i || (a i && is_of (other p.side) (c.empty i))) && answered) || (m i && (a i && is_legal p (plain_move f t))))
        ∙ sym (go_by_fitting p f t k man false valid hf ht hk king is own pawn (mark_not_last p t (facts p valid) m))

    no_passing : (m a l : Bool) → (m && a) ≡ false → (m && (a && l)) ≡ false
    no_passing true a l h = ap (λ x. x && l) h
    no_passing false a l h = refl

    captures : (a e m : Bool) → (m && a) ≡ false → (a && (e || m)) ≡ (a && e)
    captures true true m h = refl
    captures true false true h = cc
    captures true false false h = refl
    captures false e m h = refl

    not_mine : (o s d c : Bool) → (o ≡ true → s ≡ false) → (o ≡ true → d ≡ false) → (o ≡ true → c ≡ false) → (not o && (s || (d || c))) ≡ ((s || d) || c)
    not_mine true s d c fs fd fc = sym (λ i. (fs refl i || fd refl i) || fc refl i)
    not_mine false true d c fs fd fc = refl
    not_mine false false d c fs fd fc = refl

    own_not_empty : (x : Option Man) → is_of p.side x ≡ true → is_none x ≡ false
    own_not_empty None h = cc
    own_not_empty (Some x) h = refl

    last_and : (a b c : Bool) → c ≡ false → (a && (b && c)) ≡ false
    last_and true b c e = and_right b c e
    last_and false b c e = refl

    last_five : (a b d x c : Bool) → c ≡ false → (a && (b && (d && (x && c)))) ≡ false
    last_five true true d x c e = last_and d x c e
    last_five true false d x c e = refl
    last_five false b d x c e = refl

    candidate : (marked && hits) ≡ false → (last : Bool) → (rank_of t == last_rank p.side) ≡ last → is_candidate p (promoted f t (fitting last)) ≡ (forward p f t || (hits && enemy))
    candidate none last e =
        candidate_by p f t man last hf ht is own pawn e
        ∙ ap (λ x. not mine && (step || (double || x))) (captures hits enemy marked none)
        ∙ not_mine mine step double (hits && enemy)
        (λ o. last_and (file_of f == file_of t) (is_forward p.side f t) (is_empty p.board t) (own_not_empty (man_at p.board t) o))
        (λ o. last_five (file_of f == file_of t) (rank_of f == pawn_rank p.side) (rank_of t == landing_rank p.side) (is_empty p.board (crossed p.side f)) (is_empty p.board t) (own_not_empty (man_at p.board t) o))
        (λ o. and_right hits enemy (not_enemy p.side (man_at p.board t) o))

    stays : (m a : Bool) → marked ≡ m → hits ≡ a → (m && a) ≡ false → (forward p f t || (hits && enemy)) ≡ true → (r : Promo) → is_en_passant p.mark man (promoted f t r) ≡ false
    stays false a em ea none h r = unmarked_stays p man (promoted f t r) em
    stays true true em ea none h r = cc
    stays true false em ea none h r =
        same_file_stays p man (promoted f t r) (forward_on_file p f t (file_of f == file_of t) refl (sym (ap (λ x. forward p f t || (x && enemy)) ea ∙ or-false (forward p f t)) ∙ h))

    plainly : (marked && hits) ≡ false → (last : Bool) → (rank_of t == last_rank p.side) ≡ last →
        (((forward p f t || (hits && enemy)) && answered) || (marked && (hits && is_legal p (plain_move f t)))) ≡ can_go p f t
    plainly none last e =
        ap (λ x. ((forward p f t || (hits && enemy)) && answered) || x) (no_passing marked hits (is_legal p (plain_move f t)) none)
        ∙ or-false ((forward p f t || (hits && enemy)) && answered)
        ∙ sym (go_by_fitting p f t k man last valid hf ht hk king is own pawn e
        ∙ legal_as p (promoted f t (fitting last)) (forward p f t || (hits && enemy)) answered (candidate none last e)
        (λ h. legal_answered p (promoted f t (fitting last)) man k valid is (ap (λ k. is_same_kind k King) pawn) (stays marked hits refl refl none h (fitting last)) hk king (candidate none last e ∙ h)))

    by_mark : (x : Bool) → (marked && hits) ≡ x → (((forward p f t || (hits && enemy)) && answered) || (marked && (hits && is_legal p (plain_move f t)))) ≡ can_go p f t
    by_mark true e = (let r = and_parts marked hits e in passes r.0 r.1)
    by_mark false e = plainly e (rank_of t == last_rank p.side) refl

-- a pawn goes forward or captures
pub forward_or_captures : (p : Pos) (f t k : ℕ) (man : Man) → IsValid p → f < 64 → t < 64 → k < 64 → is_man p.side King (man_at p.board k) ≡ true → man_at p.board f ≡ Some man →
    man.side ≡ p.side → man.kind ≡ Pawn → ((forward p f t && is_answered (set p.board f None) (other p.side) k t) || is_capture p f k t) ≡ can_go p f t
forward_or_captures p f t k man valid hf ht hk king is own pawn =
    spread (forward p f t) (attacks p.board f t && is_of (other p.side) (man_at p.board t)) (is_answered (set p.board f None) (other p.side) k t)
    (is_marked p.mark t && (attacks p.board f t && is_legal p (plain_move f t)))
    ∙ pawn_goes p f t k man valid hf ht hk king is own pawn
  where
    spread : (a b c d : Bool) → ((a && c) || ((b && c) || d)) ≡ (((a || b) && c) || d)
    spread true true true d = refl
    spread true false true d = refl
    spread true true false d = refl
    spread true false false d = refl
    spread false b c d = refl

-- a pawn that goes to another file captures
pub captures_go : (p : Pos) (f t k : ℕ) (man : Man) → IsValid p → f < 64 → t < 64 → k < 64 → is_man p.side King (man_at p.board k) ≡ true → man_at p.board f ≡ Some man →
    man.side ≡ p.side → man.kind ≡ Pawn → is_capture p f k t ≡ (can_go p f t && not (file_of f == file_of t))
captures_go p f t k man valid hf ht hk king is own pawn = by_file (file_of f == file_of t) refl
  where
    answered : Bool
    answered = is_answered (set p.board f None) (other p.side) k t

    on_file : (x : Bool) → attacks p.board f t ≡ x → (file_of f == file_of t) ≡ true → attacks p.board f t ≡ false
    on_file true a e = absurd (both_ways (file_of f == file_of t) (off_file p f t man is pawn a) e)
    on_file false a e = a

    by_file : (x : Bool) → (file_of f == file_of t) ≡ x → is_capture p f k t ≡ (can_go p f t && not (file_of f == file_of t))
    by_file true e =
        let off = on_file (attacks p.board f t) refl e in
        (λ i. ((off i && is_of (other p.side) (man_at p.board t)) && answered) || (is_marked p.mark t && (off i && is_legal p (plain_move f t))))
        ∙ and-false (is_marked p.mark t)
        ∙ sym (ap (λ x. can_go p f t && not x) e ∙ and-false (can_go p f t))
    by_file false e =
        sym (ap (λ x. (x && answered) || is_capture p f k t) (step_off_file p f t e))
        ∙ forward_or_captures p f t k man valid hf ht hk king is own pawn
        ∙ sym (ap (λ x. can_go p f t && not x) e ∙ and-true (can_go p f t))

-- where a pawn arrives that is not pinned, the checks on its king are answered as for any man who is not
pub free_answered : (p : Pos) (g : Guard) (f t : ℕ) → IsValid p → IsGuard p g → f < 64 → t < 64 → is_man p.side Pawn (man_at p.board f) ≡ true → is_pinned p.board p.side f ≡ false →
    has g.answers t ≡ is_answered (set p.board f None) (other p.side) g.king t
free_answered p g f t valid guard hf ht pawn free =
    let (man, is, own, kind) = found_man p.side Pawn (man_at p.board f) pawn in
    let mine : is_of p.side (man_at p.board f) ≡ true = ap (is_of p.side) is ∙ ap (λ s. is_same_side s p.side) own ∙ same_side_self p.side in
    guard.answers t ht
    ∙ sym (unpinned_answered p.board p.side g.king f t (facts p valid).squares guard.inside hf guard.king mine (not_enemy p.side (man_at p.board f) mine) free)
