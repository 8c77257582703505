-- A legal move of a pawn to another file is a capture by a pawn of the side to move, to one of the two squares that it attacks.
use Rattle.std.proofs.Common.{◌≡◌, ℕ, Bool, true, false, not, ◌&&◌, ◌||◌, ◌==◌, refl, sym, ap, ◌∙◌, inl, inr, subst}
use Rattle.std.proofs.Math.Bool.{and_comm}
use Rattle.std.proofs.lemmas.Bool.{and_from, and_parts, not-true, or_cases, both_ways, or_right}
use Rattle.std.specs.Prelude.{Option, Some, None}
use Rattle.krieg_words.proofs.Common.{Side, White, Black, Kind, Man, Move, Promo, other, is_same_side, is_same_kind, file_of, man_at, is_man, is_of, attacks, apart, is_forward, can_reach, Pos, is_pawn, is_marked, is_legal, is_step, is_double_step, is_pawn_capture, is_pawn_move, has_promotion, is_move_of, is_move_of_kind, can_go, is_try}
use Rattle.krieg_board.specs.declared.men.Kind.TheVariants.{Pawn}
use Rattle.krieg_board.specs.declared.men.Promo.TheVariants as promo
use Rattle.krieg_board.proofs.MenLemmas.{is_pawn_tells, same_side_eq}
use Rattle.krieg_moves.proofs.LegalMoves.{legal}
use Rattle.krieg_moves.proofs.Pawns.{step, double_step}
use Rattle.krieg_moves.proofs.Shapes.{attack_reaches}

-- t is one file and one rank forward of f, as that side's pawns capture
abbrev pub is_aimed : Side → ℕ → ℕ → Bool
is_aimed side f t = apart (file_of f) (file_of t) == 1 && is_forward side f t

abbrev pub is_own_pawn : Pos → ℕ → Bool
is_own_pawn p f = is_man p.side Pawn (man_at p.board f)

-- by the man on the from-square
captures_by : (p : Pos) (m : Move) (x : Option Man) → man_at p.board m.from ≡ x → is_move_of x p m ≡ true → is_pawn x ≡ true → (file_of m.from == file_of m.to) ≡ false →
    (is_own_pawn p m.from ≡ true) × (is_aimed p.side m.from m.to ≡ true)
captures_by p m None stands moves pawn file = absurd cc
captures_by p m (Some man) stands moves pawn file =
    let s = and_parts (is_same_side man.side p.side) (is_move_of_kind man.kind p m) moves in
    let kind = is_pawn_tells man pawn in
    let side = same_side_eq man.side p.side s.0 in
    let own : is_own_pawn p m.from ≡ true =
    ap (is_man p.side Pawn) stands ∙ and_from (is_same_side man.side p.side) (is_same_kind man.kind Pawn) s.0 (ap (λ k. is_same_kind k Pawn) kind) in
    let goes : is_pawn_move p m ≡ true = subst (λ (k : Kind). is_move_of_kind k p m ≡ true) kind s.1 in
    let r = and_parts (has_promotion p.side m) (is_step p.board p.side m || (is_double_step p.board p.side m || is_pawn_capture p m)) goes in
    elim (or_cases (is_step p.board p.side m) (is_double_step p.board p.side m || is_pawn_capture p m) r.1) [
      | inl a ↦ absurd (both_ways (file_of m.from == file_of m.to) file (step p m a).straight.same_file)
      | inr b ↦ elim (or_cases (is_double_step p.board p.side m) (is_pawn_capture p m) b) [
        | inl d ↦ absurd (both_ways (file_of m.from == file_of m.to) file (double_step p m d).straight.same_file)
        | inr c ↦
            let hits = (and_parts (attacks p.board m.from m.to) (is_of (other p.side) (man_at p.board m.to) || is_marked p.mark m.to) c).0 in
            (own, sym (λ i. can_reach (kind i) (side i) m.from m.to) ∙ attack_reaches p.board man m.from m.to stands hits)
      ]
    ]

captures : (p : Pos) (m : Move) → is_pawn (man_at p.board m.from) ≡ true → (file_of m.from == file_of m.to) ≡ false → is_legal p m ≡ true →
    (is_own_pawn p m.from ≡ true) × (is_aimed p.side m.from m.to ≡ true)
captures p m pawn file h = captures_by p m (man_at p.board m.from) refl (legal p m h).moves pawn file

one_of_five : (a b c d e : Bool) (Q : Type 0) → (a ≡ true → Q) → (b ≡ true → Q) → (c ≡ true → Q) → (d ≡ true → Q) → (e ≡ true → Q) →
    (a || (b || (c || (d || (e || false))))) ≡ true → Q
one_of_five true b c d e Q fa fb fc fd fe h = fa refl
one_of_five false true c d e Q fa fb fc fd fe h = fb refl
one_of_five false false true d e Q fa fb fc fd fe h = fc refl
one_of_five false false false true e Q fa fb fc fd fe h = fd refl
one_of_five false false false false true Q fa fb fc fd fe h = fe refl
one_of_five false false false false false Q fa fb fc fd fe h = absurd cc

-- what each of the five moves tells is told by one of them that is legal
some_legal : (p : Pos) (f t : ℕ) (Q : Type 0) → ((r : Promo) → is_legal p (record { from = f; to = t; promo = r }) ≡ true → Q) → can_go p f t ≡ true → Q
unfolding can_go
some_legal p f t Q each h =
    let ok : Promo → Bool = λ r. is_legal p (record { from = f; to = t; promo = r }) in
    one_of_five (ok promo.Plain) (ok promo.Queen) (ok promo.Rook) (ok promo.Bishop) (ok promo.Knight) Q
    (each promo.Plain) (each promo.Queen) (each promo.Rook) (each promo.Bishop) (each promo.Knight) h

pub try_tells : (p : Pos) (f t : ℕ) → is_try p f t ≡ true → (is_own_pawn p f ≡ true) × (is_aimed p.side f t ≡ true)
unfolding is_try
try_tells p f t h =
    let a = and_parts (is_pawn (man_at p.board f)) (not (file_of f == file_of t) && can_go p f t) h in
    let b = and_parts (not (file_of f == file_of t)) (can_go p f t) a.1 in
    let file = not-true (file_of f == file_of t) b.0 in
    some_legal p f t ((is_own_pawn p f ≡ true) × (is_aimed p.side f t ≡ true)) (λ r l. captures p (record { from = f; to = t; promo = r }) a.0 file l) b.1

pawn_of : (side : Side) (x : Option Man) → is_man side Pawn x ≡ true → is_pawn x ≡ true
pawn_of White x h = rw h refl
pawn_of Black x h = or_right (is_man White Pawn x) (is_man Black Pawn x) h

-- from an own pawn a try is a move to another file
pub try_own : (p : Pos) (f t : ℕ) → is_own_pawn p f ≡ true → is_try p f t ≡ (can_go p f t && not (file_of f == file_of t))
unfolding is_try
try_own p f t own =
    ap (λ x. x && (not (file_of f == file_of t) && can_go p f t)) (pawn_of p.side (man_at p.board f) own) ∙ and_comm (not (file_of f == file_of t)) (can_go p f t)
