-- The man that arrives: a king stays a king, no pawn is made, and a pawn stands on no first or last rank.
use Rattle.std.proofs.Common.{◌≡◌, ℕ, Bool, true, false, not, ◌||◌, refl, cond, ◌==◌, ◌+◌, ◌<◌, ◌≤◌, arith, sym, ◌≢◌, ◌∙◌, ap, inl, inr}
use Rattle.std.proofs.lemmas.Bool.{and_from, and_parts, or_cases, eqb-true, eqb-false}
use Rattle.std.specs.Prelude.{Some}
use Rattle.krieg_moves.proofs.Common.{Side, White, Black, Kind, Pawn, King, Promo, Man, Move, other, is_same_side, is_same_kind, Pos, rank_of, home_rank, landing_rank, last_rank, man_at, is_of, is_man, attacks, is_forward, is_pawn, kind_after, placed, is_marked, is_plain, is_step, is_double_step, is_pawn_capture, is_pawn_move, is_move_of_kind, has_promotion, can_castle, Short, Long}
use Rattle.krieg_board.specs.declared.men.Kind.TheVariants.{Knight, Bishop, Rook, Queen}
use Rattle.krieg_board.specs.declared.men.Promo.TheVariants as promo
use Rattle.krieg_board.proofs.MenLemmas.{is_man_other_kind, is_pawn_not, is_pawn_tells}
use Rattle.krieg_board.proofs.Counting.{one}
use Rattle.krieg_moves.proofs.Movers.{Mover}
use Rattle.krieg_moves.proofs.Pawns.{step, double_step, attack_forward}

-- what stands on the to-square
pub record Arrives (p : Pos) (m : Move) (man : Man) : Type 0 where
  pub king : (side : Side) → is_man side King (Some (placed man m)) ≡ is_man side King (Some man)
  pub pawn : (side : Side) → one (is_man side Pawn (Some (placed man m))) ≤ one (is_man side Pawn (Some man))
  pub inside : is_pawn (Some (placed man m)) ≡ true → (rank_of m.to ≢ 0) × (rank_of m.to ≢ 7)

plain_kind : (r : Promo) (k : Kind) → is_plain r ≡ true → kind_after r k ≡ k
plain_kind promo.Plain k h = refl
plain_kind promo.Queen k h = cc
plain_kind promo.Rook k h = cc
plain_kind promo.Bishop k h = cc
plain_kind promo.Knight k h = cc

pub placed_is : (man : Man) (m : Move) → is_plain m.promo ≡ true → placed man m ≡ man
placed_is man m h = λ i. record { side = man.side; kind = plain_kind m.promo man.kind h i }

not_king_after : (r : Promo) (k : Kind) → k ≡ Pawn → is_same_kind (kind_after r k) King ≡ false
not_king_after promo.Plain k h = ap (λ x. is_same_kind x King) h
not_king_after promo.Queen k h = refl
not_king_after promo.Rook k h = refl
not_king_after promo.Bishop k h = refl
not_king_after promo.Knight k h = refl

plain_from_pawn : (r : Promo) (k : Kind) → kind_after r k ≡ Pawn → is_plain r ≡ true
plain_from_pawn promo.Plain k h = refl
plain_from_pawn promo.Queen k h = cc
plain_from_pawn promo.Rook k h = cc
plain_from_pawn promo.Bishop k h = cc
plain_from_pawn promo.Knight k h = cc

one_le : (a b : Bool) → (a ≡ true → b ≡ true) → one a ≤ one b
one_le false b h = omega arith
one_le true false h = absurd (let e = h refl in cc)
one_le true true h = omega arith

-- a pawn never goes to the rank where its side's officers begin
forward_rank : (side : Side) (f t : ℕ) → f < 64 → is_forward side f t ≡ true → rank_of t ≢ home_rank side
forward_rank White f t l h = λ e. (let r = eqb-true (rank_of t) (rank_of f + 1) h in omega arith)
forward_rank Black f t l h = λ e. (let r = eqb-true (rank_of f) (rank_of t + 1) h in omega arith)

landing_not_home : (side : Side) (t : ℕ) → rank_of t ≡ landing_rank side → rank_of t ≢ home_rank side
landing_not_home White t h = λ e. omega arith
landing_not_home Black t h = λ e. omega arith

inside_by : (side : Side) (r : ℕ) → r ≢ home_rank side → r ≢ last_rank side → (r ≢ 0) × (r ≢ 7)
inside_by White r h l = (h, l)
inside_by Black r h l = (l, h)

pawn_rank_not : (p : Pos) (m : Move) (man : Man) → Mover p m man → man.kind ≡ Pawn →
    (is_step p.board p.side m || (is_double_step p.board p.side m || is_pawn_capture p m)) ≡ true → rank_of m.to ≢ home_rank p.side
pawn_rank_not p m man v pawn h =
    elim (or_cases (is_step p.board p.side m) (is_double_step p.board p.side m || is_pawn_capture p m) h) [
      | inl s ↦ forward_rank p.side m.from m.to v.from_in (step p m s).forward
      | inr r ↦ elim (or_cases (is_double_step p.board p.side m) (is_pawn_capture p m) r) [
        | inl d ↦ landing_not_home p.side m.to (double_step p m d).lands
        | inr c ↦ forward_rank p.side m.from m.to v.from_in
            (attack_forward p m man v pawn (and_parts (attacks p.board m.from m.to) (is_of (other p.side) (man_at p.board m.to) || is_marked p.mark m.to) c).0)
      ]
    ]

-- a pawn that stays a pawn is not on the last rank
not_last : (t plain : Bool) → cond t (not plain) plain ≡ true → plain ≡ true → t ≡ false
not_last true true h k = cc
not_last true false h k = cc
not_last false plain h k = refl

arrives_plain : (p : Pos) (m : Move) (man : Man) → is_plain m.promo ≡ true → is_same_kind man.kind Pawn ≡ false → Arrives p m man
arrives_plain p m man plain officer =
    let same = placed_is man m plain in
    record {
      king = λ side. ap (λ x. is_man side King (Some x)) same;
      pawn = λ side. (let e : one (is_man side Pawn (Some (placed man m))) ≡ one (is_man side Pawn (Some man)) = ap (λ x. one (is_man side Pawn (Some x))) same in omega arith);
      inside = λ h. absurd (let e = ap (λ x. is_pawn (Some x)) (sym same) ∙ h in let no = is_pawn_not man officer in cc);
    }

arrives_pawn : (p : Pos) (m : Move) (man : Man) → Mover p m man → man.kind ≡ Pawn → is_pawn_move p m ≡ true → Arrives p m man
arrives_pawn p m man v pawn h =
    let r = and_parts (has_promotion p.side m) (is_step p.board p.side m || (is_double_step p.board p.side m || is_pawn_capture p m)) h in
    let home = pawn_rank_not p m man v pawn r.1 in
    record {
      king = λ side. is_man_other_kind side King (placed man m) (not_king_after m.promo man.kind pawn) ∙ sym (is_man_other_kind side King man (ap (λ k. is_same_kind k King) pawn));
      pawn = λ side. one_le (is_man side Pawn (Some (placed man m))) (is_man side Pawn (Some man))
          (λ q. and_from (is_same_side man.side side) (is_same_kind man.kind Pawn) (and_parts (is_same_side man.side side) (is_same_kind (kind_after m.promo man.kind) Pawn) q).0 (ap (λ k. is_same_kind k Pawn) pawn));
      inside = λ q. (let plain = plain_from_pawn m.promo man.kind (is_pawn_tells (placed man m) q) in
          inside_by p.side (rank_of m.to) home (eqb-false (rank_of m.to) (last_rank p.side) (not_last (rank_of m.to == last_rank p.side) (is_plain m.promo) r.0 plain)));
    }

pub arrives : (p : Pos) (m : Move) (man : Man) → Mover p m man → Arrives p m man
arrives p m man v = by_kind man.kind refl v.moves
  where
    by_kind : (k : Kind) → man.kind ≡ k → is_move_of_kind k p m ≡ true → Arrives p m man
    by_kind Pawn e h = arrives_pawn p m man v e h
    by_kind Knight e h = arrives_plain p m man (and_parts (is_plain m.promo) (attacks p.board m.from m.to) h).0 (ap (λ x. is_same_kind x Pawn) e)
    by_kind Bishop e h = arrives_plain p m man (and_parts (is_plain m.promo) (attacks p.board m.from m.to) h).0 (ap (λ x. is_same_kind x Pawn) e)
    by_kind Rook e h = arrives_plain p m man (and_parts (is_plain m.promo) (attacks p.board m.from m.to) h).0 (ap (λ x. is_same_kind x Pawn) e)
    by_kind Queen e h = arrives_plain p m man (and_parts (is_plain m.promo) (attacks p.board m.from m.to) h).0 (ap (λ x. is_same_kind x Pawn) e)
    by_kind King e h = arrives_plain p m man (and_parts (is_plain m.promo) (attacks p.board m.from m.to || (can_castle Short p m || can_castle Long p m)) h).0 (ap (λ x. is_same_kind x Pawn) e)
