-- What a legal move tells: an own man goes, an officer is not promoted, and a castling king comes from its square.
use Rattle.std.proofs.Common.{◌≡◌, Bool, true, false, not, cond, ◌&&◌, ◌==◌, refl, sym, ap, ◌∙◌}
use Rattle.std.proofs.lemmas.Bool.{and_parts, and_from, eqb-true}
use Rattle.std.specs.Prelude.{Option, Some, None}
use Rattle.krieg_record.proofs.Common.{is_same_side, is_same_kind, Pos, rank_of, last_rank, man_at, is_of, is_man, Side, Kind, Man, Move, Promo, is_castling, is_legal, is_plain, king_square, arrival, Wing, Short, Long, Officer, King, Queen, Rook, Bishop, Knight, kind_of, officer_of, officer_by, officer_at, is_own, castling_by, castling}
use Rattle.krieg_board.specs.declared.men.Kind.TheVariants as kind
use Rattle.krieg_board.specs.declared.men.Promo.TheVariants as promo
use Rattle.krieg_board.proofs.MenLemmas.{same_side_eq, same_side_self, is_man_tells, is_man_other_kind}
use Rattle.krieg_moves.proofs.LegalMoves.{legal_own, legal_promotion}

-- ---- the man that goes

-- an own man stands on the square that is left
record Stands (p : Pos) (m : Move) : Type 0 where
  man : Man
  is : man_at p.board m.from ≡ Some man
  own : man.side ≡ p.side

stands : (p : Pos) (m : Move) → is_legal p m ≡ true → Stands p m
stands p m h = go (man_at p.board m.from) refl (legal_own p m h)
  where
    go : (x : Option Man) → man_at p.board m.from ≡ x → is_of p.side x ≡ true → Stands p m
    go None is k = absurd cc
    go (Some man) is k = record { man = man; is = is; own = same_side_eq man.side p.side k }

own_of : (p : Pos) (m : Move) (which : Kind) → is_legal p m ≡ true → ((man : Man) → man_at p.board m.from ≡ Some man → is_same_kind man.kind which ≡ true) → is_own p which m.from ≡ true
own_of p m which h e =
    let s = stands p m h in
    ap (is_man p.side which) s.is
    ∙ and_from (is_same_side s.man.side p.side) (is_same_kind s.man.kind which) (ap (λ x. is_same_side x p.side) s.own ∙ same_side_self p.side) (e s.man s.is)

-- where an officer stands, an own man of its kind does
pub own_officer : (p : Pos) (m : Move) (o : Officer) → is_legal p m ≡ true → officer_at p m.from ≡ Some o → is_own p (kind_of o) m.from ≡ true
own_officer p m o h e = own_of p m (kind_of o) h (λ man is. go man.kind (ap officer_by (sym is) ∙ e))
  where
    by : (k : Kind) (x : Officer) → is_same_kind k (kind_of x) ≡ true → x ≡ o → is_same_kind k (kind_of o) ≡ true
    by k x same is = ap (λ y. is_same_kind k (kind_of y)) (sym is) ∙ same

    go : (k : Kind) → officer_of k ≡ Some o → is_same_kind k (kind_of o) ≡ true
    go kind.Pawn e = absurd cc
    go kind.Knight e = by kind.Knight Knight refl cc
    go kind.Bishop e = by kind.Bishop Bishop refl cc
    go kind.Rook e = by kind.Rook Rook refl cc
    go kind.Queen e = by kind.Queen Queen refl cc
    go kind.King e = by kind.King King refl cc

-- where none does, an own pawn stands
pub own_pawn : (p : Pos) (m : Move) → is_legal p m ≡ true → officer_at p m.from ≡ None → is_own p kind.Pawn m.from ≡ true
own_pawn p m h e = own_of p m kind.Pawn h (λ man is. go man.kind (ap officer_by (sym is) ∙ e))
  where
    go : (k : Kind) → officer_of k ≡ None → is_same_kind k kind.Pawn ≡ true
    go kind.Pawn e = refl
    go kind.Knight e = cc
    go kind.Bishop e = cc
    go kind.Rook e = cc
    go kind.Queen e = cc
    go kind.King e = cc

-- ---- promotions

no_pawn : (side : Side) (x : Option Man) (o : Officer) → is_man side (kind_of o) x ≡ true → is_man side kind.Pawn x ≡ false
no_pawn side None o e = absurd cc
no_pawn side (Some man) o e = is_man_other_kind side kind.Pawn man (ap (λ k. is_same_kind k kind.Pawn) (is_man_tells side (kind_of o) man e).1 ∙ other o)
  where
    other : (o : Officer) → is_same_kind (kind_of o) kind.Pawn ≡ false
    other King = refl
    other Queen = refl
    other Rook = refl
    other Bishop = refl
    other Knight = refl

-- the move of an officer names no promotion
pub officer_plain : (p : Pos) (m : Move) (o : Officer) → is_legal p m ≡ true → is_own p (kind_of o) m.from ≡ true → m.promo ≡ promo.Plain
officer_plain p m o h e = plain m.promo (legal_promotion p m h ∙ ap (λ b. not (b && rank_of m.to == last_rank p.side)) (no_pawn p.side (man_at p.board m.from) o e))
  where
    plain : (r : Promo) → is_plain r ≡ true → r ≡ promo.Plain
    plain promo.Plain e = refl
    plain _ e = cc

-- ---- castling

-- what castling on a wing tells
pub record Castling (p : Pos) (m : Move) (wing : Wing) : Type 0 where
  pub from : m.from ≡ king_square p.side
  pub to : m.to ≡ arrival wing p.side
  pub king : is_own p kind.King m.from ≡ true

castling_is : (x : Option Man) (m : Move) (wing : Wing) → castling_by x m ≡ Some wing → (man : Man) × (x ≡ Some man) × (is_castling wing man m ≡ true)
castling_is None m wing e = absurd cc
castling_is (Some man) m wing e = go (is_castling Short man m) (is_castling Long man m) refl refl e
  where
    go : (s l : Bool) → is_castling Short man m ≡ s → is_castling Long man m ≡ l → cond s (Some Short) (cond l (Some Long) None) ≡ Some wing → (other : Man) × (Some man ≡ Some other) × (is_castling wing other m ≡ true)
    go true l is js k = let same : Short ≡ wing = cc in (man, refl, ap (λ w. is_castling w man m) (sym same) ∙ is)
    go false true is js k = let same : Long ≡ wing = cc in (man, refl, ap (λ w. is_castling w man m) (sym same) ∙ js)
    go false false is js k = absurd cc

pub castling_tells : (p : Pos) (m : Move) (wing : Wing) → is_legal p m ≡ true → castling p m ≡ Some wing → Castling p m wing
castling_tells p m wing h e =
    let s = stands p m h in
    let (man, is, c) = castling_is (man_at p.board m.from) m wing e in
    let same : man ≡ s.man = (let both : Some man ≡ Some s.man = sym is ∙ s.is in cc) in
    let side : man.side ≡ p.side = ap (λ (x : Man). x.side) same ∙ s.own in
    let r = and_parts (is_same_kind man.kind kind.King) (m.from == king_square man.side && m.to == arrival wing man.side) c in
    let q = and_parts (m.from == king_square man.side) (m.to == arrival wing man.side) r.1 in
    record {
      from = eqb-true m.from (king_square man.side) q.0 ∙ ap king_square side;
      to = eqb-true m.to (arrival wing man.side) q.1 ∙ ap (arrival wing) side;
      king = ap (is_man p.side kind.King) is ∙ and_from (is_same_side man.side p.side) (is_same_kind man.kind kind.King) (ap (λ x. is_same_side x p.side) side ∙ same_side_self p.side) r.0;
    }
