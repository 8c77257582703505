-- A side's hand, which is its own men and rights and whose turn it is, after its own move and after the opponent's.
use Rattle.std.proofs.Common.{◌≡◌, ℕ, Bool, true, false, not, ◌&&◌, refl, cond, ◌==◌, ◌<◌, arith, sym, ◌∙◌, ap, inl, inr}
use Rattle.std.proofs.lemmas.Bool.{and_from, and_parts, and_right, cond-false, cond-true, not-true, ne_eqb}
use Rattle.std.specs.Prelude.{Option, Some, None, ◌⊎◌}
use Rattle.std.proofs.lemmas.Bool.Decides.{nat_tests}
use Rattle.krieg_moves.proofs.Common.{Side, White, Black, Kind, Pawn, King, Man, Move, Rights, other, is_same_side, is_same_kind, is_same_bool, Pos, man_at, is_man, is_king_attacked, same_hand, has_same_men, has_same_rights, is_same_of, IsValid, corner, after, after_by, rights_after, is_en_passant, passed_square, keeps_right, is_legal, is_candidate, holds, Wing, Short, Long}
use Rattle.krieg_board.specs.declared.men.Kind.TheVariants.{Knight, Bishop, Rook, Queen}
use Rattle.krieg_board.proofs.Facts.{Facts, facts}
use Rattle.krieg_board.proofs.MenLemmas.{same_side_eq, same_side_self, same_kind_eq, is_man_tells}
use Rattle.krieg_board.proofs.SquareTests.{every_square_at, every_square_all}
use Rattle.krieg_moves.proofs.Movers.{Mover, mover}
use Rattle.krieg_moves.proofs.OwnMen.{own, own_man, other_side, own_after, own_men, captured_on, enemy_men}
use Rattle.krieg_moves.proofs.Pawns.{Passing, passing}
use Rattle.krieg_moves.proofs.Castling.{rook_stands}

eq_sym : (a b : ℕ) → (a == b) ≡ (b == a)
eq_sym a b = grind (arith, nat_tests)

-- two positions in which a side has the same men and rights, and the same side is to move
pub record Alike (who : Side) (p q : Pos) : Type 0 where
  pub turn : p.side ≡ q.side
  pub men : (s : ℕ) → s < 64 → own who (man_at p.board s) ≡ own who (man_at q.board s)
  pub rights : (wing : Wing) → holds p.rights who wing ≡ holds q.rights who wing

some_is : (a b : Man) → Some a ≡ Some b → a ≡ b
some_is a b e = cc

same_own : (who : Side) (x y : Option Man) → is_same_of who x y ≡ true → own who x ≡ own who y
same_own who None None h = refl
same_own who None (Some b) h = sym (cond-false (is_same_side b.side who) (Some b) None (not-true (is_same_side b.side who) h))
same_own who (Some a) None h = only (is_same_side a.side who) h
  where
    only : (t : Bool) → cond t false true ≡ true → cond t (Some a) None ≡ None
    only true h = cc
    only false h = refl
same_own who (Some a) (Some b) h = by_side (is_same_side a.side who) refl h
  where
    by_side : (t : Bool) → is_same_side a.side who ≡ t → cond t (is_same_side a.side b.side && is_same_kind a.kind b.kind) (not (is_same_side b.side who)) ≡ true →
        cond t (Some a) None ≡ own who (Some b)
    by_side true e h =
        let r = and_parts (is_same_side a.side b.side) (is_same_kind a.kind b.kind) h in
        let side = same_side_eq a.side b.side r.0 in
        let same : a ≡ b = λ i. record { side = side i; kind = same_kind_eq a.kind b.kind r.1 i } in
        ap (λ x. Some x) same ∙ sym (own_man who b (sym side ∙ same_side_eq a.side who e))
    by_side false e h = sym (cond-false (is_same_side b.side who) (Some b) None (not-true (is_same_side b.side who) h))

same_kind_self : (a : Kind) → is_same_kind a a ≡ true
same_kind_self Pawn = refl
same_kind_self Knight = refl
same_kind_self Bishop = refl
same_kind_self Rook = refl
same_kind_self Queen = refl
same_kind_self King = refl

own_same : (who : Side) (x y : Option Man) → own who x ≡ own who y → is_same_of who x y ≡ true
own_same who None None h = refl
own_same who None (Some b) h = hidden (is_same_side b.side who) h
  where
    hidden : (t : Bool) → None ≡ cond t (Some b) None → not t ≡ true
    hidden true h = cc
    hidden false h = refl
own_same who (Some a) None h = hidden (is_same_side a.side who) h
  where
    hidden : (t : Bool) → cond t (Some a) None ≡ None → cond t false true ≡ true
    hidden true h = cc
    hidden false h = refl
own_same who (Some a) (Some b) h = by_sides (is_same_side a.side who) (is_same_side b.side who) h
  where
    by_sides : (t u : Bool) → cond t (Some a) None ≡ cond u (Some b) None → cond t (is_same_side a.side b.side && is_same_kind a.kind b.kind) (not u) ≡ true
    by_sides true true h =
        let same = some_is a b h in
        ap (λ x. is_same_side a.side x.side && is_same_kind a.kind x.kind) (sym same)
        ∙ and_from (is_same_side a.side a.side) (is_same_kind a.kind a.kind) (same_side_self a.side) (same_kind_self a.kind)
    by_sides true false h = cc
    by_sides false true h = cc
    by_sides false false h = refl

same_bool_eq : (a b : Bool) → is_same_bool a b ≡ true → a ≡ b
same_bool_eq true true h = refl
same_bool_eq false false h = refl
same_bool_eq true false h = cc
same_bool_eq false true h = cc

same_bool_self : (a b : Bool) → a ≡ b → is_same_bool a b ≡ true
same_bool_self true true h = refl
same_bool_self false false h = refl
same_bool_self true false h = cc
same_bool_self false true h = cc

same_rights_each : (who : Side) (a b : Rights) → has_same_rights who a b ≡ true → (wing : Wing) → holds a who wing ≡ holds b who wing
same_rights_each White a b h Short = same_bool_eq a.white_short b.white_short (and_parts (is_same_bool a.white_short b.white_short) (is_same_bool a.white_long b.white_long) h).0
same_rights_each White a b h Long = same_bool_eq a.white_long b.white_long (and_parts (is_same_bool a.white_short b.white_short) (is_same_bool a.white_long b.white_long) h).1
same_rights_each Black a b h Short = same_bool_eq a.black_short b.black_short (and_parts (is_same_bool a.black_short b.black_short) (is_same_bool a.black_long b.black_long) h).0
same_rights_each Black a b h Long = same_bool_eq a.black_long b.black_long (and_parts (is_same_bool a.black_short b.black_short) (is_same_bool a.black_long b.black_long) h).1

each_same_rights : (who : Side) (a b : Rights) → ((wing : Wing) → holds a who wing ≡ holds b who wing) → has_same_rights who a b ≡ true
each_same_rights White a b e = and_from (is_same_bool a.white_short b.white_short) (is_same_bool a.white_long b.white_long)
    (same_bool_self a.white_short b.white_short (e Short)) (same_bool_self a.white_long b.white_long (e Long))
each_same_rights Black a b e = and_from (is_same_bool a.black_short b.black_short) (is_same_bool a.black_long b.black_long)
    (same_bool_self a.black_short b.black_short (e Short)) (same_bool_self a.black_long b.black_long (e Long))

pub same_hand_alike : (who : Side) (p q : Pos) → same_hand p q who ≡ true → Alike who p q
unfolding same_hand has_same_men
same_hand_alike who p q h =
    let a = and_parts (has_same_men who p.board q.board) (has_same_rights who p.rights q.rights && is_same_side p.side q.side) h in
    let b = and_parts (has_same_rights who p.rights q.rights) (is_same_side p.side q.side) a.1 in
    record {
      turn = same_side_eq p.side q.side b.1;
      men = λ s l. same_own who (man_at p.board s) (man_at q.board s) (every_square_at (λ s. is_same_of who (man_at p.board s) (man_at q.board s)) a.0 s l);
      rights = same_rights_each who p.rights q.rights b.0;
    }

pub alike_same_hand : (who : Side) (p q : Pos) → Alike who p q → same_hand p q who ≡ true
unfolding same_hand has_same_men
alike_same_hand who p q e =
    and_from (has_same_men who p.board q.board) (has_same_rights who p.rights q.rights && is_same_side p.side q.side)
    (every_square_all (λ s. is_same_of who (man_at p.board s) (man_at q.board s)) (λ s l. own_same who (man_at p.board s) (man_at q.board s) (e.men s l)))
    (and_from (has_same_rights who p.rights q.rights) (is_same_side p.side q.side)
    (each_same_rights who p.rights q.rights e.rights) (ap (is_same_side p.side) (sym e.turn) ∙ same_side_self p.side))

pub alike_same : (who : Side) (p : Pos) → Alike who p p
alike_same who p = record { turn = refl; men = λ s l. refl; rights = λ wing. refl }

pub alike_back : (who : Side) (p q : Pos) → Alike who p q → Alike who q p
alike_back who p q e = record { turn = sym e.turn; men = λ s l. sym (e.men s l); rights = λ wing. sym (e.rights wing) }

pub alike_through : (who : Side) (p q r : Pos) → Alike who p q → Alike who q r → Alike who p r
alike_through who p q r e f = record { turn = e.turn ∙ f.turn; men = λ s l. e.men s l ∙ f.men s l; rights = λ wing. e.rights wing ∙ f.rights wing }

-- the move, the man that makes it, and the position after it by its parts
record MovesBy (p : Pos) (m : Move) : Type 0 where
  man : Man
  facts_of : Facts p
  mover_of : Mover p m man
  after_is : after p m ≡ after_by p (Some man) m

moves_by : (p : Pos) (m : Move) → IsValid p → is_legal p m ≡ true → MovesBy p m
unfolding is_legal after
moves_by p m valid h =
    let f = facts p valid in
    let l = and_parts (is_candidate p m) (not (is_king_attacked (after p m).board p.side)) h in
    let (man, v) = mover p m f l.0 in
    record { man = man; facts_of = f; mover_of = v; after_is = ap (λ x. after_by p x m) v.departs.stands }

right_after : (r : Rights) (man : Man) (m : Move) (who : Side) (wing : Wing) → holds (rights_after r man m) who wing ≡ keeps_right (holds r who wing) wing who man m
right_after r man m White Short = refl
right_after r man m White Long = refl
right_after r man m Black Short = refl
right_after r man m Black Long = refl

-- after its own move, which was legal in both, a side still has the same men and rights in both
pub alike_own : (who : Side) (p q : Pos) (m : Move) → Alike who p q → IsValid p → IsValid q → p.side ≡ who → is_legal p m ≡ true → is_legal q m ≡ true →
    Alike who (after p m) (after q m)
alike_own who p q m e valid_p valid_q turn legal_p legal_q =
    let a = moves_by p m valid_p legal_p in
    let c = moves_by q m valid_q legal_q in
    let mine_p : a.man.side ≡ who = a.mover_of.own ∙ turn in
    let mine_q : c.man.side ≡ who = c.mover_of.own ∙ (sym e.turn ∙ turn) in
    let stands_p : own who (man_at p.board m.from) ≡ Some a.man = ap (own who) a.mover_of.departs.stands ∙ own_man who a.man mine_p in
    let stands_q : own who (man_at q.board m.from) ≡ Some c.man = ap (own who) c.mover_of.departs.stands ∙ own_man who c.man mine_q in
    let same : a.man ≡ c.man = some_is a.man c.man (sym stands_p ∙ (e.men m.from a.mover_of.from_in ∙ stands_q)) in
    record {
      turn = ap (λ x. x.side) a.after_is ∙ (ap other e.turn ∙ sym (ap (λ x. x.side) c.after_is));
      men = λ s l.
          ap (λ x. own who (man_at x.board s)) a.after_is
          ∙ (own_men who p m a.man s a.facts_of a.mover_of mine_p
          ∙ (ap (own_after a.man m s) (e.men s l)
          ∙ (ap (λ x. own_after x m s (own who (man_at q.board s))) same
          ∙ sym (ap (λ x. own who (man_at x.board s)) c.after_is ∙ own_men who q m c.man s c.facts_of c.mover_of mine_q))));
      rights = λ wing.
          ap (λ x. holds x.rights who wing) a.after_is
          ∙ (right_after p.rights a.man m who wing
          ∙ (ap (λ h. keeps_right h wing who a.man m) (e.rights wing)
          ∙ (ap (λ x. keeps_right (holds q.rights who wing) wing who x m) same
          ∙ sym (ap (λ x. holds x.rights who wing) c.after_is ∙ right_after q.rights c.man m who wing))));
    }

-- a rook of that side stands on the square
rook_not : (who : Side) (man : Man) → is_man who Rook (Some man) ≡ true → (man.side ≡ other who) ⊎ (man.kind ≡ Pawn) → ⊥
rook_not who man h e =
    let r = is_man_tells who Rook man h in
    elim e [
      | inl s ↦ (let no : is_same_side (other who) who ≡ true = ap (λ x. is_same_side x who) (sym s ∙ r.0) ∙ same_side_self who in let yes = other_side who in cc)
      | inr k ↦ (let no : Pawn ≡ Rook = sym k ∙ r.1 in cc)
    ]

enemy_rights : (who : Side) (p : Pos) (m : Move) (man : Man) (wing : Wing) → Facts p → Mover p m man → man.side ≡ other who →
    keeps_right (holds p.rights who wing) wing who man m ≡ holds p.rights who wing && not (corner wing who == captured_on p.mark man m)
enemy_rights who p m man wing f v theirs = by_held (holds p.rights who wing) refl
  where
    there : ℕ
    there = corner wing who

    stays : holds p.rights who wing ≡ true → (not (m.from == there) && not (m.to == there)) ≡ not (there == captured_on p.mark man m)
    stays h =
        let rook = rook_stands p.board p.rights wing who f.castles h in
        let from_not : (m.from == there) ≡ false = ne_eqb m.from there (λ e. rook_not who man (ap (is_man who Rook) (sym v.departs.stands ∙ ap (man_at p.board) e) ∙ rook) (inl theirs)) in
        ap (λ t. not t && not (m.to == there)) from_not ∙ by_passing (is_en_passant p.mark man m) refl rook
      where
        passed_not : Passing p m man → is_man who Rook (man_at p.board there) ≡ true → not (m.to == there) ≡ not (there == passed_square m)
        passed_not w rook =
            ap not (ne_eqb m.to there (λ e. (let no : is_man who Rook None ≡ true = ap (is_man who Rook) (sym w.empty ∙ ap (man_at p.board) e) ∙ rook in cc)))
            ∙ sym (ap not (ne_eqb there (passed_square m) (λ e. rook_not who w.gone (ap (is_man who Rook) (sym w.stands ∙ ap (man_at p.board) (sym e)) ∙ rook) (inr w.kind))))

        by_passing : (t : Bool) → is_en_passant p.mark man m ≡ t → is_man who Rook (man_at p.board there) ≡ true → not (m.to == there) ≡ not (there == captured_on p.mark man m)
        by_passing true e rook =
            passed_not (passing p m man f v e) rook ∙ sym (ap (λ k. not (there == k)) (cond-true (is_en_passant p.mark man m) (passed_square m) m.to e))
        by_passing false e rook =
            ap not (eq_sym m.to there) ∙ sym (ap (λ k. not (there == k)) (cond-false (is_en_passant p.mark man m) (passed_square m) m.to e))

    other_king : (is_same_kind man.kind King && is_same_side man.side who) ≡ false
    other_king = and_right (is_same_kind man.kind King) (is_same_side man.side who) (ap (λ x. is_same_side x who) theirs ∙ other_side who)

    by_held : (held : Bool) → holds p.rights who wing ≡ held → keeps_right held wing who man m ≡ held && not (there == captured_on p.mark man m)
    by_held false h = refl
    by_held true h = ap (λ t. not t && (not (m.from == there) && not (m.to == there))) other_king ∙ stays h

-- what an opponent's move leaves of a side's men and rights, where it captures on that square
pub record Leaves (who : Side) (p next : Pos) (captured : ℕ) : Type 0 where
  pub turn : next.side ≡ other p.side
  pub men : (s : ℕ) → own who (man_at next.board s) ≡ cond (s == captured) None (own who (man_at p.board s))
  pub rights : (wing : Wing) → holds next.rights who wing ≡ holds p.rights who wing && not (corner wing who == captured)

-- the opponent's move: the man, what stands on the to-square, and what the move leaves
pub record TheirMove (who : Side) (p : Pos) (m : Move) : Type 0 where
  pub man : Man
  pub stands : man_at p.board m.from ≡ Some man
  pub to_in : m.to < 64
  pub leaves : Leaves who p (after p m) (captured_on p.mark man m)

pub their_move : (who : Side) (p : Pos) (m : Move) → IsValid p → p.side ≡ other who → is_legal p m ≡ true → TheirMove who p m
their_move who p m valid turn h =
    let a = moves_by p m valid h in
    let theirs : a.man.side ≡ other who = a.mover_of.own ∙ turn in
    record {
      man = a.man;
      stands = a.mover_of.departs.stands;
      to_in = a.mover_of.to_in;
      leaves = record {
        turn = ap (λ x. x.side) a.after_is;
        men = λ s. ap (λ x. own who (man_at x.board s)) a.after_is ∙ enemy_men who p m a.man s a.facts_of a.mover_of theirs;
        rights = λ wing. ap (λ x. holds x.rights who wing) a.after_is
            ∙ (right_after p.rights a.man m who wing ∙ enemy_rights who p m a.man wing a.facts_of a.mover_of theirs);
      };
    }
