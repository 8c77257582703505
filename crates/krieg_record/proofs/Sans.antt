-- Of all legal moves, the text of a legal move means this one.
use Rattle.std.proofs.Common.{◌≡◌, ◌<◌, Bool, true, false, not, cond, ◌==◌, refl, sym, ap, ◌∙◌, arith}
use Rattle.std.proofs.lemmas.Bool.{and_parts, and_from, eqb-true, eq-eqb, not-true}
use Rattle.std.specs.Prelude.{Option, Some, None, is_none}
use Rattle.krieg_record.proofs.Common.{is_same_bool, Pos, file_of, Move, Promo, after, is_legal, in_check, is_mate, Wing, Short, Long, Officer, King, Nothing, Check, Mate, IsCoordinate, IsMovement, Says, kind_of, officer_at, is_own, castling, captures, fits, origin, movement_by, ending, san, san_text, is_wing, is_same_promo, is_movement, is_ending, is_matched, IsOnly}
use Rattle.krieg_board.specs.declared.men.Kind.TheVariants as kind
use Rattle.krieg_board.specs.declared.men.Promo.TheVariants as promo
use Rattle.krieg_moves.proofs.LegalMoves.{legal}
use Rattle.krieg_moves.proofs.Movers.{below_from}
use Rattle.krieg_record.specs.Matching.{is_pawn_capture}
use Rattle.krieg_record.proofs.NotationTexts.{says_one}
use Rattle.krieg_record.proofs.PawnMoves.{IsPawn, pawn_is, same_quiet, same_taking}
use Rattle.krieg_record.proofs.MoveTellings.{own_officer, own_pawn, officer_plain, castling_tells}
use Rattle.krieg_record.proofs.Disambiguations.{same_move, origin_fits, origin_named, not_rival}

-- ---- tests of the same

wing_self : (w : Wing) → is_wing w (Some w) ≡ true
wing_self Short = refl
wing_self Long = refl

pub wing_is : (w : Wing) (x : Option Wing) → is_wing w x ≡ true → x ≡ Some w
wing_is Short (Some Short) e = refl
wing_is Long (Some Long) e = refl
wing_is _ _ e = cc

promo_self : (r : Promo) → is_same_promo r r ≡ true
promo_self promo.Plain = refl
promo_self promo.Queen = refl
promo_self promo.Rook = refl
promo_self promo.Bishop = refl
promo_self promo.Knight = refl

pub promo_is : (a b : Promo) → is_same_promo a b ≡ true → a ≡ b
promo_is promo.Plain promo.Plain e = refl
promo_is promo.Queen promo.Queen e = refl
promo_is promo.Rook promo.Rook e = refl
promo_is promo.Bishop promo.Bishop e = refl
promo_is promo.Knight promo.Knight e = refl
promo_is _ _ e = cc

bool_self : (b : Bool) → is_same_bool b b ≡ true
bool_self true = refl
bool_self false = refl

-- ---- the move is one that its text means

taken_is : (p : Pos) (m : Move) → is_pawn_capture (cond (captures p m) (Some (file_of m.from)) None) p m ≡ true
taken_is p m = go (captures p m) refl
  where
    go : (b : Bool) → captures p m ≡ b → is_pawn_capture (cond b (Some (file_of m.from)) None) p m ≡ true
    go true is = and_from (captures p m) (file_of m.from == file_of m.from) is (eq-eqb (file_of m.from) (file_of m.from) refl)
    go false is = ap not is

movement_is : (p : Pos) (m : Move) → is_legal p m ≡ true → (c : Option Wing) → castling p m ≡ c → (o : Option Officer) → officer_at p m.from ≡ o → is_movement p (movement_by p m c o) m ≡ true
movement_is p m h (Some wing) is o js = ap (is_wing wing) is ∙ wing_self wing
movement_is p m h None is (Some officer) js =
    and_from (is_none (castling p m)) _ (ap is_none is)
    (and_from (is_own p (kind_of officer) m.from) _ (own_officer p m officer h js)
    (and_from (fits (origin p officer m) m.from) _ (origin_fits p officer m)
    (and_from (is_same_bool (captures p m) (captures p m)) _ (bool_self (captures p m))
    (and_from (m.to == m.to) _ (eq-eqb m.to m.to refl) (ap (is_same_promo promo.Plain) (officer_plain p m officer h (own_officer p m officer h js)))))))
movement_is p m h None is None js =
    and_from (is_own p kind.Pawn m.from) _ (own_pawn p m h js)
    (and_from (is_pawn_capture (cond (captures p m) (Some (file_of m.from)) None) p m) _ (taken_is p m)
    (and_from (m.to == m.to) _ (eq-eqb m.to m.to refl) (promo_self m.promo)))

ending_is : (q : Pos) → is_ending (ending q) q ≡ true
ending_is q = go (is_mate q) (in_check q) refl refl
  where
    go : (a b : Bool) → is_mate q ≡ a → in_check q ≡ b → is_ending (cond a Mate (cond b Check Nothing)) q ≡ true
    go true b is js = is
    go false true is js = js
    go false false is js = refl

pub san_matched : (p : Pos) (m : Move) → is_legal p m ≡ true → is_matched p (san p m) m ≡ true
unfolding is_matched san
san_matched p m h = and_from _ (is_ending (ending (after p m)) (after p m)) (movement_is p m h (castling p m) refl (officer_at p m.from) refl) (ending_is (after p m))

movement_named : (p : Pos) (m : Move) → m.from < 64 → m.to < 64 → (c : Option Wing) (o : Option Officer) → IsMovement (movement_by p m c o)
movement_named p m f t (Some wing) o = tt
movement_named p m f t None (Some officer) = let n = origin_named p officer m f in (n.0, n.1, t)
movement_named p m f t None None = (go (captures p m), t)
  where
    go : (b : Bool) → IsCoordinate (cond b (Some (file_of m.from)) None)
    go true = omega arith
    go false = tt

pub san_named : (p : Pos) (m : Move) → is_legal p m ≡ true → IsMovement (san p m).movement
unfolding san
san_named p m h =
    let l = legal p m h in
    movement_named p m (below_from m.from 64 l.from_in) (below_from m.to 64 l.to_in) (castling p m) (officer_at p m.from)

pub san_says : (p : Pos) (m : Move) → is_legal p m ≡ true → Says (san_text p m) (san p m)
unfolding san_text
san_says p m h = record { is = refl; named = san_named p m h }

-- ---- and it is the only one

only_movement : (p : Pos) (m o : Move) → is_legal p m ≡ true → is_legal p o ≡ true → (c : Option Wing) → castling p m ≡ c → (g : Option Officer) → officer_at p m.from ≡ g → is_movement p (movement_by p m c g) o ≡ true → o ≡ m
only_movement p m o hm ho (Some wing) is g js e =
    let a = castling_tells p m wing hm is in
    let b = castling_tells p o wing ho (wing_is wing (castling p o) e) in
    same_move o m (b.from ∙ sym a.from) (b.to ∙ sym a.to) (officer_plain p o King ho b.king ∙ sym (officer_plain p m King hm a.king))
only_movement p m o hm ho None is (Some officer) js e =
    let r1 = and_parts (is_none (castling p o)) _ e in
    let r2 = and_parts (is_own p (kind_of officer) o.from) _ r1.1 in
    let r3 = and_parts (fits (origin p officer m) o.from) _ r2.1 in
    let r4 = and_parts (is_same_bool (captures p m) (captures p o)) _ r3.1 in
    let r5 = and_parts (o.to == m.to) (is_same_promo promo.Plain o.promo) r4.1 in
    let to = eqb-true o.to m.to r5.0 in
    let plain = sym (promo_is promo.Plain o.promo r5.1) in
    same_move o m (not_rival p officer m o ho r2.0 to plain r3.0) to (plain ∙ sym (officer_plain p m officer hm (own_officer p m officer hm js)))
only_movement p m o hm ho None is None js e =
    let r1 = and_parts (is_own p kind.Pawn o.from) _ e in
    let r2 = and_parts (is_pawn_capture (cond (captures p m) (Some (file_of m.from)) None) p o) _ r1.1 in
    let r3 = and_parts (o.to == m.to) (is_same_promo m.promo o.promo) r2.1 in
    let to = eqb-true o.to m.to r3.0 in
    same_move o m (from (captures p m) refl r2.0 to (pawn_is p o r1.0)) to (sym (promo_is m.promo o.promo r3.1))
  where
    from : (b : Bool) → captures p m ≡ b → is_pawn_capture (cond b (Some (file_of m.from)) None) p o ≡ true → o.to ≡ m.to → IsPawn p o → o.from ≡ m.from
    from true is k to w =
        let r = and_parts (captures p o) (file_of o.from == file_of m.from) k in
        same_taking p o m w (pawn_is p m (own_pawn p m hm js)) ho hm r.0 is to (eqb-true (file_of o.from) (file_of m.from) r.1)
    from false is k to w = same_quiet p o m w (pawn_is p m (own_pawn p m hm js)) ho hm (not-true (captures p o) k) is to

pub only_matched : (p : Pos) (m o : Move) → is_legal p m ≡ true → is_legal p o ≡ true → is_matched p (san p m) o ≡ true → o ≡ m
unfolding is_matched san
only_matched p m o hm ho e =
    only_movement p m o hm ho (castling p m) refl (officer_at p m.from) refl (and_parts (is_movement p (movement_by p m (castling p m) (officer_at p m.from)) o) _ e).0

pub san_only : (p : Pos) (m : Move) → is_legal p m ≡ true → IsOnly p (san_text p m) m
san_only p m h = record {
  matches = record { legal = h; notation = san p m; says = san_says p m h; matched = san_matched p m h };
  alone = λ o k. only_matched p m o h k.legal (ap (λ n. is_matched p n o) (says_one (san_text p m) (san p m) k.notation (san_says p m h) k.says) ∙ k.matched);
}

pub ruleset named = (san_named)
