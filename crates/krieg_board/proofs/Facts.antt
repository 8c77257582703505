-- The facts of a valid position one by one, and a position with these facts has no fault.
use Rattle.std.proofs.Common.{◌≡◌, Bool, true, false, not, ◌&&◌, refl, cond, length}
use Rattle.std.specs.Prelude.{Option, Some, None}
use Rattle.krieg_board.proofs.Common.{White, Black, BadPosition, other, is_king_attacked, Pos, IsValid, first_fault, has_kings, has_pawns_inside, is_small, has_castles, has_mark}
use Rattle.krieg_faults.specs.declared.position.BadPosition.TheVariants as bad

pub record Facts (p : Pos) : Type 0 where
  pub squares : length p.board ≡ 64
  pub kings : has_kings p.board ≡ true
  pub pawns : has_pawns_inside p.board ≡ true
  pub small : (is_small p.board White && is_small p.board Black) ≡ true
  pub idle : is_king_attacked p.board (other p.side) ≡ false
  pub castles : has_castles p.board p.rights ≡ true
  pub mark : has_mark p.board p.side p.mark ≡ true

first : Bool → Bool → Bool → Bool → Bool → Bool → Option BadPosition
first a b c d e f =
    cond (not a) (Some bad.Kings) (cond (not b) (Some bad.PawnRank) (cond (not c) (Some bad.TooManyMen)
    (cond d (Some bad.IdleInCheck) (cond (not e) (Some bad.Rights) (cond (not f) (Some bad.Mark) None)))))

none_first : (a b c d e f : Bool) → first a b c d e f ≡ None → (a ≡ true) × (b ≡ true) × (c ≡ true) × (d ≡ false) × (e ≡ true) × (f ≡ true)
unfolding first
none_first false b c d e f h = cc
none_first true false c d e f h = cc
none_first true true false d e f h = cc
none_first true true true true e f h = cc
none_first true true true false false f h = cc
none_first true true true false true false h = cc
none_first true true true false true true h = (refl, refl, refl, refl, refl, refl)

first_none : (a b c d e f : Bool) → a ≡ true → b ≡ true → c ≡ true → d ≡ false → e ≡ true → f ≡ true → first a b c d e f ≡ None
unfolding first
first_none a b c d e f ha hb hc hd he hf = rw (ha, hb, hc, hd, he, hf)

pub facts : (p : Pos) → IsValid p → Facts p
unfolding first_fault first
facts p v =
    let r = none_first (has_kings p.board) (has_pawns_inside p.board) (is_small p.board White && is_small p.board Black)
    (is_king_attacked p.board (other p.side)) (has_castles p.board p.rights) (has_mark p.board p.side p.mark) v.no_fault in
    record { squares = v.squares; kings = r.0; pawns = r.1; small = r.2; idle = r.3; castles = r.4; mark = r.5 }

pub no_fault : (p : Pos) → Facts p → first_fault p ≡ None
unfolding first_fault first
no_fault p f =
    first_none (has_kings p.board) (has_pawns_inside p.board) (is_small p.board White && is_small p.board Black)
    (is_king_attacked p.board (other p.side)) (has_castles p.board p.rights) (has_mark p.board p.side p.mark)
    f.kings f.pawns f.small f.idle f.castles f.mark
