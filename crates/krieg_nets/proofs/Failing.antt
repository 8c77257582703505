-- Moves of the officers that do not mate in time, with the king who is alone on any square of a set.
use Rattle.std.proofs.Common.{◌≡◌, ◌≢◌, ℕ, suc, ◌-◌, ◌^◌, ◌<◌, ◌==◌, Bool, true, false, not, ◌&&◌, ◌||◌, ◌⊎◌, inl, inr, refl, sym, ap, subst, ◌∙◌, bit_and, bit_or, arith}
use Rattle.std.specs.Prelude.{Option, Some, None, is_some, slice_set, if◌then◌else◌}
use Rattle.std.proofs.lemmas.Bool.{and_from, and_parts, both_ways, cases_Bool, eqb-true, or_cases}
use Rattle.krieg_board.specs.Attacks.{is_between, man_attacks}
use Rattle.krieg_board.specs.Board.{Board, man_at}
use Rattle.krieg_board.specs.Men.{is_same_kind, other}
use Rattle.krieg_board.specs.Sets.{has}
use Rattle.krieg_board.specs.Validity.{IsValid}
use Rattle.krieg_board.specs.declared.men.Kind.TheVariants.{King}
use Rattle.krieg_board.specs.declared.men.Man.{Man}
use Rattle.krieg_board.specs.declared.men.Move.{Move}
use Rattle.krieg_board.specs.declared.men.Side.{Side}
use Rattle.krieg_board.specs.declared.men.Side.TheVariants.{White, Black}
use Rattle.krieg_board.proofs.SetLemmas.{has_and, has_not, has_or, has_zero}
use Rattle.krieg_rays.specs.Rays.{goes}
use Rattle.krieg_moves.specs.After.{after}
use Rattle.krieg_moves.specs.Legal.{is_legal}
use Rattle.krieg_moves.specs.Moves.{moves}
use Rattle.krieg_moves.proofs.Boards.{man_at_set_other}
use Rattle.krieg_nets.specs.LoneKings.{AreOfficers, with_king}
use Rattle.krieg_nets.specs.Nets.{Against, AllFailBetween, AllFailFrom, AreNone, Fails, IsNet, against}
use Rattle.krieg_nets.specs.Others.{lone_of}
use Rattle.krieg_nets.specs.Seen.{is_met, mates_within}
use Rattle.krieg_nets.specs.declared.men.Men.{Men}
use Rattle.krieg_nets.specs.declared.kept.Net.{Net}
use Rattle.krieg_nets.proofs.Meeting.{fled_not_met, none_mates, stale_not_met}
use Rattle.krieg_nets.proofs.OwnMoves.{Goes, officer_goes}

-- the men are officers
pub are_officers : (men : Men) → AreOfficers men.bits (lone_of men.others)
are_officers men = record { enemies = men.enemies; officers = men.officers }

-- who moves
module _ (men : Men) (k : ℕ) (inside : k < 64) (empty : man_at men.bits k ≡ None) (valid : IsValid (with_king men.bits (lone_of men.others) k (other (lone_of men.others)))) (t : Move)
    (legal : is_legal (with_king men.bits (lone_of men.others) k (other (lone_of men.others))) t ≡ true) where
  goer : Goes men.bits (lone_of men.others) k t
  goer = officer_goes men.bits (lone_of men.others) k t men.size inside (are_officers men) empty valid legal

  is_goer : (from : ℕ) (man : Man) → t.from ≡ from → man_at men.bits from ≡ Some man → goer.man ≡ man
  is_goer from man e is = let z : Some goer.man ≡ Some man = sym goer.is ∙ ap (man_at men.bits) e ∙ is in cc

-- a square that is not occupied
pub nobody_at : (x : Option Man) → is_some x ≡ false → x ≡ None
nobody_at None e = refl
nobody_at (Some man) e = cc

-- nobody stands there
pub from_nobody : (men : Men) (fewer from set : ℕ) → man_at men.bits from ≡ None → AllFailFrom (against men) fewer from set
from_nobody men fewer from set none k inside h t e empty valid legal =
    let g = goer men k inside empty valid t legal in
    absurd (let z : Some g.man ≡ None = sym g.is ∙ ap (man_at men.bits) e ∙ none in cc)

-- so is it at the start of a loop over the squares where somebody stands
pub from_begun : (men : Men) (fewer occupied set : ℕ) → ((k : ℕ) → k < 64 → has occupied k ≡ is_some (man_at men.bits k)) → (from : ℕ) → from < 64 → has occupied from ≡ false
    → AllFailFrom (against men) fewer from set
from_begun men fewer occupied set stand from inside gone = from_nobody men fewer from set (nobody_at (man_at men.bits from) (sym (stand from inside) ∙ gone))

-- the man does not attack that square, or it is not empty
to_no_target : (men : Men) (man : Man) (fewer from to set : ℕ) → man_at men.bits from ≡ Some man → (man_attacks men.bits (Some man) from to && not (is_some (man_at men.bits to))) ≡ false
    → AllFailBetween (against men) fewer from to set
to_no_target men man fewer from to set stands none k inside h t f g empty valid legal =
    let mover = goer men k inside empty valid t legal in
    let is = is_goer men k inside empty valid t legal from man f stands in
    absurd (both_ways _ none (and_from (man_attacks men.bits (Some man) from to) (not (is_some (man_at men.bits to)))
    (sym (λ i. man_attacks men.bits (Some (is i)) (f i) (g i)) ∙ mover.attacks)
    (sym (ap (λ s. not (is_some (man_at men.bits s))) g) ∙ ap (λ x. not (is_some x)) mover.free)))

-- so is it at the start of a loop over the empty squares that he attacks
pub to_begun : (men : Men) (man : Man) (fewer from targets occupied set : ℕ) → man_at men.bits from ≡ Some man → ((k : ℕ) → k < 64 → has targets k ≡ man_attacks men.bits (Some man) from k)
    → ((k : ℕ) → k < 64 → has occupied k ≡ is_some (man_at men.bits k)) → occupied < 2 ^ 64 → (to : ℕ) → to < 64 → has (bit_and targets (18446744073709551615 - occupied)) to ≡ false
    → AllFailBetween (against men) fewer from to set
to_begun men man fewer from targets occupied set stands hit stand few to inside gone =
    to_no_target men man fewer from to set stands
    (sym (has_and targets (18446744073709551615 - occupied) to ∙ (λ i. hit to inside i && (has_not occupied to few inside ∙ ap not (stand to inside)) i)) ∙ gone)

-- a loop over the squares of a set, at each of which the answer has fewer squares
step : (P : ℕ → ℕ → Type 0) (rest less s set more : ℕ) → ((j : ℕ) → P j set → P j (bit_and set more)) → (P s more → P s (bit_and set more)) → ((k : ℕ) → k < 64 → has less k ≡ (has rest k && not (k == s))) →
    ((j : ℕ) → j < 64 → has rest j ≡ false → P j set) → P s more → (j : ℕ) → j < 64 → has less j ≡ false → P j (bit_and set more)
step P rest less s set more among also others before here j inside gone = by_square (cases_Bool (j == s))
  where
    out : (a b : Bool) → b ≡ false → (a && not b) ≡ false → a ≡ false
    out true true e h = cc
    out true false e h = h
    out false b e h = refl

    by_square : ((j == s) ≡ true) ⊎ ((j == s) ≡ false) → P j (bit_and set more)
    by_square (inl e) = subst (λ n. P n (bit_and set more)) (sym (eqb-true j s e)) (also here)
    by_square (inr e) = among j (before j inside (out (has rest j) (j == s) e (sym (others j inside) ∙ gone)))

pub from_step : (men : Men) (fewer rest less s set more : ℕ) → ((k : ℕ) → k < 64 → has less k ≡ (has rest k && not (k == s))) → ((from : ℕ) → from < 64 → has rest from ≡ false → AllFailFrom (against men) fewer from set)
    → AllFailFrom (against men) fewer s more → (from : ℕ) → from < 64 → has less from ≡ false → AllFailFrom (against men) fewer from (bit_and set more)
from_step men fewer rest less s set more =
    step (λ from n. AllFailFrom (against men) fewer from n) rest less s set more
    (λ from each k inside h. each k inside (and_parts (has set k) (has more k) (sym (has_and set more k) ∙ h)).0)
    (λ each k inside h. each k inside (and_parts (has set k) (has more k) (sym (has_and set more k) ∙ h)).1)

pub to_step : (men : Men) (fewer from rest less s set more : ℕ) → ((k : ℕ) → k < 64 → has less k ≡ (has rest k && not (k == s))) → ((to : ℕ) → to < 64 → has rest to ≡ false → AllFailBetween (against men) fewer from to set)
    → AllFailBetween (against men) fewer from s more → (to : ℕ) → to < 64 → has less to ≡ false → AllFailBetween (against men) fewer from to (bit_and set more)
to_step men fewer from rest less s set more =
    step (λ to n. AllFailBetween (against men) fewer from to n) rest less s set more
    (λ to each k inside h. each k inside (and_parts (has set k) (has more k) (sym (has_and set more k) ∙ h)).0)
    (λ each k inside h. each k inside (and_parts (has set k) (has more k) (sym (has_and set more k) ∙ h)).1)

-- no square is left
has_none : (rest k : ℕ) → rest ≡ 0 → has rest k ≡ false
has_none rest k e = ap (λ s. has s k) e ∙ has_zero k

-- wherever the man goes, the move fails
pub from_all : (men : Men) (fewer from rest set : ℕ) → rest ≡ 0 → ((to : ℕ) → to < 64 → has rest to ≡ false → AllFailBetween (against men) fewer from to set) → AllFailFrom (against men) fewer from set
from_all men fewer from rest set z each k inside h t e empty valid legal = each t.to (goer men k inside empty valid t legal).to_in (has_none rest t.to z) k inside h t e refl empty valid legal

-- whoever goes, the move fails
pub none_all : (men : Men) (moves rest set : ℕ) → moves ≢ 0 → rest ≡ 0 → ((from : ℕ) → from < 64 → has rest from ≡ false → AllFailFrom (against men) (moves - 1) from set) → AreNone men.bits (lone_of men.others) moves set
none_all men moves rest set some z each k inside h empty valid =
    let n : suc (moves - 1) ≡ moves = omega arith in
    let p = with_king men.bits (lone_of men.others) k (other (lone_of men.others)) in
    subst (λ n. mates_within n p ≡ false) n
    (none_mates (moves - 1) p (λ t legal. each t.from (goer men k inside empty valid t legal).from_in (has_none rest t.from z) k inside h t refl empty valid legal))

-- the move of a man from the one square to the other
module _ (men : Men) (man : Man) (from to : ℕ) (stands : man_at men.bits from ≡ Some man) where
  abbrev lone : Side
  lone = lone_of men.others

  abbrev behind : Board
  behind = slice_set (slice_set men.bits from None) to (Some man)

  -- with the king who is alone on that square
  module _ (k : ℕ) (inside : k < 64) (t : Move) (leaves : t.from ≡ from) (arrives : t.to ≡ to) (empty : man_at men.bits k ≡ None) (valid : IsValid (with_king men.bits lone k (other lone)))
      (legal : is_legal (with_king men.bits lone k (other lone)) t ≡ true) where
    abbrev mover : Goes men.bits lone k t
    mover = goer men k inside empty valid t legal

    is : mover.man ≡ man
    is = is_goer men k inside empty valid t legal from man leaves stands

    not_blocked : (is_between from to k || (is_same_kind man.kind King && goes King White to k)) ≡ true → ⊥
    not_blocked h = by_way (or_cases (is_between from to k) (is_same_kind man.kind King && goes King White to k) h)
      where
        near : (is_same_kind man.kind King ≡ true) × (goes King White to k ≡ true) → ⊥
        near (royal, step) = both_ways (goes King White to k) (sym (ap (λ s. goes King White s k) arrives) ∙ mover.apart (ap (λ m. is_same_kind m.kind King) is ∙ royal)) step

        by_way : (is_between from to k ≡ true) ⊎ ((is_same_kind man.kind King && goes King White to k) ≡ true) → ⊥
        by_way (inl e) = both_ways (is_between from to k) (sym (λ i. is_between (leaves i) (arrives i) k) ∙ mover.clear) e
        by_way (inr e) = near (and_parts (is_same_kind man.kind King) (goes King White to k) e)

    board_behind : slice_set (slice_set men.bits t.from None) t.to (Some mover.man) ≡ behind
    board_behind = λ i. slice_set (slice_set men.bits (leaves i) None) (arrives i) (Some (is i))

    next : after (with_king men.bits lone k (other lone)) t ≡ with_king behind lone k lone
    next = mover.next ∙ ap (λ b. with_king b lone k lone) board_behind

    valid_behind : IsValid (with_king behind lone k lone)
    valid_behind = subst (λ b. IsValid (with_king b lone k lone)) board_behind mover.valid

    empty_behind : man_at behind k ≡ None
    empty_behind =
        man_at_set_other (slice_set men.bits from None) to k (Some man) (λ e. mover.off (arrives ∙ sym e))
        ∙ man_at_set_other men.bits from k None (λ e. let z : Some man ≡ None = sym stands ∙ ap (man_at men.bits) (sym e) ∙ empty in cc)
        ∙ empty

  -- the king who is alone is in the way
  pub blocked_fails : (fewer set : ℕ) → ((k : ℕ) → k < 64 → has set k ≡ (is_between from to k || (is_same_kind man.kind King && goes King White to k))) → AllFailBetween (against men) fewer from to set
  blocked_fails fewer set are k inside h t leaves arrives empty valid legal = absurd (not_blocked k inside t leaves arrives empty valid legal (sym (are k inside) ∙ h))

  -- behind it he gets away, or is stalemated
  module _ (fewer : ℕ) (net : Net) (right : IsNet (record { board = behind; lone = lone }) fewer net) where
    fled_fails : AllFailBetween (against men) fewer from to net.fled
    fled_fails k inside h t leaves arrives empty valid legal =
        ap (is_met (mates_within fewer)) (next k inside t leaves arrives empty valid legal)
        ∙ fled_not_met fewer (with_king behind lone k lone)
        (right.fled k inside h (empty_behind k inside t leaves arrives empty valid legal) (valid_behind k inside t leaves arrives empty valid legal))

    stale_fails : AllFailBetween (against men) fewer from to net.stale
    stale_fails k inside h t leaves arrives empty valid legal =
        ap (is_met (mates_within fewer)) (next k inside t leaves arrives empty valid legal)
        ∙ stale_not_met fewer (with_king behind lone k lone) (right.stale k inside h (valid_behind k inside t leaves arrives empty valid legal))

either_fails : (men : Men) (fewer from to one two : ℕ) → AllFailBetween (against men) fewer from to one → AllFailBetween (against men) fewer from to two → AllFailBetween (against men) fewer from to (bit_or one two)
either_fails men fewer from to one two f g k inside h = by_set (or_cases (has one k) (has two k) (sym (has_or one two k) ∙ h))
  where
    by_set : (has one k ≡ true) ⊎ (has two k ≡ true) → (t : Move) → t.from ≡ from → t.to ≡ to → Fails (against men) fewer k t
    by_set (inl e) = f k inside e
    by_set (inr e) = g k inside e

-- the king who is alone is in the way, gets away behind the move, or is stalemated
pub net_fails : (men next : Men) (man : Man) (fewer from to set : ℕ) (net : Net) → man_at men.bits from ≡ Some man → ((k : ℕ) → k < 64 → has set k ≡ (is_between from to k || (is_same_kind man.kind King && goes King White to k)))
    → next.bits ≡ slice_set (slice_set men.bits from None) to (Some man) → next.others.black ≡ men.others.black → IsNet (against next) fewer net
    → AllFailBetween (against men) fewer from to (bit_or (bit_or set net.fled) net.stale)
net_fails men next man fewer from to set net stands are board black right =
    let there : against next ≡ record { board = slice_set (slice_set men.bits from None) to (Some man); lone = lone_of men.others } =
    λ i. record { board = board i; lone = if black i then Black else White } in
    let known = subst (λ (a : Against). IsNet a fewer net) there right in
    either_fails men fewer from to (bit_or set net.fled) net.stale
    (either_fails men fewer from to set net.fled (blocked_fails men man from to stands fewer set are) (fled_fails men man from to stands fewer net known))
    (stale_fails men man from to stands fewer net known)
