-- Each round of a made session is judged alike.
use Rattle.std.proofs.Common.{◌≡◌, ℕ, zero, suc, ◌+◌, ◌%◌, ◌==◌, Bool, true, false, not, ◌&&◌, cond, if◌then◌else◌, Option, Some, None, List, [], ◌∷◌, ◌++◌, map, refl, ◌∙◌, ap, inl, inr, arith, add-one}
use Rattle.std.specs.Prelude.{◌⊎◌, nat_lt, slice_index_or}
use Rattle.std.proofs.lemmas.Bool.{and_right}
use Rattle.krieg_make.proofs.Common.{is_king_attacked, man_at, is_of, other, is_same_side, Pos, gathered, Man, Move, Side, White, Black, after, is_legal, is_candidate, is_move_of, is_move_of_kind, plain_move, is_ended, words, silent, judge, last, verdict, next, Event, Verdict, Early, Illegal, Done, round_verdicts, RoundsAreAlike, made_tries, round_of, mover, knight_moves, knight_move, event, g1, f3}
use Rattle.krieg_board.proofs.MenLemmas.{same_side_self}
use Rattle.krieg_moves.proofs.OwnMen.{other_side}
use Rattle.krieg_make.proofs.KnightMoves.{Leads, p0, p1, p2, p3, all_lead}

-- the verdicts of tries from a position
abbrev verdicts : Pos → List Event → List Verdict
verdicts p es = map (λ j. j.verdict) (judge p es)

verdicts-append : (p : Pos) (es fs : List Event) → verdicts p (es ++ fs) ≡ verdicts p es ++ verdicts (last p es) fs
verdicts-append p [] fs = refl
verdicts-append p (e ∷ es) fs = ap (λ vs. verdict p e.who e.mv ∷ vs) (verdicts-append (next p e.who e.mv) es fs)

last-append : (p : Pos) (es fs : List Event) → last p (es ++ fs) ≡ last (last p es) fs
last-append p [] fs = refl
last-append p (e ∷ es) fs = last-append (next p e.who e.mv) es fs

of_man : (p : Pos) (m : Move) (man : Option Man) → (not (is_of p.side man) && is_move_of man p m) ≡ false
of_man p m None = refl
of_man p m (Some man) = by (is_same_side man.side p.side)
  where
    by : (own : Bool) → (not own && (own && is_move_of_kind man.kind p m)) ≡ false
    by true = refl
    by false = refl

-- no man goes from a square to itself
nowhere : (p : Pos) (z : ℕ) → is_legal p (plain_move z z) ≡ false
unfolding is_legal is_candidate
nowhere p z =
    let m : Move = plain_move z z in
    let none : is_candidate p m ≡ false = and_right (nat_lt z 64) _ (and_right (nat_lt z 64) _ (of_man p m (man_at p.board z))) in
    ap (λ (b : Bool). b && not (is_king_attacked (after p m).board p.side)) none

early : (p : Pos) (m : Move) (who : Side) → p.side ≡ who → is_ended p ≡ false → verdict p (other who) m ≡ Early
unfolding verdict
early p m who turn goes =
    rw goes (ap (λ (b : Bool). cond (not b) Early (cond (not (is_legal p m)) Illegal (Done (words p m)))) (ap (is_same_side (other who)) turn ∙ other_side who))

own_turn : (p : Pos) (m : Move) (who : Side) → p.side ≡ who → is_ended p ≡ false → verdict p who m ≡ cond (not (is_legal p m)) Illegal (Done (words p m))
unfolding verdict
own_turn p m who turn goes =
    rw goes (ap (λ (b : Bool). cond (not b) Early (cond (not (is_legal p m)) Illegal (Done (words p m)))) (ap (is_same_side who) turn ∙ same_side_self who))

illegal : (p : Pos) (m : Move) (who : Side) → p.side ≡ who → is_ended p ≡ false → is_legal p m ≡ false → verdict p who m ≡ Illegal
illegal p m who turn goes none = own_turn p m who turn goes ∙ ap (λ (b : Bool). cond (not b) Illegal (Done (words p m))) none

done : (p q : Pos) (m : Move) (who : Side) → Leads p q m who → verdict p who m ≡ Done silent
done p q m who l =
    own_turn p m who l.turn l.goes ∙ (ap (λ (b : Bool). cond (not b) Illegal (Done (words p m))) l.legal ∙ ap (λ w. Done w) l.said)

-- the tries of a round whose mover has this move
abbrev tries : ℕ → Side → Move → List Event
tries z who m = event (other who) (plain_move z z) ∷ event who (plain_move z z) ∷ event who m ∷ []

tries_judged : (p q : Pos) (z : ℕ) (who : Side) (m : Move) → Leads p q m who → (verdicts p (tries z who m) ≡ round_verdicts) × (last p (tries z who m) ≡ q)
tries_judged p q z who m l =
    let first = early p (plain_move z z) who l.turn l.goes in
    let second = illegal p (plain_move z z) who l.turn l.goes (nowhere p z) in
    let third = done p q m who l in
    (rw (first, second, third), rw (first, second, third) l.next)

-- where the game stands after a number of rounds, by what is left of it when fours are taken away
stand : ℕ → Pos
stand zero = p0
stand (suc zero) = p1
stand (suc (suc zero)) = p2
stand (suc (suc (suc r))) = p3

fours : (n : ℕ) → ((n % 4 ≡ 0) × ((n + 1) % 4 ≡ 1) × (n % 2 ≡ 0)) ⊎ (((n % 4 ≡ 1) × ((n + 1) % 4 ≡ 2) × (n % 2 ≡ 1)) ⊎ (((n % 4 ≡ 2) × ((n + 1) % 4 ≡ 3) × (n % 2 ≡ 0)) ⊎ ((n % 4 ≡ 3) × ((n + 1) % 4 ≡ 0) × (n % 2 ≡ 1))))
fours n = grind arith

round_leads : (n : ℕ) → Leads (stand (n % 4)) (stand ((n + 1) % 4)) (knight_move n) (mover n)
unfolding stand
round_leads n = go (n % 4) ((n + 1) % 4) (n % 2) (fours n)
  where
    go : (r next half : ℕ) → ((r ≡ 0) × (next ≡ 1) × (half ≡ 0)) ⊎ (((r ≡ 1) × (next ≡ 2) × (half ≡ 1)) ⊎ (((r ≡ 2) × (next ≡ 3) × (half ≡ 0)) ⊎ ((r ≡ 3) × (next ≡ 0) × (half ≡ 1)))) →
        Leads (stand r) (stand next) (slice_index_or knight_moves r (plain_move g1 f3)) (if half == 0 then White else Black)
    go r next half (inl (a, b, c)) = rw (a, b, c) all_lead.0
    go r next half (inr (inl (a, b, c))) = rw (a, b, c) all_lead.1
    go r next half (inr (inr (inl (a, b, c)))) = rw (a, b, c) all_lead.2
    go r next half (inr (inr (inr (a, b, c)))) = rw (a, b, c) all_lead.3

after_rounds : (s n : ℕ) → last p0 (made_tries s n) ≡ stand (n % 4)
unfolding made_tries stand
after_rounds s zero = refl
after_rounds s (suc n) =
    last-append p0 (gathered (round_of s) n) (round_of s n)
    ∙ (ap (λ p. last p (round_of s n)) (after_rounds s n)
    ∙ ((tries_judged (stand (n % 4)) (stand ((n + 1) % 4)) ((s + n) % 64) (mover n) (knight_move n) (round_leads n)).1
    ∙ ap (λ k. stand (k % 4)) (add-one n)))

all_verdicts : (s n : ℕ) → verdicts p0 (made_tries s n) ≡ gathered (λ m. round_verdicts) n
unfolding made_tries
all_verdicts s zero = refl
all_verdicts s (suc n) =
    verdicts-append p0 (gathered (round_of s) n) (round_of s n)
    ∙ (ap (λ vs. vs ++ verdicts (last p0 (gathered (round_of s) n)) (round_of s n)) (all_verdicts s n)
    ∙ ap (λ vs. gathered (λ m. round_verdicts) n ++ vs) (
    ap (λ p. verdicts p (round_of s n)) (after_rounds s n)
    ∙ (tries_judged (stand (n % 4)) (stand ((n + 1) % 4)) ((s + n) % 64) (mover n) (knight_move n) (round_leads n)).0))

pub rounds_alike : RoundsAreAlike
unfolding p0
rounds_alike s n = all_verdicts s n
