-- How a game stops.
use Rattle.std.proofs.Common.{◌≡◌, ℕ, ◌-◌, ◌<◌, ◌≤◌, Bool, true, false, not, length, refl, sym, ap, ◌∙◌, subst, arith, Result, Ok, Err, Option, Some, None}
use Rattle.krieg_play.proofs.Common.{Pos, Side, is_ended, GameState, Stop, Ended, AsksUsed, Account, Sides, seats_of, seat_count, AfterPass, Passes, PlaysOn, PlayFault}
use Rattle.krieg_umpire.specs.declared.verdict.Stop.TheVariants.{Left}
use Rattle.krieg_play.proofs.Courses.{both_counted}

pub stops_ended : {X : Type 0} (account : X → Account) (start : Pos) (seats : ℕ) (now : Sides X) (game : GameState) → is_ended game.position ≡ true → PlaysOn account (Ok Ended) start seats now now game game
stops_ended account start seats now game h asks entry u seats_is = record { played = u; stops = h }

pub stops_used : {X : Type 0} (account : X → Account) (start : Pos) (seats : ℕ) (now : Sides X) (game : GameState) → is_ended game.position ≡ false →
    game.spare ≤ seats - seat_count now → PlaysOn account (Ok AsksUsed) start seats now now game game
stops_used account start seats now game h few asks entry u seats_is =
    record { played = u; stops = (h, omega (arith, few, seats_is, both_counted u.whole.courses.white u.whole.courses.black, u.whole.is_game.places)) }

pub stops_left : {X : Type 0} (account : X → Account) (start : Pos) (seats : ℕ) (who : Side) (before now : Sides X) (game : GameState) → is_ended game.position ≡ false →
    seats - seat_count now < game.spare → who ≡ game.position.side → length (seats_of who now) ≡ 1 →
    Passes account (Ok (Some who)) start seats before now game game → PlaysOn account (Ok (Left who)) start seats before now game game
stops_left account start seats who before now game h many turn one passes asks entry u seats_is =
    let v = passes asks entry u seats_is in
    record { played = v; stops = (h, omega (arith, many, seats_is, both_counted v.whole.courses.white v.whole.courses.black, v.whole.is_game.places), turn, one) }

-- the same from what the pass says
pub stops_left_at : {X : Type 0} (account : X → Account) (start : Pos) (seats : ℕ) (who : Side) (p : Result (Option Side) PlayFault) (before now : Sides X) (game game' : GameState) → is_ended game.position ≡ false →
    seats - seat_count now < game.spare → p ≡ Ok (Some who) → game' ≡ game → who ≡ game.position.side → length (seats_of who now) ≡ 1 →
    Passes account p start seats before now game game' → PlaysOn account (Ok (Left who)) start seats before now game game'
stops_left_at account start seats who p before now game game' h many p_is same turn one passes =
    subst (λ (x : GameState). PlaysOn account (Ok (Left who)) start seats before now game x) (sym same)
    (stops_left account start seats who before now game h many turn one
    (subst (λ (x : GameState). Passes account (Ok (Some who)) start seats before now game x) same (subst (λ (x : Result (Option Side) PlayFault). Passes account x start seats before now game game') p_is passes)))

pub stops_fault : {X : Type 0} (account : X → Account) (start : Pos) (seats : ℕ) (fault : PlayFault) (before now : Sides X) (game game' : GameState) →
    Passes account (Err fault) start seats before now game game' → PlaysOn account (Err fault) start seats before now game game'
stops_fault account start seats fault before now game game' passes asks entry u seats_is = passes asks entry u seats_is

-- a pass, and then the rest
pub goes_on : {X : Type 0} (account : X → Account) (p : Result (Option Side) PlayFault) (r : Result Stop PlayFault) (start : Pos) (seats : ℕ) (before middle now : Sides X) (game game' game'' : GameState) → p ≡ Ok None →
    Passes account p start seats before middle game game' → PlaysOn account r start seats middle now game' game'' → PlaysOn account r start seats before now game game''
goes_on account p r start seats before middle now game game' game'' e passes plays asks entry u seats_is =
    plays asks entry (subst (λ (x : Result (Option Side) PlayFault). AfterPass account x start asks entry middle game') e (passes asks entry u seats_is)) seats_is

pub passes_then : {X : Type 0} (account : X → Account) (p : Result (Option Side) PlayFault) (start : Pos) (seats : ℕ) (before middle now : Sides X) (game game' game'' : GameState) → p ≡ Ok None →
    Passes account (Ok None) start seats before middle game game' → Passes account p start seats middle now game' game'' → Passes account (Ok None) start seats before now game game''
passes_then account p start seats before middle now game game' game'' e first second asks entry u seats_is =
    subst (λ (x : Result (Option Side) PlayFault). AfterPass account x start asks entry now game'') e (second asks entry (first asks entry u seats_is) seats_is)

pub passes_as : {X : Type 0} (account : X → Account) (p q : Result (Option Side) PlayFault) (start : Pos) (seats : ℕ) (before now : Sides X) (game game' : GameState) → p ≡ q →
    Passes account p start seats before now game game' → Passes account q start seats before now game game'
passes_as account p q start seats before now game game' e h = subst (λ (x : Result (Option Side) PlayFault). Passes account x start seats before now game game') e h

not_true : (b r : Bool) → r ≡ not b → r ≡ true → b ≡ false
not_true true r e h = absurd (cc)
not_true false r e h = refl

not_false : (b r : Bool) → r ≡ not b → r ≡ false → b ≡ true
not_false true r e h = refl
not_false false r e h = absurd (cc)

pub ended : (p q : Pos) (r : Bool) → r ≡ not (is_ended p) → p ≡ q → r ≡ false → is_ended q ≡ true
ended p q r e h f = ap is_ended (sym h) ∙ not_false (is_ended p) r e f

pub not_ended : (p q : Pos) (r : Bool) → r ≡ not (is_ended p) → p ≡ q → r ≡ true → is_ended q ≡ false
not_ended p q r e h f = ap is_ended (sym h) ∙ not_true (is_ended p) r e f
