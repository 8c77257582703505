-- What the calls of both sides make of any courses so far.
use Rattle.std.proofs.Common.{◌≡◌, ℕ, List, [], length, refl, sym, ap, ◌∙◌, subst, arith, inl, inr, Result, Ok, Err}
use Rattle.krieg_play.proofs.Common.{Side, White, Black, Line, Account, SeatFault, Failed, Team, Turns, Stays, MayBeShort, Course, BrokenCourse, Sides, AfterTelling, Tells, TakesTurn, seat_counts, Breaks, AfterBoth, TellsBoth, AfterAsk, AsksOne, fault_of, PlayFault, AskOutcome}
use Rattle.krieg_seats.specs.declared.seat.SeatFault.TheVariants.{NoMemory}
use Rattle.krieg_play.proofs.Courses.{course_weakens}

-- where counts stay, none fell
may_be_short : (v : ℕ) (a b : Account) → Stays v a b → MayBeShort v a b
may_be_short v a b h = (omega (arith, h.0), h.1, omega (arith, h.2))

pub short_course : {X : Type 0} {account : X → Account} {entry now : Team X} {lines due : List Line} {turns : Turns} →
    Course account Stays entry now lines due turns → Course account MayBeShort entry now lines due turns
short_course c = course_weakens may_be_short c

-- a call of one side met a fault, where the other side's course goes on
abbrev pub white_breaks : {X : Type 0} (account : X → Account) (fault : SeatFault) (entry now : Sides X) (lines : Side → List Line) (turns : Side → Turns) (news : List Line) →
    BrokenCourse account (seat_counts fault) entry.white now.white (lines White) (turns White) → (fault ≡ Failed → length now.white.seats ≡ 1) →
    Course account Stays entry.black now.black (lines Black) news (turns Black) → Breaks account (fault_of fault White) news entry now lines turns
white_breaks account Failed entry now lines turns news h only c = record { white = h; black = (news, c); told_first = refl; ends = only refl }
white_breaks account NoMemory entry now lines turns news h only c = record { white = h; black = (news, short_course c); told_first = inl refl; ends = tt }

abbrev pub black_breaks : {X : Type 0} (account : X → Account) (fault : SeatFault) (entry now : Sides X) (lines : Side → List Line) (turns : Side → Turns) (news : List Line) →
    BrokenCourse account (seat_counts fault) entry.black now.black (lines Black) (turns Black) → (fault ≡ Failed → length now.black.seats ≡ 1) →
    Course account Stays entry.white now.white (lines White) [] (turns White) → Breaks account (fault_of fault Black) news entry now lines turns
black_breaks account Failed entry now lines turns news h only c = record { white = ([], c); black = h; told_first = refl; ends = only refl }
black_breaks account NoMemory entry now lines turns news h only c = record { white = ([], short_course c); black = h; told_first = inr refl; ends = tt }

-- the same where both sides were told
white_fails : {X : Type 0} (account : X → Account) (fault : SeatFault) (entry before now : Sides X) (lines : Side → List Line) (turns : Side → Turns) (news : List Line) →
    BrokenCourse account (seat_counts fault) entry.white now.white (lines White) (turns White) → (fault ≡ Failed → length now.white.seats ≡ 1) →
    Course account Stays entry.black now.black (lines Black) news (turns Black) → now.black ≡ before.black → AfterBoth account (Err (fault_of fault White)) news entry before now lines turns
white_fails account Failed entry before now lines turns news h only c same = (white_breaks account Failed entry now lines turns news h only c, same)
white_fails account NoMemory entry before now lines turns news h only c same = (white_breaks account NoMemory entry now lines turns news h only c, inl same)

black_fails : {X : Type 0} (account : X → Account) (fault : SeatFault) (entry before now : Sides X) (lines : Side → List Line) (turns : Side → Turns) (news : List Line) →
    BrokenCourse account (seat_counts fault) entry.black now.black (lines Black) (turns Black) → (fault ≡ Failed → length now.black.seats ≡ 1) →
    Course account Stays entry.white now.white (lines White) [] (turns White) → AfterBoth account (Err (fault_of fault Black)) news entry before now lines turns
black_fails account Failed entry before now lines turns news h only c = (black_breaks account Failed entry now lines turns news h only c, tt)
black_fails account NoMemory entry before now lines turns news h only c = (black_breaks account NoMemory entry now lines turns news h only c, inr refl)

-- ---- telling both

told_as : {X : Type 0} (account : X → Account) (r s : Result (Unit {0}) SeatFault) (entry now : Team X) (lines : List Line) (turns : Turns) → r ≡ s → AfterTelling account r entry now lines turns → AfterTelling account s entry now lines turns
told_as account r s entry now lines turns e h = subst (λ (x : Result (Unit {0}) SeatFault). AfterTelling account x entry now lines turns) e h

-- White could not be told
pub white_untold : {X : Type 0} (account : X → Account) (r : Result (Unit {0}) SeatFault) (fault : SeatFault) (p : PlayFault) (before now : Sides X) (lines due : Side → List Line) →
    p ≡ fault_of fault White → r ≡ Err fault → Tells account r before.white now.white (lines White) (due White) → (r ≡ Err Failed → length now.white.seats ≡ 1) → now.black ≡ before.black →
    TellsBoth account (Err p) before now lines due
white_untold account r fault p before now lines due p_is e tells only same entry turns white black =
    subst (λ (x : PlayFault). AfterBoth account (Err x) (due Black) entry before now lines turns) (sym p_is) (white_fails account fault entry before now lines turns (due Black)
    (told_as account r (Err fault) entry.white now.white (lines White) (turns White) e (tells entry.white (turns White) white))
    (λ failed. only (e ∙ ap Err failed))
    (subst (λ (t : Team _). Course account Stays entry.black t (lines Black) (due Black) (turns Black)) (sym same) black) same)

-- White was told, and Black could not be
pub black_untold : {X : Type 0} (account : X → Account) (r s : Result (Unit {0}) SeatFault) (fault : SeatFault) (p : PlayFault) (before now : Sides X) (lines due : Side → List Line) →
    p ≡ fault_of fault Black → r ≡ Ok tt → Tells account r before.white now.white (lines White) (due White) →
    s ≡ Err fault → Tells account s before.black now.black (lines Black) (due Black) → (s ≡ Err Failed → length now.black.seats ≡ 1) →
    TellsBoth account (Err p) before now lines due
black_untold account r s fault p before now lines due p_is ok told e tells only entry turns white black =
    subst (λ (x : PlayFault). AfterBoth account (Err x) (due Black) entry before now lines turns) (sym p_is) (black_fails account fault entry before now lines turns (due Black)
    (told_as account s (Err fault) entry.black now.black (lines Black) (turns Black) e (tells entry.black (turns Black) black))
    (λ failed. only (e ∙ ap Err failed))
    (told_as account r (Ok tt) entry.white now.white (lines White) (turns White) ok (told entry.white (turns White) white)))

pub both_told : {X : Type 0} (account : X → Account) (r s : Result (Unit {0}) SeatFault) (before now : Sides X) (lines due : Side → List Line) →
    r ≡ Ok tt → Tells account r before.white now.white (lines White) (due White) → s ≡ Ok tt → Tells account s before.black now.black (lines Black) (due Black) →
    TellsBoth account (Ok tt) before now lines due
both_told account r s before now lines due e told f tells entry turns white black = record {
  white = told_as account r (Ok tt) entry.white now.white (lines White) (turns White) e (told entry.white (turns White) white);
  black = told_as account s (Ok tt) entry.black now.black (lines Black) (turns Black) f (tells entry.black (turns Black) black);
}

-- ---- asking one

pub asks_white : {X : Type 0} (account : X → Account) (who : Side) (r : Result AskOutcome SeatFault) (before now : Sides X) (lines : Side → List Line) → who ≡ White →
    TakesTurn account r before.white now.white (lines White) → now.black ≡ before.black → AsksOne account who r before now lines
asks_white {X} account who r before now lines who_is takes same entry turns c =
    subst (λ (s : Side). AfterAsk account s r entry now lines turns) (sym who_is)
    (takes entry.white (turns White) c.white, subst (λ (t : Team X). Course account Stays entry.black t (lines Black) [] (turns Black)) (sym same) c.black)

pub asks_black : {X : Type 0} (account : X → Account) (who : Side) (r : Result AskOutcome SeatFault) (before now : Sides X) (lines : Side → List Line) → who ≡ Black →
    TakesTurn account r before.black now.black (lines Black) → now.white ≡ before.white → AsksOne account who r before now lines
asks_black {X} account who r before now lines who_is takes same entry turns c =
    subst (λ (s : Side). AfterAsk account s r entry now lines turns) (sym who_is)
    (takes entry.black (turns Black) c.black, subst (λ (t : Team X). Course account Stays entry.white t (lines White) [] (turns White)) (sym same) c.white)
