-- How a game begins: both sides are told the opening words.
use Rattle.std.proofs.Common.{◌≡◌, ℕ, ◌+◌, ◌<◌, List, [], ◌∷◌, length, refl, sym, ap, ◌∙◌, subst, inl, arith, Result, Ok, Err, Some, None, option_to_list}
use Rattle.krieg_play.proofs.Common.{Pos, opening, Line, Opens, Side, White, Black, GameState, Judged, Stop, Account, team, IsGameFrom, Sides, sides, by_side, Courses, lines_of, turns_so_far, IsUnderway, IsPlayed, IsBroken, Refuses, lines_to, AfterBoth, TellsBoth, PlaysOn, ComesTo, PlayFault, Vacant, Seat}
use Rattle.krieg_play.specs.declared.outcome.PlayFault.TheVariants.{NoMemory}
use Rattle.krieg_play.proofs.BothSides.{short_course}
use Rattle.krieg_play.proofs.Courses.{course_starts}

-- the game with which it begins
abbrev pub fresh_game : Pos → ℕ → GameState
fresh_game start asks = record { position = start; log = []; spare = asks }

pub fresh_by : (start : Pos) (game : GameState) → game.position ≡ start → game.log ≡ [] → game ≡ fresh_game start game.spare
fresh_by start game e f =
    ap (λ (p : Pos). record { position = p; log = game.log; spare = game.spare }) e ∙ ap (λ (log : List Judged). record { position = start; log = log; spare = game.spare }) f

is_fresh : (start : Pos) (asks : ℕ) → IsGameFrom start asks (fresh_game start asks)
is_fresh start asks = record { log = refl; position = refl; on_turn = tt; places = omega arith }

abbrev first_lines : Pos → ℕ → Side → List Line
first_lines start asks who = lines_of start (fresh_game start asks) who

-- what telling the opening words makes of both sides
opened : {X : Type 0} (account : X → Account) (r : Result (Unit {0}) PlayFault) (start : Pos) (asks : ℕ) (before now : Sides X) (logged : List Judged) (w b : Line) →
    logged ≡ [] → w ≡ Opens (opening start) → b ≡ Opens (opening start) → 0 < length before.white.seats → 0 < length before.black.seats →
    TellsBoth account r before now (λ who. lines_to start who logged) (by_side (option_to_list (Some w)) (option_to_list (Some b))) →
    AfterBoth account r (first_lines start asks Black) before before now (first_lines start asks) (turns_so_far 0 0 [])
opened account r start asks before now logged w b logged_is w_is b_is white black tells =
    let told = subst (λ (ls : List Judged). TellsBoth account r before now (λ who. lines_to start who ls) (by_side (Opens (opening start) ∷ []) (Opens (opening start) ∷ []))) logged_is
    (subst (λ (l : Line). TellsBoth account r before now (λ who. lines_to start who logged) (by_side (l ∷ []) (Opens (opening start) ∷ []))) w_is
    (subst (λ (l : Line). TellsBoth account r before now (λ who. lines_to start who logged) (by_side (w ∷ []) (l ∷ []))) b_is tells)) in
    told before (turns_so_far 0 0 [])
    (course_starts account before.white.seats before.white.out [] (Opens (opening start) ∷ []) white)
    (course_starts account before.black.seats before.black.out [] (Opens (opening start) ∷ []) black)

-- the opening words were told, and the game was played on
pub opens_and_plays : {X : Type 0} (account : X → Account) (r : Result (Unit {0}) PlayFault) (s : Result Stop PlayFault) (start : Pos) (asks seats : ℕ) (before middle now : Sides X) (game game' : GameState) (logged : List Judged) (w b : Line) →
    game ≡ fresh_game start asks → logged ≡ [] → w ≡ Opens (opening start) → b ≡ Opens (opening start) → 0 < length before.white.seats → 0 < length before.black.seats →
    seats ≡ length before.white.seats + length before.black.seats → r ≡ Ok tt →
    TellsBoth account r before middle (λ who. lines_to start who logged) (by_side (option_to_list (Some w)) (option_to_list (Some b))) →
    PlaysOn account s start seats middle now game game' → ComesTo account s start asks before now game'
opens_and_plays account r s start asks seats before middle now game game' logged w b game_is logged_is w_is b_is white black seats_is ok tells plays =
    let told : Courses account None before middle (first_lines start asks) (turns_so_far 0 0 []) =
    subst (λ (x : Result (Unit {0}) PlayFault). AfterBoth account x (first_lines start asks Black) before before middle (first_lines start asks) (turns_so_far 0 0 [])) ok
    (opened account r start asks before middle logged w b logged_is w_is b_is white black tells) in
    let under : IsUnderway account None start asks before middle (fresh_game start asks) =
    record { whole = record { is_game = is_fresh start asks; white_asks = 0; black_asks = 0; courses = told; asked = (omega arith, omega arith) }; in_time = inl refl } in
    plays asks before (subst (λ (x : GameState). IsUnderway account None start asks before middle x) (sym game_is) under) (sym seats_is)

-- no seat was asked
unasked : {X : Type 0} (account : X → Account) (fault : PlayFault) (start : Pos) (asks : ℕ) (before now : Sides X) →
    AfterBoth account (Err fault) (first_lines start asks Black) before before now (first_lines start asks) (turns_so_far 0 0 []) → IsBroken account start asks before now fault
unasked account fault start asks before now h = record {
  game = fresh_game start asks;
  is_game = is_fresh start asks;
  white_asks = 0;
  black_asks = 0;
  news = first_lines start asks Black;
  breaks = h.0;
  asked = (omega arith, omega arith);
  at_once = inl (refl, refl, h.1);
}

-- the opening words could not be told to both
pub opens_not : {X : Type 0} (account : X → Account) (r : Result (Unit {0}) PlayFault) (fault : PlayFault) (start : Pos) (asks : ℕ) (before now : Sides X) (logged : List Judged) (w b : Line) →
    logged ≡ [] → w ≡ Opens (opening start) → b ≡ Opens (opening start) → 0 < length before.white.seats → 0 < length before.black.seats → r ≡ Err fault →
    TellsBoth account r before now (λ who. lines_to start who logged) (by_side (option_to_list (Some w)) (option_to_list (Some b))) → IsBroken account start asks before now fault
opens_not account r fault start asks before now logged w b logged_is w_is b_is white black e tells =
    unasked account fault start asks before now
    (subst (λ (x : Result (Unit {0}) PlayFault). AfterBoth account x (first_lines start asks Black) before before now (first_lines start asks) (turns_so_far 0 0 [])) e
    (opened account r start asks before now logged w b logged_is w_is b_is white black tells))

-- no seat was called
pub unbegun : {X : Type 0} (account : X → Account) (start : Pos) (asks : ℕ) (before now : Sides X) → now ≡ before → 0 < length before.white.seats → 0 < length before.black.seats → IsBroken account start asks before now NoMemory
unbegun account start asks before now same white black =
    subst (λ (x : Sides _). IsBroken account start asks before x NoMemory) (sym same)
    (unasked account NoMemory start asks before before (
      (record {
        white = (first_lines start asks White, short_course (course_starts account before.white.seats before.white.out [] (first_lines start asks White) white));
        black = (first_lines start asks Black, short_course (course_starts account before.black.seats before.black.out [] (first_lines start asks Black) black));
        told_first = inl refl;
        ends = tt;
      }),
      inl refl,
    ))

-- ---- the public call

pub sides_kept : {X : Type 0} (w wo b bo w' wo' b' bo' : List X) → w' ≡ w → wo' ≡ wo → b' ≡ b → bo' ≡ bo → sides (team w' wo') (team b' bo') ≡ sides (team w wo) (team b bo)
sides_kept w wo b bo w' wo' b' bo' e f h k = cc

pub played_by : {X : Type 0} (account : X → Account) (start : Pos) (asks spare : ℕ) (entry before now : Sides X) (game : GameState) (stop : Stop) → spare ≡ asks → before ≡ entry →
    IsPlayed account start spare before now game stop → IsPlayed account start asks entry now game stop
played_by account start asks spare entry before now game stop e f h =
    subst (λ (n : ℕ). IsPlayed account start n entry now game stop) e (subst (λ (x : Sides _). IsPlayed account start spare x now game stop) f h)

refuses : {X : Type 0} (account : X → Account) (start : Pos) (asks : ℕ) (entry now : Sides X) (fault : PlayFault) → IsBroken account start asks entry now fault → Refuses account start asks entry now fault
refuses account start asks entry now (Vacant who) h = absurd h.breaks.ends
refuses account start asks entry now (Seat who) h = h
refuses account start asks entry now NoMemory h = h

pub refused_by : {X : Type 0} (account : X → Account) (start : Pos) (asks spare : ℕ) (entry before now : Sides X) (fault : PlayFault) → spare ≡ asks → before ≡ entry →
    IsBroken account start spare before now fault → Refuses account start asks entry now fault
refused_by account start asks spare entry before now fault e f h =
    refuses account start asks entry now fault
    (subst (λ (n : ℕ). IsBroken account start n entry now fault) e (subst (λ (x : Sides _). IsBroken account start spare x now fault) f h))
