-- One more try of a game.
use Rattle.std.proofs.Common.{◌≡◌, ℕ, ◌+◌, ◌≤◌, List, [], ◌∷◌, ◌++◌, length, length-append, refl, sym, ap, ◌∙◌, subst, inr, arith, Result, Ok, Err, Option, None, option_to_list}
use Rattle.std.proofs.lemmas.List.Elements.{filter_map-append}
use Rattle.krieg_play.proofs.Common.{Pos, Side, White, Black, opening, Line, Opens, next, GameState, judge, judged, last, line_for, lines_for, Event, Judged, Account, Turns, Stays, Course, events_of, AreOnTurn, IsGameFrom, Sides, by_side, Courses, lines_of, turns_so_far, last_turns, LastAsk, Breaks, lines_to, seat_count, HasTried, AfterBoth, TellsBoth, Judges, PlayFault, next_turn}
use Rattle.krieg_play.proofs.Courses.{course_grows, both_counted}
use Rattle.krieg_play.proofs.HeardLines.{heard_is, lines_are}
use Rattle.krieg_play.proofs.Tellings.{lone}

-- ---- the judgement of one more try, and where it leads

pub judge_end : (p : Pos) (es : List Event) (e : Event) → judge p (es ++ e ∷ []) ≡ judge p es ++ judged (last p es) e ∷ []
judge_end p [] e = refl
judge_end p (x ∷ es) e = ap (λ (js : List Judged). judged p x ∷ js) (judge_end (next p x.who x.mv) es e)

pub last_end : (p : Pos) (es : List Event) (e : Event) → last p (es ++ e ∷ []) ≡ next (last p es) e.who e.mv
last_end p [] e = refl
last_end p (x ∷ es) e = last_end (next p x.who x.mv) es e

on_turn_end : (p : Pos) (es : List Event) (e : Event) → AreOnTurn p es → e.who ≡ (last p es).side → AreOnTurn p (es ++ e ∷ [])
on_turn_end p [] e h t = (t, tt)
on_turn_end p (x ∷ es) e h t = (h.0, on_turn_end (next p x.who x.mv) es e h.1 t)

pub events_end : (log : List Judged) (j : Judged) → events_of (log ++ j ∷ []) ≡ events_of log ++ j.event ∷ []
events_end [] j = refl
events_end (x ∷ log) j = ap (λ (es : List Event). x.event ∷ es) (events_end log j)

-- the game after a step
pub game_stepped : (start : Pos) (asks : ℕ) (game game' : GameState) (e : Event) → IsGameFrom start asks game → e.who ≡ game.position.side →
    game'.log ≡ game.log ++ judged game.position e ∷ [] → game'.position ≡ next game.position e.who e.mv → game'.spare + 1 ≡ game.spare →
    IsGameFrom start asks game'
game_stepped start asks game game' e h turn log_is position_is spare_is =
    let events_is : events_of game'.log ≡ events_of game.log ++ e ∷ [] = ap events_of log_is ∙ events_end game.log (judged game.position e) in
    record {
      log = log_is ∙ (ap (λ (js : List Judged). js ++ judged game.position e ∷ []) h.log
          ∙ (ap (λ (p : Pos). judge start (events_of game.log) ++ judged p e ∷ []) h.position ∙ (sym (judge_end start (events_of game.log) e) ∙ ap (judge start) (sym events_is))));
      position = position_is ∙ (ap (λ (p : Pos). next p e.who e.mv) h.position ∙ (sym (last_end start (events_of game.log) e) ∙ ap (last start) (sym events_is)));
      on_turn = subst (AreOnTurn start) (sym events_is) (on_turn_end start (events_of game.log) e h.on_turn (turn ∙ ap (λ (p : Pos). p.side) h.position));
      places = let l : length game'.log ≡ length game.log + 1 = ap length log_is ∙ length-append game.log (judged game.position e ∷ []) in omega (arith, l, h.places, spare_is);
    }

-- ---- what is told of it

lines_end : (start : Pos) (who : Side) (log : List Judged) (j : Judged) → lines_to start who log ++ option_to_list (line_for who j) ≡ lines_to start who (log ++ j ∷ [])
lines_end start who log j = ap (λ (ls : List Line). Opens (opening start) ∷ ls)
    (ap (λ (ls : List Line). lines_for who log ++ ls) (sym (lone who j)) ∙ sym (filter_map-append (line_for who) log (j ∷ [])))

pub news_of : (start : Pos) (asks : ℕ) (game game' : GameState) (j : Judged) (who : Side) → IsGameFrom start asks game → IsGameFrom start asks game' → game'.log ≡ game.log ++ j ∷ [] →
    lines_of start game who ++ option_to_list (line_for who j) ≡ lines_of start game' who
news_of start asks game game' j who g g' log_is =
    ap (λ (ls : List Line). ls ++ option_to_list (line_for who j)) (sym (heard_is start who game.log g.log))
    ∙ (lines_end start who game.log j ∙ (ap (lines_to start who) (sym log_is) ∙ heard_is start who game'.log g'.log))

-- a try was judged, and both sides were told what they hear of it, or not
pub record IsJudged {X : Type 0} (account : X → Account) (r : Result (Unit {0}) PlayFault) (start : Pos) (e : Event) (before now : Sides X) (game game' : GameState) : Type 0 where
  pub judgement : Judged
  pub is_judged : judgement ≡ judged game.position e
  pub log : game'.log ≡ game.log ++ judged game.position e ∷ []
  pub position : game'.position ≡ next game.position e.who e.mv
  pub spare : game'.spare + 1 ≡ game.spare
  pub no_more : seat_count now ≤ seat_count before
  pub tells : TellsBoth account r before now (λ who. lines_to start who game'.log) (by_side (option_to_list (line_for White judgement)) (option_to_list (line_for Black judgement)))

module _ {X : Type 0} {account : X → Account} {r : Result (Unit {0}) PlayFault} {start : Pos} {e : Event} {before now : Sides X} {game game' : GameState} (i : IsJudged account r start e before now game game') {asks : ℕ} {entry : Sides X}
    (h : HasTried account start asks entry before game e) where
  abbrev news : Side → List Line
  news who = option_to_list (line_for who i.judgement)

  more : game'.log ≡ game.log ++ i.judgement ∷ []
  more = i.log ∙ ap (λ (y : Judged). game.log ++ y ∷ []) (sym i.is_judged)

  events_are : events_of game'.log ≡ events_of game.log ++ e ∷ []
  events_are = ap events_of i.log ∙ events_end game.log (judged game.position e)

  stepped : IsGameFrom start asks game'
  stepped = game_stepped start asks game game' e h.is_game h.on_turn i.log i.position i.spare

  news_are : (who : Side) → lines_of start game who ++ news who ≡ lines_of start game' who
  news_are who = news_of start asks game game' i.judgement who h.is_game stepped more

  -- what both sides did since any state, once they were told
  told_since : (then : Sides X) (turns : Side → Turns) → Courses account None then before (lines_of start game) turns → AfterBoth account r (news Black) then before now (lines_of start game') turns
  told_since then turns c =
      subst (λ (lines : Side → List Line). TellsBoth account r before now lines (by_side (news White) (news Black))) (lines_are start asks game' stepped) i.tells then turns
      (subst (λ (ls : List Line). Course account Stays then.white before.white ls (news White) (turns White)) (news_are White) (course_grows (news White) c.white))
      (subst (λ (ls : List Line). Course account Stays then.black before.black ls (news Black) (turns Black)) (news_are Black) (course_grows (news Black) c.black))

  told_so_far : AfterBoth account r (news Black) entry before now (lines_of start game') (turns_so_far h.white_asks h.black_asks (events_of game'.log))
  told_so_far = subst (λ (es : List Event). AfterBoth account r (news Black) entry before now (lines_of start game') (turns_so_far h.white_asks h.black_asks es)) (sym events_are)
      (told_since entry (turns_so_far h.white_asks h.black_asks (events_of game.log ++ e ∷ [])) h.courses)

  told_then : AfterBoth account r (news Black) h.sides_then before now (lines_of start game') (last_turns game.position.side (lines_of start game) (e ∷ []))
  told_then = told_since h.sides_then (last_turns game.position.side (lines_of start game) (e ∷ [])) h.since

  -- the ask of which the try came
  abbrev ask_of_try : LastAsk account start asks entry game'
  ask_of_try = record { sides_then = h.sides_then; game_then = game; whole = h.whole; fewer = h.fewer; since = record { tried = e ∷ []; at_most_one = omega arith; events = events_are } }

pub is_judged : {X : Type 0} (account : X → Account) (r : Result (Unit {0}) PlayFault) (start : Pos) (e : Event) (before now : Sides X) (game game' : GameState) (j : Judged) (logged : List Judged) (w b : Option Line) →
    j ≡ judged game.position e → game'.log ≡ game.log ++ judged game.position e ∷ [] → game'.position ≡ next game.position e.who e.mv → game'.spare + 1 ≡ game.spare →
    logged ≡ game'.log → w ≡ line_for White j → b ≡ line_for Black j → seat_count now ≤ seat_count before →
    TellsBoth account r before now (λ who. lines_to start who logged) (by_side (option_to_list w) (option_to_list b)) →
    IsJudged account r start e before now game game'
is_judged account r start e before now game game' j logged w b j_is log_is position_is spare_is logged_is w_is b_is no_more tells = record {
  judgement = j;
  is_judged = j_is;
  log = log_is;
  position = position_is;
  spare = spare_is;
  no_more = no_more;
  tells = subst (λ (ls : List Judged). TellsBoth account r before now (λ who. lines_to start who ls) (by_side (option_to_list (line_for White j)) (option_to_list (line_for Black j)))) logged_is
      (subst (λ (o : Option Line). TellsBoth account r before now (λ who. lines_to start who logged) (by_side (option_to_list o) (option_to_list (line_for Black j)))) w_is
      (subst (λ (o : Option Line). TellsBoth account r before now (λ who. lines_to start who logged) (by_side (option_to_list w) (option_to_list o))) b_is tells));
}

judges_ok : {X : Type 0} (account : X → Account) (r : Result (Unit {0}) PlayFault) (start : Pos) (e : Event) (before now : Sides X) (game game' : GameState) → r ≡ Ok tt →
    IsJudged account r start e before now game game' → Judges account (Ok None) start e before now game game'
judges_ok {X} account r start e before now game game' r_is i asks entry h =
    let came = λ (then : Sides X) (turns : Side → Turns) (x : Result (Unit {0}) PlayFault). AfterBoth account x (news i h Black) then before now (lines_of start game') turns in
    let told : Courses account None entry now (lines_of start game') (turns_so_far h.white_asks h.black_asks (events_of game'.log)) = subst (came entry _) r_is (told_so_far i h) in
    record {
      whole = record {
        is_game = stepped i h;
        white_asks = h.white_asks;
        black_asks = h.black_asks;
        courses = told;
        asked = (h.asked.0, omega (arith, h.asked.1, (stepped i h).places, h.is_game.places, i.spare, i.no_more, both_counted h.courses.white h.courses.black, both_counted told.white told.black));
      };
      in_time = inr (ask_of_try i h, subst (came h.sides_then _) r_is (told_then i h));
    }

judges_err : {X : Type 0} (account : X → Account) (r : Result (Unit {0}) PlayFault) (fault : PlayFault) (start : Pos) (e : Event) (before now : Sides X) (game game' : GameState) → r ≡ Err fault →
    IsJudged account r start e before now game game' → Judges account (Err fault) start e before now game game'
judges_err {X} account r fault start e before now game game' r_is i asks entry h =
    let came = λ (then : Sides X) (turns : Side → Turns) (x : Result (Unit {0}) PlayFault). AfterBoth account x (news i h Black) then before now (lines_of start game') turns in
    let told : Breaks account fault (news i h Black) entry now (lines_of start game') (turns_so_far h.white_asks h.black_asks (events_of game'.log)) = (subst (came entry _) r_is (told_so_far i h)).0 in
    record {
      game = game';
      is_game = stepped i h;
      white_asks = h.white_asks;
      black_asks = h.black_asks;
      news = news i h Black;
      breaks = told;
      asked = (h.asked.0, omega (arith, h.asked.1, (stepped i h).places, h.is_game.places, i.spare, i.no_more, both_counted h.courses.white h.courses.black, both_counted told.white.1 told.black.1));
      at_once = inr (ask_of_try i h, news_are i h Black, (subst (came h.sides_then _) r_is (told_then i h)).0);
    }

-- the turn after it
pub judges : {X : Type 0} (account : X → Account) (r : Result (Unit {0}) PlayFault) (start : Pos) (e : Event) (before now : Sides X) (game game' : GameState) →
    IsJudged account r start e before now game game' → Judges account (next_turn r) start e before now game game'
judges account (Ok _) start e before now game game' i = judges_ok account (Ok tt) start e before now game game' refl i
judges account (Err fault) start e before now game game' i = judges_err account (Err fault) fault start e before now game game' refl i
