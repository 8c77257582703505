-- One pass of a game: a side was asked, and its try judged.
use Rattle.std.proofs.Common.{◌≡◌, ℕ, ◌+◌, ◌-◌, ◌<◌, ◌≤◌, arith, List, [], ◌∷◌, ◌++◌, length, refl, sym, ap, ◌∙◌, subst, inr, Result, Ok, Err, Option, Some, None}
use Rattle.std.specs.List.{cons_option}
use Rattle.std.proofs.lemmas.List.{append-nil}
use Rattle.std.proofs.lemmas.List.Elements.{filter_map-append}
use Rattle.krieg_play.proofs.Common.{Pos, Side, White, Black, Move, Line, GameState, Event, Account, SeatFault, Failed, Team, Turns, turns_since, turns_of, Stays, Course, events_of, tries_of, try_of, Sides, seats_of, relieved, all_relieved, used_up, IsAskedWithin, last_ask, Courses, lines_of, turns_so_far, last_turns, IsWhole, LastAsk, IsUnderway, Breaks, IsBroken, lines_to, AfterTurn, seat_count, HasTried, AfterAsk, AsksOne, Passes, Judges, fault_of, PlayFault, AskOutcome, Tried, Relieved}
use Rattle.krieg_play.specs.declared.ask_outcome.AskOutcome.TheVariants.{Left}
use Rattle.krieg_play.proofs.Courses.{course_starts, course_counts, both_counted, seated}
use Rattle.krieg_play.proofs.BothSides.{white_breaks, black_breaks}
use Rattle.krieg_play.proofs.HeardLines.{lines_are}

tries_end : (who : Side) (es : List Event) (e : Event) → tries_of who (es ++ e ∷ []) ≡ tries_of who es ++ cons_option (try_of who e) []
tries_end who es e = filter_map-append (try_of who) es (e ∷ [])

none_end : (who : Side) (es : List Event) (e : Event) → try_of who e ≡ None → tries_of who es ≡ tries_of who (es ++ e ∷ [])
none_end who es e h = sym (append-nil (tries_of who es)) ∙ (ap (λ (o : Option Move). tries_of who es ++ cons_option o []) (sym h) ∙ sym (tries_end who es e))

abbrev event : Side → Move → Event
event who m = record { who = who; mv = m }

-- ---- how often the seats were asked

turn_counts : {X : Type 0} (account : X → Account) (r : Result AskOutcome SeatFault) (entry now : Team X) (lines : List Line) (turns : Turns) →
    AfterTurn account r entry now lines turns → length entry.seats ≡ relieved entry now + length now.seats
turn_counts account (Ok (Tried m)) entry now lines turns h = course_counts h
turn_counts account (Ok Relieved) entry now lines turns h = course_counts h
turn_counts account (Ok Left) entry now lines turns h = course_counts h
turn_counts account (Err fault) entry now lines turns h = course_counts h.1

ask_counts : {X : Type 0} (account : X → Account) (who : Side) (r : Result AskOutcome SeatFault) (entry now : Sides X) (lines : Side → List Line) (turns : Side → Turns) →
    AfterAsk account who r entry now lines turns → seat_count entry ≡ all_relieved entry now + seat_count now
ask_counts account White r entry now lines turns h = omega (arith, turn_counts account r entry.white now.white _ _ h.0, course_counts h.1)
ask_counts account Black r entry now lines turns h = omega (arith, turn_counts account r entry.black now.black _ _ h.0, course_counts h.1)

-- ---- what came of it

-- what both sides did since the state in which they are: nothing
courses_rest : {X : Type 0} (account : X → Account) (now : Sides X) (lines : Side → List Line) → 0 < length now.white.seats → 0 < length now.black.seats →
    Courses account None now now lines (λ who. turns_since (lines who) 0 [])
courses_rest account now lines white black = record { white = rests now.white (lines White) white; black = rests now.black (lines Black) black }
  where
    rests : (t : Team _) (ls : List Line) → 0 < length t.seats → Course account Stays t t ls [] (turns_since ls 0 [])
    rests t ls some = subst (λ (x : List Line). Course account Stays t t x [] (turns_since ls 0 [])) (append-nil ls) (course_starts account t.seats t.out ls [] some)

module _ {X : Type 0} (account : X → Account) (start : Pos) (asks : ℕ) (entry before now : Sides X) (game : GameState) (u : IsWhole account None start asks entry before game) (fewer : used_up entry before game < asks) where
  abbrev w : ℕ
  w = u.white_asks

  abbrev b : ℕ
  b = u.black_asks

  -- what asking makes of both sides, since the call began, and since this state
  abbrev After : Side → Result AskOutcome SeatFault → Type 0
  After who r = AfterAsk account who r entry now (lines_of start game) (turns_so_far w b (events_of game.log))

  abbrev Since : Side → Result AskOutcome SeatFault → Type 0
  Since who r = AfterAsk account who r before now (lines_of start game) (λ who. turns_since (lines_of start game who) 0 [])

  tried : (who : Side) (m : Move) → who ≡ game.position.side → IsAskedWithin asks (used_up entry now game) 1 (w + b + 1) → After who (Ok (Tried m)) → Since who (Ok (Tried m)) →
      HasTried account start asks entry now game (event who m)
  tried White m turn asked h k = record {
    is_game = u.is_game;
    on_turn = turn;
    white_asks = w + 1;
    black_asks = b;
    courses = record {
      white = subst (λ (ms : List Move). Course account Stays entry.white now.white (lines_of start game White) [] (turns_of (w + 1) ms)) (sym (tries_end White (events_of game.log) (event White m))) h.0;
      black = subst (λ (ms : List Move). Course account Stays entry.black now.black (lines_of start game Black) [] (turns_of b ms)) (none_end Black (events_of game.log) (event White m) refl) h.1;
    };
    asked = (omega (arith, asked.0), omega (arith, asked.1));
    sides_then = before;
    whole = u;
    fewer = fewer;
    since = subst (λ (s : Side). Courses account None before now (lines_of start game) (last_turns s (lines_of start game) (event White m ∷ []))) turn (record { white = k.0; black = k.1 });
  }
  tried Black m turn asked h k = record {
    is_game = u.is_game;
    on_turn = turn;
    white_asks = w;
    black_asks = b + 1;
    courses = record {
      white = subst (λ (ms : List Move). Course account Stays entry.white now.white (lines_of start game White) [] (turns_of w ms)) (none_end White (events_of game.log) (event Black m) refl) h.1;
      black = subst (λ (ms : List Move). Course account Stays entry.black now.black (lines_of start game Black) [] (turns_of (b + 1) ms)) (sym (tries_end Black (events_of game.log) (event Black m))) h.0;
    };
    asked = (omega (arith, asked.0), omega (arith, asked.1));
    sides_then = before;
    whole = u;
    fewer = fewer;
    since = subst (λ (s : Side). Courses account None before now (lines_of start game) (last_turns s (lines_of start game) (event Black m ∷ []))) turn (record { white = k.1; black = k.0 });
  }

  -- an ask of which no try came
  abbrev in_vain : LastAsk account start asks entry game
  in_vain = record { sides_then = before; game_then = game; whole = u; fewer = fewer; since = record { tried = []; at_most_one = omega arith; events = sym (append-nil (events_of game.log)) } }

  -- the same where both sides have heard all of their lines
  goes_on : (left : Option Side) (white_asks black_asks : ℕ) (who : Side) → who ≡ game.position.side → IsAskedWithin asks (used_up entry now game) (last_ask left) (white_asks + black_asks) →
      Courses account left entry now (lines_of start game) (turns_so_far white_asks black_asks (events_of game.log)) →
      Courses account left before now (lines_of start game) (last_turns who (lines_of start game) []) → IsUnderway account left start asks entry now game
  goes_on left white_asks black_asks who turn asked c since = record {
    whole = record { is_game = u.is_game; white_asks = white_asks; black_asks = black_asks; courses = c; asked = asked };
    in_time = inr (in_vain, subst (λ (s : Side). Courses account left before now (lines_of start game) (last_turns s (lines_of start game) [])) turn since);
  }

  relieved_at : (who : Side) → who ≡ game.position.side → IsAskedWithin asks (used_up entry now game) 0 (w + b + 1) → After who (Ok Relieved) → Since who (Ok Relieved) →
      IsUnderway account None start asks entry now game
  relieved_at White turn asked h k = goes_on None (w + 1) b White turn (omega (arith, asked.0), omega (arith, asked.1)) (record { white = h.0; black = h.1 }) (record { white = k.0; black = k.1 })
  relieved_at Black turn asked h k = goes_on None w (b + 1) Black turn (omega (arith, asked.0), omega (arith, asked.1)) (record { white = h.1; black = h.0 }) (record { white = k.1; black = k.0 })

  left_at : (who : Side) → who ≡ game.position.side → IsAskedWithin asks (used_up entry now game) 1 (w + b + 1) → After who (Ok Left) → Since who (Ok Left) →
      IsUnderway account (Some who) start asks entry now game
  left_at White turn asked h k = goes_on (Some White) (w + 1) b White turn (omega (arith, asked.0), omega (arith, asked.1)) (record { white = h.0; black = h.1 }) (record { white = k.0; black = k.1 })
  left_at Black turn asked h k = goes_on (Some Black) w (b + 1) Black turn (omega (arith, asked.0), omega (arith, asked.1)) (record { white = h.1; black = h.0 }) (record { white = k.1; black = k.0 })

  -- the same where a fault was met
  stops_at : (fault : PlayFault) (white_asks black_asks : ℕ) (who : Side) → who ≡ game.position.side → IsAskedWithin asks (used_up entry now game) 1 (white_asks + black_asks) →
      Breaks account fault [] entry now (lines_of start game) (turns_so_far white_asks black_asks (events_of game.log)) →
      Breaks account fault [] before now (lines_of start game) (last_turns who (lines_of start game) []) → IsBroken account start asks entry now fault
  stops_at fault white_asks black_asks who turn asked h since = record {
    game = game;
    is_game = u.is_game;
    white_asks = white_asks;
    black_asks = black_asks;
    news = [];
    breaks = h;
    asked = asked;
    at_once = inr (in_vain, append-nil (lines_of start game Black), subst (λ (s : Side). Breaks account fault [] before now (lines_of start game) (last_turns s (lines_of start game) [])) turn since);
  }

  breaks_at : (who : Side) (fault : SeatFault) → who ≡ game.position.side → IsAskedWithin asks (used_up entry now game) 1 (w + b + 1) → After who (Err fault) → Since who (Err fault) →
      (fault ≡ Failed → length (seats_of who now) ≡ 1) → IsBroken account start asks entry now (fault_of fault who)
  breaks_at White fault turn asked h k only =
      stops_at (fault_of fault White) (w + 1) b White turn (omega (arith, asked.0), omega (arith, asked.1))
      (white_breaks account fault entry now (lines_of start game) (turns_so_far (w + 1) b (events_of game.log)) [] h.0 only h.1)
      (white_breaks account fault before now (lines_of start game) (last_turns White (lines_of start game) []) [] k.0 only k.1)
  breaks_at Black fault turn asked h k only =
      stops_at (fault_of fault Black) w (b + 1) Black turn (omega (arith, asked.0), omega (arith, asked.1))
      (black_breaks account fault entry now (lines_of start game) (turns_so_far w (b + 1) (events_of game.log)) [] h.0 only h.1)
      (black_breaks account fault before now (lines_of start game) (last_turns Black (lines_of start game) []) [] k.0 only k.1)

-- ---- a pass, in which the side to move was asked

-- what one more ask made of a game under way, since the call began, and since the state before
record WasAsked {X : Type 0} (account : X → Account) (who : Side) (r : Result AskOutcome SeatFault) (start : Pos) (asks : ℕ) (entry before now : Sides X) (game : GameState) : Type 0 where
  whole : IsWhole account None start asks entry before game
  fewer : used_up entry before game < asks
  so_far : After account start asks entry before now game whole fewer who r
  since : Since account start asks entry before now game whole fewer who r
  asked : IsAskedWithin asks (used_up entry now game) 1 (whole.white_asks + whole.black_asks + 1)
  counted : seat_count entry ≡ all_relieved entry now + seat_count now

module _ {X : Type 0} (account : X → Account) (who : Side) (r : Result AskOutcome SeatFault) (start : Pos) (seats : ℕ) (before middle : Sides X) (game : GameState)
    (fewer : seats - seat_count before < game.spare) (no_more : seat_count middle ≤ seat_count before) (one : AsksOne account who r before middle (λ s. lines_to start s game.log)) where
  asked_so : (t : Result AskOutcome SeatFault) → r ≡ t → (asks : ℕ) (entry : Sides X) → IsUnderway account None start asks entry before game → seat_count entry ≡ seats →
      WasAsked account who t start asks entry before middle game
  asked_so t e asks entry v seats_is =
      let u = v.whole in
      let one = subst (λ (x : Result AskOutcome SeatFault). AsksOne account who x before middle (lines_of start game)) e
      (subst (λ (lines : Side → List Line). AsksOne account who r before middle lines) (lines_are start asks game u.is_game) one) in
      let after = one entry (turns_so_far u.white_asks u.black_asks (events_of game.log)) u.courses in
      let counted = ask_counts account who t entry middle _ _ after in
      let counted_then = both_counted u.courses.white u.courses.black in
      record {
        whole = u;
        fewer = omega (arith, u.is_game.places, seats_is, fewer, counted_then);
        so_far = after;
        since = one before _ (courses_rest account before (lines_of start game) (seated u.courses.white) (seated u.courses.black));
        asked = (omega (arith, u.asked.1, u.is_game.places, seats_is, fewer, counted_then), omega (arith, u.asked.1, no_more, counted, counted_then));
        counted = counted;
      }

  pub passes_tried : (s : Result (Option Side) PlayFault) (m : Move) (now : Sides X) (game' : GameState) → who ≡ game.position.side → r ≡ Ok (Tried m) →
      Judges account s start (event who m) middle now game game' → Passes account s start seats before now game game'
  passes_tried s m now game' turn e judges asks entry u seats_is =
      let a = asked_so (Ok (Tried m)) e asks entry u seats_is in
      judges asks entry (tried account start asks entry before middle game a.whole a.fewer who m turn a.asked a.so_far a.since)

  pub passes_relieved : seat_count middle < seat_count before → who ≡ game.position.side → r ≡ Ok Relieved → Passes account (Ok None) start seats before middle game game
  passes_relieved less turn e asks entry u seats_is =
      let a = asked_so (Ok Relieved) e asks entry u seats_is in
      let within : IsAskedWithin asks (used_up entry middle game) 0 (a.whole.white_asks + a.whole.black_asks + 1) =
      (a.asked.0, omega (arith, a.whole.asked.1, less, both_counted a.whole.courses.white a.whole.courses.black, a.counted)) in
      relieved_at account start asks entry before middle game a.whole a.fewer who turn within a.so_far a.since

  pub passes_left : who ≡ game.position.side → r ≡ Ok Left → Passes account (Ok (Some who)) start seats before middle game game
  passes_left turn e asks entry u seats_is =
      let a = asked_so (Ok Left) e asks entry u seats_is in
      left_at account start asks entry before middle game a.whole a.fewer who turn a.asked a.so_far a.since

  pub passes_fault : (fault : SeatFault) (p : PlayFault) (game' : GameState) → p ≡ fault_of fault who → who ≡ game.position.side → r ≡ Err fault → (r ≡ Err Failed → length (seats_of who middle) ≡ 1) →
      Passes account (Err p) start seats before middle game game'
  passes_fault fault p game' p_is turn e only asks entry u seats_is =
      let a = asked_so (Err fault) e asks entry u seats_is in
      subst (λ (x : PlayFault). IsBroken account start asks entry middle x) (sym p_is)
      (breaks_at account start asks entry before middle game a.whole a.fewer who fault turn a.asked a.so_far a.since (λ failed. only (e ∙ ap Err failed)))
