-- What judging a try, and telling both what they hear of it, make of a game that a plan leads.
use Rattle.std.proofs.Common.{◌≡◌, ℕ, ◌+◌, List, [], ◌∷◌, ◌++◌, length, map, refl, sym, ap, subst, ◌∙◌, inr, arith, Result, Ok, Err, Option, Some, None, option_to_list}
use Rattle.std.specs.Prelude.{option_map}
use Rattle.std.proofs.lemmas.List.{append-nil}
use Rattle.krieg_robot.proofs.Common.{other, Pos, Move, Side, White, Black, told_line, Dialect, Line, GameState, judged, heard, line_for, Event, Judged, Account, Serves, events_of, tries_of, IsGameFrom, once, IsStepped, due_in, Guidance, Follower, AreTried, lines_of, LastAsk, IsBroken, hearing, HearsPart, BothTold, IsUnderway, HasTried, AfterPass, next_pass, LeadFault}
use Rattle.krieg_play.proofs.Judging.{events_end, game_stepped}
use Rattle.krieg_play.proofs.Serving.{only_hears, serves_more}
use Rattle.krieg_robot.proofs.HeardMore.{heard_end}
use Rattle.krieg_robot.proofs.Breaking.{IsShort, breaks_by}

list_in : (d : Dialect) (o : Option Line) → option_to_list (option_map (told_line d) o) ≡ map (told_line d) (option_to_list o)
list_in d None = refl
list_in d (Some l) = refl

-- a side that tried was asked, and the other one was not
asked_by : (who side : Side) (m : Move) → length (tries_of side (record { who = who; mv = m } ∷ [])) + 0 ≡ once who side
asked_by White White m = refl
asked_by White Black m = refl
asked_by Black White m = refl
asked_by Black Black m = refl

-- he heard more lines
hears_more : {tries : List Move} {lines all : List Line} {v : ℕ} {first a b : Account} (more : List Line) → Serves tries lines v first a → lines ++ more ≡ all → b ≡ hearing a more → Serves tries all v first b
hears_more {tries = tries} {lines = lines} {v = v} {first = first} {a = a} {b = b} more h all_is is =
    let same : v + 0 ≡ v = omega arith in
    subst (λ (ls : List Line). Serves tries ls v first b) all_is
    (subst (λ (n : ℕ). Serves tries (lines ++ more) n first b) same
    (subst (λ (ms : List Move). Serves ms (lines ++ more) (v + 0) first b) (append-nil tries)
    (serves_more tries [] lines more v 0 first a b h (only_hears a b more (ap (λ (x : Account). x.asks) is) (ap (λ (x : Account). x.said) is) (ap (λ (x : Account). x.heard) is)))))

-- what a side hears of a try, as lines
due_is : (d : Dialect) (j : Judged) (who : Side) → due_in d j who ≡ map (told_line d) (option_to_list (line_for who j))
due_is d j White = list_in d (line_for White j)
due_is d j Black = list_in d (line_for Black j)

-- what is told of a try to a side, in the dialect of the guide
abbrev pub due : Follower → GameState → Event → Side → List Line
due s game e = due_in s.guide.dialect (judged game.position e)

-- a try was judged, and both were told what they hear of it, or not
pub record IsJudged (r : Result (Unit {0}) LeadFault) (e : Event) (a a' : Account) (s s' : Follower) (game game' : GameState) : Type 0 where
  pub stepped : IsStepped e game game'
  pub tells : BothTold r s.guide.side s s' (due s game e s.guide.side) a a' (due s game e (other s.guide.side))

module _ {r : Result (Unit {0}) LeadFault} {e : Event} {a a' : Account} {s s' : Follower} {game game' : GameState} (j : IsJudged r e a a' s s' game game') {f : Guidance} {start : Pos} {asks : ℕ} {entry : Account} (h : HasTried f start asks entry a s game e) where
  events_is : events_of game'.log ≡ events_of game.log ++ e ∷ []
  events_is = ap events_of j.stepped.log ∙ events_end game.log (judged game.position e)

  -- what a side is told of it comes to the lines that are heard of the game
  heard_next : (who : Side) → heard f.dialect start (events_of game.log) who ++ due s game e who ≡ heard f.dialect start (events_of game'.log) who
  heard_next who =
      let es = events_of game.log in
      ap (λ (ls : List Line). heard f.dialect start es who ++ ls) (ap (λ (x : Guidance). due_in x.dialect (judged game.position e) who) h.guide_is ∙ due_is f.dialect (judged game.position e) who)
      ∙ (ap (λ (p : Pos). heard f.dialect start es who ++ map (told_line f.dialect) (option_to_list (line_for who (judged p e)))) h.is_game.position
      ∙ (sym (heard_end f.dialect start es who e) ∙ ap (λ (xs : List Event). heard f.dialect start xs who) (sym events_is)))

  abbrev own_due : List Line
  own_due = due s game e s.guide.side

  abbrev their_due : List Line
  their_due = due s game e (other s.guide.side)

  own_next : heard f.dialect start (events_of game.log) f.side ++ own_due ≡ heard f.dialect start (events_of game'.log) f.side
  own_next = ap (λ (x : Guidance). heard f.dialect start (events_of game.log) f.side ++ due s game e x.side) h.guide_is ∙ heard_next f.side

  theirs_next : lines_of f start game ++ their_due ≡ lines_of f start game'
  theirs_next = ap (λ (x : Guidance). lines_of f start game ++ due s game e (other x.side)) h.guide_is ∙ heard_next (other f.side)

  stepped : IsGameFrom start asks game'
  stepped = game_stepped start asks game game' e h.is_game h.on_turn j.stepped.log j.stepped.position j.stepped.spare

  tried : AreTried f start [] (events_of game'.log)
  tried = subst (AreTried f start []) (sym events_is) h.tried

  -- what the opponent said and heard before he was told
  so_far : Serves (tries_of (other f.side) (events_of game'.log)) (lines_of f start game) h.vain entry a
  so_far = subst (λ (es : List Event). Serves (tries_of (other f.side) es) (lines_of f start game) h.vain entry a) (sym events_is) h.serves

  told_ok : BothTold (Ok tt) s.guide.side s s' own_due a a' their_due → IsUnderway f start asks entry a' s' game'
  told_ok t = record {
    whole = record {
      is_game = stepped;
      tried = tried;
      vain = h.vain;
      serves = hears_more their_due so_far theirs_next t.1;
      counts = (ap (λ (x : Account). x.faults) t.1 ∙ h.stays.0, ap (λ (x : Account). x.leaves) t.1 ∙ h.stays.1, h.stays.2);
    };
    guide_is = t.0.0 ∙ h.guide_is;
    follows = t.0.1 ∙ (ap (λ (ls : List Line). ls ++ own_due) h.follows ∙ own_next);
  }

  -- the ask of which the try came
  abbrev ask_of_try : LastAsk f start asks entry game'
  ask_of_try = record { account_then = h.account_then; game_then = game; whole = h.whole; fewer = h.fewer; since = record { tried = e ∷ []; at_most_one = omega arith; events = events_is } }

  asked_on_turn : length (tries_of (other f.side) (e ∷ [])) + 0 ≡ once game.position.side (other f.side)
  asked_on_turn = subst (λ (who : Side). length (tries_of (other f.side) (e ∷ [])) + 0 ≡ once who (other f.side)) h.on_turn (asked_by e.who (other f.side) e.mv)

  told_err : (fault : LeadFault) → HearsPart fault their_due a a' → IsBroken f start asks entry a' fault
  told_err fault p =
      let short : IsShort fault p.told p.due 0 a a' = record {
        serves = only_hears a a' p.told (ap (λ (x : Account). x.asks) p.now_is) (ap (λ (x : Account). x.said) p.now_is) (ap (λ (x : Account). x.heard) p.now_is);
        counts = p.counts;
        leaves = ap (λ (x : Account). x.leaves) p.now_is;
        few = omega arith;
      } in
      let split : lines_of f start game ++ (p.told ++ p.due) ≡ lines_of f start game' = ap (λ (ls : List Line). lines_of f start game ++ ls) p.split ∙ theirs_next in
      record {
        game = game';
        is_game = stepped;
        tried = tried;
        breaks = breaks_by (tries_of (other f.side) (events_of game'.log)) [] (lines_of f start game) (lines_of f start game') h.vain entry short so_far h.stays split;
        at_once = inr (ask_of_try, breaks_by (tries_of (other f.side) (e ∷ [])) (lines_of f start game) [] (lines_of f start game') 0 h.account_then short h.since h.stays_since split, asked_on_turn);
      }

-- what it comes to
pub after_try : (r : Result (Unit {0}) LeadFault) (e : Event) (a a' : Account) (s s' : Follower) (game game' : GameState) → IsJudged r e a a' s s' game game' →
    (f : Guidance) (start : Pos) (asks : ℕ) (entry : Account) → HasTried f start asks entry a s game e → AfterPass (next_pass r) f start asks entry a' s' game'
after_try (Ok _) e a a' s s' game game' j f start asks entry h = told_ok j h j.tells
after_try (Err fault) e a a' s s' game game' j f start asks entry h = told_err j h fault j.tells.0
