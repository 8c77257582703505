-- What asking the side to move makes of a game that a plan leads.
use Rattle.std.proofs.Common.{◌≡◌, ℕ, ◌+◌, ◌<◌, ◌≤◌, Bool, true, false, cond, List, [], ◌∷◌, ◌++◌, length, refl, sym, ap, subst, ◌∙◌, append_assoc, inr, arith, Ok, Err, Option, Some, None}
use Rattle.std.specs.List.{cons_option}
use Rattle.std.proofs.lemmas.Bool.{both_ways}
use Rattle.std.proofs.lemmas.List.{append-nil}
use Rattle.std.proofs.lemmas.List.Elements.{filter_map-append}
use Rattle.krieg_robot.proofs.Common.{Rose, one_more, other, is_same_side, Pos, Side, White, Black, Move, GameState, Event, Line, Account, once_asked, events_of, tries_of, try_of, played_counts, once, Serves, HasLeft, Guidance, next_try, Follower, follow_guide, stand_of, said_so, stand_after, IsTried, AreTried, lines_of, LastAsk, IsBroken, TurnAsked, fault_counts, lead_fault, IsUnderway, HasTried, IsLeft, LeadFault, Seat, NoMemory}
use Rattle.krieg_board.proofs.MenLemmas.{same_side_eq, same_side_self, same_side_other}
use Rattle.krieg_seats.specs.declared.seat.SeatFault.{SeatFault}
use Rattle.krieg_seats.specs.declared.seat.SeatFault.TheVariants.{Failed}
use Rattle.krieg_seats.specs.declared.seat.SeatFault.TheVariants as fault
use Rattle.krieg_play.specs.Passes.{fault_of}
use Rattle.krieg_play.specs.declared.ask_outcome.AskOutcome.TheVariants.{Tried}
use Rattle.krieg_play.specs.declared.ask_outcome.AskOutcome.TheVariants as turned
use Rattle.krieg_play.specs.Teams.{Stays}
use Rattle.krieg_play.proofs.Serving.{serves_none, tries_move, asked_in_vain, serves_more}
use Rattle.krieg_robot.proofs.Moving.{is_other}
use Rattle.krieg_robot.proofs.Breaking.{IsShort, breaks_by}

-- ---- tries

tried_more : (f : Guidance) (start : Pos) (before es : List Event) (e : Event) → AreTried f start before es → IsTried f start (before ++ es) e → AreTried f start before (es ++ e ∷ [])
tried_more f start before [] e h t = (subst (λ (xs : List Event). IsTried f start xs e) (append-nil before) t, tt)
tried_more f start before (x ∷ es) e h t =
    (h.0, tried_more f start (before ++ x ∷ []) es e h.1 (subst (λ (xs : List Event). IsTried f start xs e) (sym (append_assoc before (x ∷ []) es)) t))

tries_end : (who : Side) (es : List Event) (e : Event) → tries_of who (es ++ e ∷ []) ≡ tries_of who es ++ cons_option (try_of who e) []
tries_end who es e = filter_map-append (try_of who) es (e ∷ [])

tries_same : (who : Side) (es : List Event) (e : Event) → is_same_side e.who who ≡ false → tries_of who es ≡ tries_of who (es ++ e ∷ [])
tries_same who es e h =
    sym (append-nil (tries_of who es)) ∙ (ap (λ (b : Bool). tries_of who es ++ cons_option (cond b (Some e.mv) None) []) (sym h) ∙ sym (tries_end who es e))

tries_more : (who : Side) (es : List Event) (e : Event) → is_same_side e.who who ≡ true → tries_of who es ++ e.mv ∷ [] ≡ tries_of who (es ++ e ∷ [])
tries_more who es e h = ap (λ (b : Bool). tries_of who es ++ cons_option (cond b (Some e.mv) None) []) (sym h) ∙ sym (tries_end who es e)

abbrev pub event : Side → Move → Event
event who m = record { who = who; mv = m }

-- ---- asking

heard_kept : (o : Option Move) (a : Account) → (said_so o a).heard ≡ a.heard
heard_kept None a = refl
heard_kept (Some m) a = refl

own_counts : (side : Side) (v : ℕ) (x y : Account) → Stays v x y → played_counts (Some side) (other side) v x y
own_counts White v x y h = h
own_counts Black v x y h = h

other_counts : (side : Side) (v : ℕ) (x y : Account) → HasLeft v x y → played_counts (Some side) side v x y
other_counts White v x y h = h
other_counts Black v x y h = h

counts_asked : (fault : LeadFault) (a a' : Account) → fault_counts fault (once_asked a) a' → fault_counts fault a a'
counts_asked Seat a a' h = h
counts_asked NoMemory a a' h = h

-- the opponent is asked once where it is his turn, and not at all otherwise
asked_none : (who side : Side) → is_same_side who side ≡ false → 0 ≡ once who side
asked_none who side h = ap (λ (b : Bool). cond b 1 0) (sym h)

asked_once : (who side : Side) → is_same_side who side ≡ true → 1 ≡ once who side
asked_once who side h = ap (λ (b : Bool). cond b 1 0) (sym h)

module _ {f : Guidance} {start : Pos} {asks : ℕ} {entry a : Account} {s : Follower} {game : GameState} (u : IsUnderway f start asks entry a s game) (more : 0 < game.spare) where
  -- the seat stands where its side's lines of the game lead
  stands : stand_of s ≡ stand_after f start (events_of game.log)
  stands = ap (λ (x : Guidance). follow_guide x s.account.heard) u.guide_is ∙ ap (follow_guide f) u.follows

  mine_is : (who : Side) (b : Bool) → b ≡ is_same_side who s.guide.side → is_same_side who f.side ≡ b
  mine_is who b e = ap (λ (x : Guidance). is_same_side who x.side) (sym u.guide_is) ∙ sym e

  abbrev theirs : List Event → List Move
  theirs es = tries_of (other f.side) es

  fewer : length game.log < asks
  fewer = omega (arith, more, u.whole.is_game.places)

  not_theirs : (who : Side) → is_same_side who f.side ≡ true → is_same_side who (other f.side) ≡ false
  not_theirs who own = ap (λ (x : Side). is_same_side x (other f.side)) (same_side_eq who f.side own) ∙ same_side_other f.side

  is_theirs : (who : Side) → is_same_side who f.side ≡ false → is_same_side who (other f.side) ≡ true
  is_theirs who not_own = ap (λ (x : Side). is_same_side x (other f.side)) (is_other who f.side not_own) ∙ same_side_self (other f.side)

  asked_own : (who : Side) (m : Move) (s' : Follower) (a' : Account) → is_same_side who f.side ≡ true → who ≡ game.position.side → TurnAsked true (Ok (Tried m)) s s' a a' →
      HasTried f start asks entry a' s' game (event who m)
  asked_own who m s' a' own turn h =
      let es = events_of game.log in
      let tries : next_try (stand_after f start es) ≡ Some m = ap next_try (sym stands) ∙ h.0.0 in
      record {
        is_game = u.whole.is_game;
        on_turn = turn;
        guide_is = ap (λ (x : Follower). x.guide) h.0.1 ∙ u.guide_is;
        follows = ap (λ (x : Follower). x.account.heard) h.0.1 ∙ (heard_kept (next_try (stand_of s)) (once_asked s.account) ∙ u.follows);
        tried = tried_more f start [] es (event who m) u.whole.tried (λ e. tries);
        vain = u.whole.vain;
        serves = subst (λ (x : Account). Serves (theirs (es ++ event who m ∷ [])) (lines_of f start game) u.whole.vain entry x) (sym h.1)
            (subst (λ (ms : List Move). Serves ms (lines_of f start game) u.whole.vain entry a) (tries_same (other f.side) es (event who m) (not_theirs who own)) u.whole.serves);
        stays = subst (Stays u.whole.vain entry) (sym h.1) u.whole.counts;
        account_then = a;
        whole = u.whole;
        fewer = fewer;
        since = subst (λ (ms : List Move). Serves ms [] 0 a a') (tries_same (other f.side) [] (event who m) (not_theirs who own)) (subst (Serves [] [] 0 a) (sym h.1) (serves_none a));
        stays_since = subst (Stays 0 a) (sym h.1) (refl, refl, refl);
      }

  asked_other : (who : Side) (m : Move) (s' : Follower) (a' : Account) → is_same_side who f.side ≡ false → who ≡ game.position.side → TurnAsked false (Ok (Tried m)) s s' a a' →
      HasTried f start asks entry a' s' game (event who m)
  asked_other who m s' a' not_own turn h =
      let es = events_of game.log in
      let one = tries_move m a a' h.1 in
      record {
        is_game = u.whole.is_game;
        on_turn = turn;
        guide_is = ap (λ (x : Follower). x.guide) h.0 ∙ u.guide_is;
        follows = ap (λ (x : Follower). x.account.heard) h.0 ∙ u.follows;
        tried = tried_more f start [] es (event who m) u.whole.tried (λ e. absurd (both_ways _ not_own (ap (λ (x : Side). is_same_side x f.side) e ∙ same_side_self f.side)));
        vain = u.whole.vain + 0;
        serves = subst (λ (ms : List Move). Serves ms (lines_of f start game) (u.whole.vain + 0) entry a') (tries_more (other f.side) es (event who m) (is_theirs who not_own))
            (subst (λ (ls : List Line). Serves (theirs es ++ m ∷ []) ls (u.whole.vain + 0) entry a') (append-nil (lines_of f start game))
            (serves_more (theirs es) (m ∷ []) (lines_of f start game) [] u.whole.vain 0 entry a a' u.whole.serves one));
        stays = (ap (λ (x : Account). x.faults) h.1 ∙ u.whole.counts.0, ap (λ (x : Account). x.leaves) h.1 ∙ u.whole.counts.1, omega (arith, u.whole.counts.2));
        account_then = a;
        whole = u.whole;
        fewer = fewer;
        since = subst (λ (ms : List Move). Serves ms [] 0 a a') (tries_more (other f.side) [] (event who m) (is_theirs who not_own)) one;
        stays_since = (ap (λ (x : Account). x.faults) h.1, ap (λ (x : Account). x.leaves) h.1, refl);
      }

  pub asked : (own : Bool) (who : Side) (m : Move) (s' : Follower) (a' : Account) → own ≡ is_same_side who s.guide.side → who ≡ game.position.side → TurnAsked own (Ok (Tried m)) s s' a a' →
      HasTried f start asks entry a' s' game (event who m)
  asked true who m s' a' e turn h = asked_own who m s' a' (mine_is who true e) turn h
  asked false who m s' a' e turn h = asked_other who m s' a' (mine_is who false e) turn h

  -- he was asked once more, in vain
  in_vain : (a' : Account) → a'.asks ≡ one_more a.asks → a'.said ≡ a.said → a'.heard ≡ a.heard → Serves (theirs (events_of game.log)) (lines_of f start game) (u.whole.vain + 1) entry a'
  in_vain a' asked said heard_is =
      subst (λ (ms : List Move). Serves ms (lines_of f start game) (u.whole.vain + 1) entry a') (append-nil (theirs (events_of game.log)))
      (subst (λ (ls : List Line). Serves (theirs (events_of game.log) ++ []) ls (u.whole.vain + 1) entry a') (append-nil (lines_of f start game))
      (serves_more (theirs (events_of game.log)) [] (lines_of f start game) [] u.whole.vain 1 entry a a' u.whole.serves (asked_in_vain a a' asked said heard_is)))

  pub left : (own : Bool) (who : Side) (s' : Follower) (a' : Account) → own ≡ is_same_side who s.guide.side → who ≡ game.position.side → TurnAsked own (Ok turned.Left) s s' a a' →
      IsLeft f start asks entry a' game who
  left true who s' a' e turn h =
      let is : who ≡ f.side = same_side_eq who f.side (mine_is who true e) in
      record {
        whole = record {
          is_game = u.whole.is_game;
          tried = u.whole.tried;
          vain = u.whole.vain;
          serves = subst (Serves (theirs (events_of game.log)) (lines_of f start game) u.whole.vain entry) (sym h.1) u.whole.serves;
          counts = subst (λ (x : Side). played_counts (Some x) (other f.side) u.whole.vain entry a') (sym is) (own_counts f.side u.whole.vain entry a' (subst (Stays u.whole.vain entry) (sym h.1) u.whole.counts));
        };
        on_turn = turn;
        no_try = λ _. ap next_try (sym stands) ∙ h.0.0;
      }
  left false who s' a' e turn h =
      let not_own = mine_is who false e in
      let is : who ≡ other f.side = is_other who f.side not_own in
      let rose : Rose a.leaves a'.leaves = h.1.0 in
      record {
        whole = record {
          is_game = u.whole.is_game;
          tried = u.whole.tried;
          vain = u.whole.vain + 1;
          serves = in_vain a' (ap (λ (x : Account). x.asks) h.1.1) (ap (λ (x : Account). x.said) h.1.1) (ap (λ (x : Account). x.heard) h.1.1);
          counts = subst (λ (x : Side). played_counts (Some x) (other f.side) (u.whole.vain + 1) entry a') (sym is)
              (other_counts (other f.side) (u.whole.vain + 1) entry a'
              (ap (λ (x : Account). x.faults) h.1.1 ∙ u.whole.counts.0, subst (λ (n : ℕ). Rose n a'.leaves) u.whole.counts.1 rose, omega (arith, u.whole.counts.2)));
        };
        on_turn = turn;
        no_try = λ same. absurd (both_ways _ not_own (ap (λ (x : Side). is_same_side x f.side) same ∙ same_side_self f.side));
      }

  -- an ask of which no try came
  abbrev last_in_vain : LastAsk f start asks entry game
  last_in_vain = record { account_then = a; game_then = game; whole = u.whole; fewer = fewer; since = record { tried = []; at_most_one = omega arith; events = sym (append-nil (events_of game.log)) } }

  -- a game that was given up when a side was asked, which asked the opponent so often in vain
  given_up : (fault : LeadFault) (a' : Account) (vain : ℕ) → IsShort fault [] [] vain a a' → vain ≡ once game.position.side (other f.side) → IsBroken f start asks entry a' fault
  given_up fault a' vain short asked = record {
    game = game;
    is_game = u.whole.is_game;
    tried = u.whole.tried;
    breaks = breaks_by (theirs (events_of game.log)) [] (lines_of f start game) (lines_of f start game) u.whole.vain entry short u.whole.serves u.whole.counts (append-nil (lines_of f start game));
    at_once = inr (last_in_vain, breaks_by [] (lines_of f start game) [] (lines_of f start game) 0 a short (serves_none a) (refl, refl, refl) (append-nil (lines_of f start game)), omega (arith, asked));
  }

  -- the opponent was asked, and met a fault
  theirs_fails : (fault : LeadFault) (who : Side) (a' : Account) → false ≡ is_same_side who s.guide.side → who ≡ game.position.side → fault_counts fault (once_asked a) a' →
      a' ≡ record (once_asked a) { faults = a'.faults } → IsBroken f start asks entry a' fault
  theirs_fails fault who a' e turn counts is =
      given_up fault a' 1
      (record { serves = asked_in_vain a a' (ap (λ (x : Account). x.asks) is) (ap (λ (x : Account). x.said) is) (ap (λ (x : Account). x.heard) is); counts = counts_asked fault a a' counts; leaves = ap (λ (x : Account). x.leaves) is; few = omega arith })
      (subst (λ (x : Side). 1 ≡ once x (other f.side)) turn (asked_once who (other f.side) (is_theirs who (mine_is who false e))))

  pub fails : (own : Bool) (who : Side) (met : SeatFault) (s' : Follower) (a' : Account) → own ≡ is_same_side who s.guide.side → who ≡ game.position.side → TurnAsked own (Err met) s s' a a' →
      IsBroken f start asks entry a' (lead_fault (fault_of met who))
  fails true who Failed s' a' e turn h = absurd h.0
  fails true who fault.NoMemory s' a' e turn h =
      given_up NoMemory a' 0
      (record { serves = subst (Serves [] [] 0 a) (sym h.1) (serves_none a); counts = subst (λ (x : Account). a.faults ≤ x.faults) (sym h.1) (omega arith); leaves = ap (λ (x : Account). x.leaves) h.1; few = omega arith })
      (subst (λ (x : Side). 0 ≡ once x (other f.side)) turn (asked_none who (other f.side) (not_theirs who (mine_is who true e))))
  fails false who Failed s' a' e turn h = theirs_fails Seat who a' e turn h.1.0 h.1.1
  fails false who fault.NoMemory s' a' e turn h = theirs_fails NoMemory who a' e turn h.1.0 h.1.1
