-- What a turn of two players makes of the seat of a plan and of its opponent, of whom one is White.
use Rattle.std.proofs.Common.{◌≡◌, ◌<◌, Bool, true, false, List, [], refl, sym, ap, subst, ◌∙◌, inl, inr, arith, Result, Ok, Err, Option, Some}
use Rattle.std.specs.Prelude.{⊤}
use Rattle.std.proofs.lemmas.List.{append-nil}
use Rattle.krieg_robot.proofs.Common.{is_same_side, other, Pos, Move, Side, White, Black, Dialect, Line, GameState, Account, IsStepped, due_in, judged, Follower, Guidance, HearsPart, BothTold, TurnAsked, AfterPass, Passes, hearing, lead, lead_fault, next_pass, LeadFault, NoMemory}
use Rattle.krieg_seats.specs.declared.seat.SeatFault.{SeatFault}
use Rattle.krieg_seats.specs.declared.seat.SeatFault.TheVariants.{Failed}
use Rattle.krieg_seats.specs.declared.seat.SeatFault.TheVariants as fault
use Rattle.krieg_play.specs.Calls.{ToldAll, AsksLone, lines_to}
use Rattle.krieg_play.specs.Passes.{fault_of}
use Rattle.krieg_play.specs.Players.{Asking, Telling, BothHear, AsksOf, Follows, TakesTurns, next_turn}
use Rattle.krieg_play.specs.declared.outcome.PlayFault.{PlayFault}
use Rattle.krieg_play.specs.declared.ask_outcome.AskOutcome.{AskOutcome}
use Rattle.krieg_play.specs.declared.ask_outcome.AskOutcome.TheVariants.{Tried, Relieved, Left}
use Rattle.krieg_robot.specs.Turns.{AsksOwn, HearsOwn}
use Rattle.krieg_robot.proofs.Asking.{asked, left, fails, event}
use Rattle.krieg_robot.proofs.Judging.{IsJudged, after_try}

lead_next : (told : Result (Unit {0}) PlayFault) → next_pass (lead told) ≡ lead (next_turn told)
lead_next (Ok _) = refl
lead_next (Err fault) = refl

-- ---- what is told

-- the opponent heard a front part of these lines
hears_part : (met : SeatFault) (who : Side) (lines : List Line) (a a' : Account) → ToldAll lines (Err met) a a' → HearsPart (lead_fault (fault_of met who)) lines a a'
hears_part Failed who lines a a' h = record { told = h.0.told; due = h.0.due; split = h.0.split; now_is = h.0.now_is; counts = h.1 }
hears_part fault.NoMemory who lines a a' h = record { told = h.0.told; due = h.0.due; split = h.0.split; now_is = h.0.now_is; counts = h.1 }

-- none of them, or all
hears_none : (lines : List Line) (a a' : Account) → a' ≡ a → HearsPart NoMemory lines a a'
hears_none lines a a' same = subst (HearsPart NoMemory lines a) (sym same)
    (record { told = []; due = lines; split = refl; now_is = ap (λ (ls : List Line). record a { heard = ls }) (sym (append-nil a.heard)); counts = omega arith })

hears_all : (lines : List Line) (a a' : Account) → a' ≡ hearing a lines → HearsPart NoMemory lines a a'
hears_all lines a a' is = subst (HearsPart NoMemory lines a) (sym is) (record { told = lines; due = []; split = append-nil lines; now_is = refl; counts = omega arith })

module _ {X : Type 0} (account : X → Account) where
  -- what telling and asking the opponent makes of him, and the seat of the plan
  abbrev pub TheirHears : Telling X
  TheirHears lines due r x y = ToldAll due r (account x) (account y)

  abbrev pub TheirAsks : Asking X
  TheirAsks lines r x y = AsksLone r (account x) (account y)

  abbrev pub OwnHearing : Telling Follower
  OwnHearing lines due r s t = HearsOwn due r s t

  abbrev pub OwnAsks : Asking Follower
  OwnAsks lines r s t = AsksOwn r s t

  pub told_white : (told : Result (Unit {0}) PlayFault) (lines due : Side → List Line) (s s' : Follower) (b b' : X) → BothHear OwnHearing TheirHears told lines due s s' b b' →
      BothTold (lead told) White s s' (due White) (account b) (account b') (due Black)
  told_white (Ok _) lines due s s' b b' h = h
  told_white (Err broke) lines due s s' b b' (Failed, inl h) = absurd h.1
  told_white (Err broke) lines due s s' b b' (fault.NoMemory, inl h) =
      subst (λ (x : PlayFault). BothTold (lead (Err x)) White s s' (due White) (account b) (account b') (due Black)) (sym h.0)
      (hears_none (due Black) (account b) (account b') (ap account h.2), inl (ap account h.2))
  told_white (Err broke) lines due s s' b b' (met, inr h) =
      subst (λ (x : PlayFault). BothTold (lead (Err x)) White s s' (due White) (account b) (account b') (due Black)) (sym h.0)
      (hears_part met Black (due Black) (account b) (account b') h.2, inr h.1)

  pub told_black : (told : Result (Unit {0}) PlayFault) (lines due : Side → List Line) (s s' : Follower) (b b' : X) → BothHear TheirHears OwnHearing told lines due b b' s s' →
      BothTold (lead told) Black s s' (due Black) (account b) (account b') (due White)
  told_black (Ok _) lines due s s' b b' h = (h.1, h.0)
  told_black (Err broke) lines due s s' b b' (met, inl h) =
      subst (λ (x : PlayFault). BothTold (lead (Err x)) Black s s' (due Black) (account b) (account b') (due White)) (sym h.0)
      (hears_part met White (due White) (account b) (account b') h.1, inl h.2)
  told_black (Err broke) lines due s s' b b' (Failed, inr h) = absurd h.2
  told_black (Err broke) lines due s s' b b' (fault.NoMemory, inr h) =
      subst (λ (x : PlayFault). BothTold (lead (Err x)) Black s s' (due Black) (account b) (account b') (due White)) (sym h.0)
      (hears_all (due White) (account b) (account b') h.1, inr h.1)

  -- the one of them is asked whose turn it is
  asks_white : (who : Side) (r : Result AskOutcome SeatFault) (lines : Side → List Line) (s s' : Follower) (b b' : X) → AsksOf OwnAsks TheirAsks OwnHearing TheirHears who r lines s s' b b' →
      TurnAsked (is_same_side who White) r s s' (account b) (account b')
  asks_white White r lines s s' b b' h = (h.0, ap account h.1)
  asks_white Black r lines s s' b b' h = (h.1, h.0)

  asks_black : (who : Side) (r : Result AskOutcome SeatFault) (lines : Side → List Line) (s s' : Follower) (b b' : X) → AsksOf TheirAsks OwnAsks TheirHears OwnHearing who r lines b b' s s' →
      TurnAsked (is_same_side who Black) r s s' (account b) (account b')
  asks_black White r lines s s' b b' h = (h.1, h.0)
  asks_black Black r lines s s' b b' h = (h.0, ap account h.1)

-- ---- what comes of what was said

-- a try is judged; or the turn is over, and nobody else was asked or told
abbrev pub Ends : Result AskOutcome SeatFault → Result (Option Side) PlayFault → Follower → Follower → Account → Account → GameState → GameState → Type 0
Ends (Ok (Tried m)) result s s' a a' game game' =
    (told : Result (Unit {0}) PlayFault) × (result ≡ next_turn told) × IsJudged (lead told) (event game.position.side m) a a' s s' game game'
Ends (Ok Relieved) result s s' a a' game game' = ⊤
Ends (Ok Left) result s s' a a' game game' = (result ≡ Ok (Some game.position.side)) × (a' ≡ a) × (game' ≡ game)
Ends (Err met) result s s' a a' game game' = (result ≡ Err (fault_of met game.position.side)) × (a' ≡ a) × (game' ≡ game)

-- neither of them is relieved
not_relieved : (own : Bool) (s s' : Follower) (a a' : Account) → TurnAsked own (Ok Relieved) s s' a a' → ⊥
not_relieved true s s' a a' h = h.0
not_relieved false s s' a a' h = h.1

-- the seat of the plan keeps its guide
guide_kept : (own : Bool) (m : Move) (s s' : Follower) (a a' : Account) → TurnAsked own (Ok (Tried m)) s s' a a' → s'.guide ≡ s.guide
guide_kept true m s s' a a' h = ap (λ (x : Follower). x.guide) h.0.1
guide_kept false m s s' a a' h = ap (λ (x : Follower). x.guide) h.0

-- who is asked, by the side of the guide
abbrev own_turn : Follower → GameState → Bool
own_turn s game = is_same_side game.position.side s.guide.side

pub passes_by : (said : Result AskOutcome SeatFault) (result : Result (Option Side) PlayFault) (s t u : Follower) (a b c : Account) (game game' : GameState) → 0 < game.spare → TurnAsked (own_turn s game) said s t a b →
    Ends said result t u b c game game' → Passes (lead result) a c s u game game'
passes_by (Ok (Tried m)) result s t u a b c game game' more asks (told, is, judged) f start k entry h =
    subst (λ (r : Result (Option Side) LeadFault). AfterPass r f start k entry c u game') (lead_next told ∙ ap lead (sym is))
    (after_try (lead told) (event game.position.side m) b c t u game game' judged f start k entry (asked h more (own_turn s game) game.position.side m t b refl refl asks))
passes_by (Ok Relieved) result s t u a b c game game' more asks ends f start k entry h = absurd (not_relieved (own_turn s game) s t a b asks)
passes_by (Ok Left) result s t u a b c game game' more asks (is, same, game_same) f start k entry h =
    subst (λ (r : Result (Option Side) LeadFault). AfterPass r f start k entry c u game') (ap lead (sym is))
    (subst (λ (x : Account). AfterPass (Ok (Some game.position.side)) f start k entry x u game') (sym same)
    (subst (λ (g : GameState). AfterPass (Ok (Some game.position.side)) f start k entry b u g) (sym game_same)
    (left h more (own_turn s game) game.position.side t b refl refl asks)))
passes_by (Err met) result s t u a b c game game' more asks (is, same, game_same) f start k entry h =
    subst (λ (r : Result (Option Side) LeadFault). AfterPass r f start k entry c u game') (ap lead (sym is))
    (subst (λ (x : Account). AfterPass (Err (lead_fault (fault_of met game.position.side))) f start k entry x u game') (sym same)
    (fails h more (own_turn s game) game.position.side met t b refl refl asks))

-- ---- from either side

-- a try of the side to move was judged, and told in this dialect
judged_by : {d : Dialect} (s t s' : Follower) (a b b' : Account) (game game' : GameState) (m : Move) (r : Result (Unit {0}) LeadFault) → d ≡ s.guide.dialect → (side : Side) → s.guide.side ≡ side →
    TurnAsked (own_turn s game) (Ok (Tried m)) s t a b → IsStepped (event game.position.side m) game game' →
    BothTold r side t s' (due_in d (judged game.position (event game.position.side m)) side) b b' (due_in d (judged game.position (event game.position.side m)) (other side)) →
    IsJudged r (event game.position.side m) b b' t s' game game'
judged_by s t s' a b b' game game' m r d_is side side_is asks stepped tells =
    let kept = guide_kept (own_turn s game) m s t a b asks in
    let lines : Dialect → Side → List Line = λ y who. due_in y (judged game.position (event game.position.side m)) who in
    record {
      stepped = stepped;
      tells = subst (λ (y : Side). BothTold r y t s' (lines t.guide.dialect y) b b' (lines t.guide.dialect (other y))) (sym (ap (λ (f : Guidance). f.side) kept ∙ side_is))
          (subst (λ (y : Dialect). BothTold r side t s' (lines y side) b b' (lines y (other side))) (sym (ap (λ (f : Guidance). f.dialect) kept ∙ sym d_is)) tells);
    }

module _ {X : Type 0} (account : X → Account) {d : Dialect} {start : Pos} {result : Result (Option Side) PlayFault} {s s' : Follower} {b b' : X} {game game' : GameState} (d_is : d ≡ s.guide.dialect) where
  -- the seat of the plan has White
  module _ (side : s.guide.side ≡ White) (t : TakesTurns (OwnAsks account) (TheirAsks account) (OwnHearing account) (TheirHears account) result d start s s' b b' game game') where
    pub white_asked : TurnAsked (own_turn s game) t.said s t.white (account b) (account t.black)
    white_asked = subst (λ (x : Side). TurnAsked (is_same_side game.position.side x) t.said s t.white (account b) (account t.black)) (sym side)
        (asks_white account game.position.side t.said (λ who. lines_to start who game.log) s t.white b t.black t.asked)

    white_ends_by : (said : Result AskOutcome SeatFault) → TurnAsked (own_turn s game) said s t.white (account b) (account t.black) →
        Follows (OwnAsks account) (TheirAsks account) (OwnHearing account) (TheirHears account) said result d start game.position.side t.white s' t.black b' game game' →
        Ends said result t.white s' (account t.black) (account b') game game'
    white_ends_by (Ok (Tried m)) asks (told, is, stepped, both) =
        (told, is, judged_by s t.white s' (account b) (account t.black) (account b') game game' m (lead told) d_is White side asks stepped (told_white account told (λ who. lines_to start who game'.log) (due_in d (judged game.position (event game.position.side m))) t.white s' t.black b' both))
    white_ends_by (Ok Relieved) asks h = tt
    white_ends_by (Ok Left) asks h = (h.0, ap account h.2, h.3)
    white_ends_by (Err met) asks h = (h.0, ap account h.2, h.3)

    pub white_ends : Ends t.said result t.white s' (account t.black) (account b') game game'
    white_ends = white_ends_by t.said white_asked t.follows

  -- it has Black
  module _ (side : s.guide.side ≡ Black) (t : TakesTurns (TheirAsks account) (OwnAsks account) (TheirHears account) (OwnHearing account) result d start b b' s s' game game') where
    pub black_asked : TurnAsked (own_turn s game) t.said s t.black (account b) (account t.white)
    black_asked = subst (λ (x : Side). TurnAsked (is_same_side game.position.side x) t.said s t.black (account b) (account t.white)) (sym side)
        (asks_black account game.position.side t.said (λ who. lines_to start who game.log) s t.black b t.white t.asked)

    black_ends_by : (said : Result AskOutcome SeatFault) → TurnAsked (own_turn s game) said s t.black (account b) (account t.white) →
        Follows (TheirAsks account) (OwnAsks account) (TheirHears account) (OwnHearing account) said result d start game.position.side t.white b' t.black s' game game' →
        Ends said result t.black s' (account t.white) (account b') game game'
    black_ends_by (Ok (Tried m)) asks (told, is, stepped, both) =
        (told, is, judged_by s t.black s' (account b) (account t.white) (account b') game game' m (lead told) d_is Black side asks stepped (told_black account told (λ who. lines_to start who game'.log) (due_in d (judged game.position (event game.position.side m))) t.black s' t.white b' both))
    black_ends_by (Ok Relieved) asks h = tt
    black_ends_by (Ok Left) asks h = (h.0, ap account h.1, h.3)
    black_ends_by (Err met) asks h = (h.0, ap account h.1, h.3)

    pub black_ends : Ends t.said result t.black s' (account t.white) (account b') game game'
    black_ends = black_ends_by t.said black_asked t.follows
