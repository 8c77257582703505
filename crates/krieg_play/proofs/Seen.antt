-- What seats did, told by their accounts alone: what holds of the seats holds of what they mean.
use Rattle.std.proofs.Common.{◌≡◌, ℕ, ◌+◌, ◌<◌, List, [], ◌∷◌, ◌++◌, length, map, refl, sym, ap, ◌∙◌, subst, ◌⊎◌, inl, inr, Option, None}
use Rattle.std.proofs.lemmas.List.{length-map}
use Rattle.std.specs.List.{flat_map}
use Rattle.krieg_play.proofs.Common.{Pos, Move, Side, White, Black, Line, GameState, Stop, Ended, AsksUsed, Account, Team, Service, entry_of, now_of, asks_of, all_asks, said_of, known_behind, Turns, AreRelieved, Course, Sides, seen_team, seen, relieved, used_up, IsAskedWithin, leaver, last_ask, Courses, lines_of, IsWhole, LastAsk, turns_then, StopsBy, IsPlayed, EndsAt, IsUntold, Breaks, IsBroken, Refuses, PlayFault, Vacant, Seat}
use Rattle.krieg_umpire.specs.declared.verdict.Stop.TheVariants.{Left}
use Rattle.krieg_play.specs.declared.outcome.PlayFault.TheVariants.{NoMemory}

abbrev itself : Account → Account
itself a = a

abbrev seen_service : {X : Type 0} → (X → Account) → Service X → Service Account
seen_service account s = record { entry = account s.entry; now = account s.now; said = s.said; heard = s.heard; vain = s.vain }

entries_seen : {X : Type 0} (account : X → Account) (ss : List (Service X)) (x : X) (ys : List X) →
    map account (map entry_of ss ++ x ∷ ys) ≡ map entry_of (map (seen_service account) ss) ++ account x ∷ map account ys
entries_seen account [] x ys = refl
entries_seen account (s ∷ ss) x ys = ap (λ (t : List Account). account s.entry ∷ t) (entries_seen account ss x ys)

nows_seen : {X : Type 0} (account : X → Account) (out : List X) (ss : List (Service X)) → map account (out ++ map now_of ss) ≡ map account out ++ map now_of (map (seen_service account) ss)
nows_seen account [] [] = refl
nows_seen account [] (s ∷ ss) = ap (λ (t : List Account). account s.now ∷ t) (nows_seen account [] ss)
nows_seen account (x ∷ out) ss = ap (λ (t : List Account). account x ∷ t) (nows_seen account out ss)

said_seen : {X : Type 0} (account : X → Account) (ss : List (Service X)) → flat_map said_of (map (seen_service account) ss) ≡ flat_map said_of ss
said_seen account [] = refl
said_seen account (s ∷ ss) = ap (λ (t : List Move). s.said ++ t) (said_seen account ss)

asks_seen : {X : Type 0} (account : X → Account) (ss : List (Service X)) → all_asks (map (seen_service account) ss) ≡ all_asks ss
asks_seen account [] = refl
asks_seen account (s ∷ ss) = ap (λ (n : ℕ). asks_of s + n) (asks_seen account ss)

known_seen : {X : Type 0} (account : X → Account) (ss : List (Service X)) (known : List Line) → known_behind (map (seen_service account) ss) known ≡ known_behind ss known
known_seen account [] known = refl
known_seen account (s ∷ ss) known = refl

relieved_seen : {X : Type 0} (account : X → Account) (known lines : List Line) (ss : List (Service X)) → AreRelieved account known lines ss → AreRelieved itself known lines (map (seen_service account) ss)
relieved_seen account known lines [] h = tt
relieved_seen account known lines (s ∷ ss) h = (record { serves = h.0.serves; due = h.0.due; heard = h.0.heard; gone = h.0.gone }, relieved_seen account [] lines ss h.1)

course_seen : {X : Type 0} (account : X → Account) (C : ℕ → Account → Account → Type 0) (entry now : Team X) (lines due : List Line) (turns : Turns) →
    Course account C entry now lines due turns → Course itself C (seen_team account entry) (seen_team account now) lines due turns
course_seen {X} account C entry now lines due turns c = record {
  relieved = map (seen_service account) c.relieved;
  sitting = seen_service account c.sitting;
  behind = map account c.behind;
  seats_then = ap (map account) c.seats_then ∙ entries_seen account c.relieved c.sitting.entry c.behind;
  seats_now = ap (map account) c.seats_now;
  out_now = ap (map account) c.out_now ∙ nows_seen account entry.out c.relieved;
  are_relieved = relieved_seen account turns.known lines c.relieved c.are_relieved;
  serves = c.serves;
  heard = ap (λ (ls : List Line). ls ++ (c.sitting.heard ++ due)) (known_seen account c.relieved turns.known) ∙ c.heard;
  asked = ap (λ (n : ℕ). n + asks_of c.sitting) (asks_seen account c.relieved) ∙ c.asked;
  said = ap (λ (t : List Move). t ++ c.sitting.said) (said_seen account c.relieved) ∙ c.said;
  counts = c.counts;
}

count_seen : {X : Type 0} (account : X → Account) (entry now : Team X) → relieved entry now ≡ relieved (seen_team account entry) (seen_team account now)
count_seen account entry now = rw (length-map now.out account, length-map entry.out account) refl

stops_seen : {X : Type 0} (account : X → Account) (stop : Stop) (p : Pos) (asks used : ℕ) (now : Sides X) → StopsBy stop p asks used now → StopsBy stop p asks used (seen account now)
stops_seen account Ended p asks used now h = h
stops_seen account AsksUsed p asks used now h = h
stops_seen account (Left White) p asks used now h = (h.0, h.1, h.2, length-map now.white.seats account ∙ h.3)
stops_seen account (Left Black) p asks used now h = (h.0, h.1, h.2, length-map now.black.seats account ∙ h.3)

used_seen : {X : Type 0} (account : X → Account) (entry now : Sides X) (game : GameState) → used_up entry now game ≡ used_up (seen account entry) (seen account now) game
used_seen account entry now game = ap (λ (n : ℕ). length game.log + n)
    (ap (λ (n : ℕ). n + relieved entry.black now.black) (count_seen account entry.white now.white) ∙ ap (λ (n : ℕ). relieved (seen account entry).white (seen account now).white + n) (count_seen account entry.black now.black))

courses_seen : {X : Type 0} (account : X → Account) (left : Option Side) (entry now : Sides X) (lines : Side → List Line) (turns : Side → Turns) →
    Courses account left entry now lines turns → Courses itself left (seen account entry) (seen account now) lines turns
courses_seen account left entry now lines turns c = record { white = course_seen account _ _ _ _ _ _ c.white; black = course_seen account _ _ _ _ _ _ c.black }

module _ {X : Type 0} (account : X → Account) (start : Pos) (asks : ℕ) (entry now : Sides X) (game : GameState) where
  abbrev whole_seen : (left : Option Side) → IsWhole account left start asks entry now game → IsWhole itself left start asks (seen account entry) (seen account now) game
  whole_seen left h = record {
    is_game = h.is_game;
    white_asks = h.white_asks;
    black_asks = h.black_asks;
    courses = courses_seen account left entry now _ _ h.courses;
    asked = subst (λ (n : ℕ). IsAskedWithin asks n (last_ask left) (h.white_asks + h.black_asks)) (used_seen account entry now game) h.asked;
  }

abbrev ask_seen : {X : Type 0} (account : X → Account) (start : Pos) (asks : ℕ) (entry : Sides X) (game : GameState) → LastAsk account start asks entry game → LastAsk itself start asks (seen account entry) game
ask_seen account start asks entry game a = record {
  sides_then = seen account a.sides_then;
  game_then = a.game_then;
  whole = whole_seen account start asks entry a.sides_then a.game_then None a.whole;
  fewer = subst (λ (n : ℕ). n < asks) (used_seen account entry a.sides_then a.game_then) a.fewer;
  since = a.since;
}

pub played_seen : {X : Type 0} (account : X → Account) (start : Pos) (asks : ℕ) (entry now : Sides X) (game : GameState) (stop : Stop) →
    IsPlayed account start asks entry now game stop → IsPlayed itself start asks (seen account entry) (seen account now) game stop
played_seen account start asks entry now game stop h = record {
  played = record { whole = whole_seen account start asks entry now game (leaver stop) h.played.whole; in_time = in_time h.played.in_time };
  stops = subst (λ (n : ℕ). StopsBy stop game.position asks n (seen account now)) (used_seen account entry now game)
      (stops_seen account stop game.position asks (used_up entry now game) now h.stops);
}
  where
    in_time : {n : ℕ} → (n ≡ 0) ⊎ ((a : LastAsk account start asks entry game) × Courses account (leaver stop) a.sides_then now (lines_of start game) (turns_then a)) →
        (n ≡ 0) ⊎ ((a : LastAsk itself start asks (seen account entry) game) × Courses itself (leaver stop) a.sides_then (seen account now) (lines_of start game) (turns_then a))
    in_time (inl none) = inl none
    in_time (inr (a, c)) = inr (ask_seen account start asks entry game a, courses_seen account (leaver stop) a.sides_then now _ _ c)

ends_seen : {X : Type 0} (account : X → Account) (fault : PlayFault) (now : Sides X) → EndsAt fault now → EndsAt fault (seen account now)
ends_seen account (Seat White) now h = length-map now.white.seats account ∙ h
ends_seen account (Seat Black) now h = length-map now.black.seats account ∙ h
ends_seen account NoMemory now h = h
ends_seen account (Vacant who) now h = h

untold_seen : {X : Type 0} (account : X → Account) (fault : PlayFault) (before now : Sides X) (due : List Line) → IsUntold fault before now due → IsUntold fault (seen account before) (seen account now) due
untold_seen account (Seat White) before now due h = ap (seen_team account) h
untold_seen account (Seat Black) before now due h = h
untold_seen account NoMemory before now due (inl h) = inl (ap (seen_team account) h)
untold_seen account NoMemory before now due (inr h) = inr h
untold_seen account (Vacant who) before now due (inl h) = inl (ap (seen_team account) h)
untold_seen account (Vacant who) before now due (inr h) = inr h

abbrev breaks_seen : {X : Type 0} (account : X → Account) (fault : PlayFault) (news : List Line) (entry now : Sides X) (lines : Side → List Line) (turns : Side → Turns) →
    Breaks account fault news entry now lines turns → Breaks itself fault news (seen account entry) (seen account now) lines turns
breaks_seen account fault news entry now lines turns h = record {
  white = (h.white.0, course_seen account _ _ _ _ _ _ h.white.1);
  black = (h.black.0, course_seen account _ _ _ _ _ _ h.black.1);
  told_first = h.told_first;
  ends = ends_seen account fault now h.ends;
}

broken_seen : {X : Type 0} (account : X → Account) (start : Pos) (asks : ℕ) (entry now : Sides X) (fault : PlayFault) →
    IsBroken account start asks entry now fault → IsBroken itself start asks (seen account entry) (seen account now) fault
broken_seen account start asks entry now fault h = record {
  game = h.game;
  is_game = h.is_game;
  white_asks = h.white_asks;
  black_asks = h.black_asks;
  news = h.news;
  breaks = breaks_seen account fault h.news entry now _ _ h.breaks;
  asked = subst (λ (n : ℕ). IsAskedWithin asks n 1 (h.white_asks + h.black_asks)) (used_seen account entry now h.game) h.asked;
  at_once = at_once h.breaks.white.0 h.at_once;
}
  where
    at_once : {n : ℕ} (due : List Line) → ((n ≡ 0) × (h.news ≡ lines_of start h.game Black) × IsUntold fault entry now due)
        ⊎ ((a : LastAsk account start asks entry h.game) × (lines_of start a.game_then Black ++ h.news ≡ lines_of start h.game Black) × Breaks account fault h.news a.sides_then now (lines_of start h.game) (turns_then a)) →
        ((n ≡ 0) × (h.news ≡ lines_of start h.game Black) × IsUntold fault (seen account entry) (seen account now) due)
        ⊎ ((a : LastAsk itself start asks (seen account entry) h.game) × (lines_of start a.game_then Black ++ h.news ≡ lines_of start h.game Black)
        × Breaks itself fault h.news a.sides_then (seen account now) (lines_of start h.game) (turns_then a))
    at_once due (inl (none, news, untold)) = inl (none, news, untold_seen account fault entry now due untold)
    at_once due (inr (a, news, b)) = inr (ask_seen account start asks entry h.game a, news, breaks_seen account fault h.news a.sides_then now _ _ b)

pub refuses_seen : {X : Type 0} (account : X → Account) (start : Pos) (asks : ℕ) (entry now : Sides X) (fault : PlayFault) →
    Refuses account start asks entry now fault → Refuses itself start asks (seen account entry) (seen account now) fault
refuses_seen account start asks entry now (Vacant White) h = (ap (map account) h.0, ap (seen account) h.1)
refuses_seen account start asks entry now (Vacant Black) h = (subst (λ (n : ℕ). 0 < n) (sym (length-map entry.white.seats account)) h.0, ap (map account) h.1, ap (seen account) h.2)
refuses_seen account start asks entry now (Seat who) h = broken_seen account start asks entry now (Seat who) h
refuses_seen account start asks entry now NoMemory h = broken_seen account start asks entry now NoMemory h
