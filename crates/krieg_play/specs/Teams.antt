-- The seats of one side, and what they did since a call began.
use Rattle.std.specs.Prelude.{◌≡◌, ◌+◌, ◌≤◌, ◌⊎◌, ℕ, List, [], ◌∷◌, ◌++◌, length, map, Vec}
use Rattle.std.specs.List.{flat_map}
use Rattle.krieg_ports.specs.Faults.{many_more, Rose}
use Rattle.krieg_board.specs.declared.men.Move.{Move}
use Rattle.krieg_wordtext.specs.declared.line.Line.{Line}
use Rattle.krieg_seats.specs.Accounts.{Account}

-- the seats of one side: the first one sits, the others stand behind it, and those of the out list were relieved
pub record Team (X : Type 0) : Type 0 where
  pub seats : List X
  pub out : List X

-- a side with these seats, and these that were relieved
abbrev pub team : {X : Type 0} → List X → List X → Team X
team seats out = record { seats = seats; out = out }

-- the same of two lists of the code
abbrev pub team_of : {X Z : Type 0} → Vec X Z → Vec X Z → Team X
team_of seats out = team seats.items out.items

-- ---- one seat

-- An account and what became of it: these moves were said and these lines heard, and the seat was asked once for each of these moves
-- and so often in vain, so that no try came.
pub record Serves (moves : List Move) (lines : List Line) (vain : ℕ) (entry now : Account) : Type 0 where
  pub asks : now.asks ≡ many_more (length moves + vain) entry.asks
  pub said : now.said ≡ entry.said ++ moves
  pub heard : now.heard ≡ entry.heard ++ lines

-- a seat as it was on entry and as it is now, what it said and heard in between, and how often it was asked in vain
pub record Service (X : Type 0) : Type 0 where
  pub entry : X
  pub now : X
  pub said : List Move
  pub heard : List Line
  pub vain : ℕ

-- the seat as it was on entry
abbrev pub entry_of : {X : Type 0} → Service X → X
entry_of s = s.entry

-- the seat as it is now
abbrev pub now_of : {X : Type 0} → Service X → X
now_of s = s.now

-- what it said in between
abbrev pub said_of : {X : Type 0} → Service X → List Move
said_of s = s.said

-- how often it was asked: once for each of its tries, and in vain
abbrev pub asks_of : {X : Type 0} → Service X → ℕ
asks_of s = length s.said + s.vain

-- how often these seats were asked together
abbrev pub all_asks : {X : Type 0} → List (Service X) → ℕ
all_asks [] = 0
all_asks (s ∷ ss) = asks_of s + all_asks ss

-- this is what became of its account
abbrev pub IsService : {X : Type 0} → (X → Account) → Service X → Type 0
IsService account s = Serves s.said s.heard s.vain (account s.entry) (account s.now)

-- ---- how often it was asked in vain, and its other counts, on entry and now

-- no call of it failed, it did not leave, and each ask of it brought a try
abbrev pub Stays : ℕ → Account → Account → Type 0
Stays vain entry now = (now.faults ≡ entry.faults) × (now.leaves ≡ entry.leaves) × (vain ≡ 0)

-- it left, which was its one ask in vain, and no call of it failed
abbrev pub HasLeft : ℕ → Account → Account → Type 0
HasLeft vain entry now = (now.faults ≡ entry.faults) × Rose entry.leaves now.leaves × (vain ≡ 1)

-- a call of it failed, which may be its one ask in vain, and it did not leave
abbrev pub HasFailed : ℕ → Account → Account → Type 0
HasFailed vain entry now = Rose entry.faults now.faults × (now.leaves ≡ entry.leaves) × (vain ≤ 1)

-- a call of it failed, or it left
abbrev pub IsGone : ℕ → Account → Account → Type 0
IsGone vain entry now = HasFailed vain entry now ⊎ HasLeft vain entry now

-- a call of it may have found no memory: its faults did not fall, and it did not leave
abbrev pub MayBeShort : ℕ → Account → Account → Type 0
MayBeShort vain entry now = (entry.faults ≤ now.faults) × (now.leaves ≡ entry.leaves) × (vain ≤ 1)

-- ---- a side

-- A side's turns since it was in some state: the lines that the seat which sat there had heard already, how often its seats were
-- asked since, and the moves that they tried.
pub record Turns : Type 0 where
  pub known : List Line
  pub asks : ℕ
  pub tries : List Move

-- turns of a side that had heard these lines already
abbrev pub turns_since : List Line → ℕ → List Move → Turns
turns_since known asks tries = record { known = known; asks = asks; tries = tries }

-- the same since the call began, when no line was heard
abbrev pub turns_of : ℕ → List Move → Turns
turns_of asks tries = turns_since [] asks tries

-- the lines that a seat had heard already which came behind these: only the first seat had
abbrev pub known_behind : {X : Type 0} → List (Service X) → List Line → List Line
known_behind [] known = known
known_behind (s ∷ ss) known = []

-- a relieved seat heard a front part of the lines that it had not heard already, and failed or left
pub record IsRelieved {X : Type 0} (account : X → Account) (known lines : List Line) (s : Service X) : Type 0 where
  pub serves : IsService account s
  pub due : List Line
  pub heard : known ++ (s.heard ++ due) ≡ lines
  pub gone : IsGone s.vain (account s.entry) (account s.now)

-- each of them is a relieved seat
abbrev pub AreRelieved : {X : Type 0} → (X → Account) → List Line → List Line → List (Service X) → Type 0
AreRelieved account known lines [] = Unit {0}
AreRelieved account known lines (s ∷ ss) = IsRelieved account known lines s × AreRelieved account [] lines ss

-- What a side did since it was in some state, where these are its lines so far, of which its sitting seat has heard all but those
-- that are due, and these are its turns. The first seats of its list were relieved and stand in order at the end of its out
-- list, the next one sits, and all others are as they were. Counts is what the sitting seat's counts came to.
pub record Course {X : Type 0} (account : X → Account) (Counts : ℕ → Account → Account → Type 0)
    (entry now : Team X) (lines due : List Line) (turns : Turns) : Type 0 where
  pub relieved : List (Service X)
  pub sitting : Service X
  pub behind : List X
  pub seats_then : entry.seats ≡ map entry_of relieved ++ sitting.entry ∷ behind
  pub seats_now : now.seats ≡ sitting.now ∷ behind
  pub out_now : now.out ≡ entry.out ++ map now_of relieved
  pub are_relieved : AreRelieved account turns.known lines relieved
  pub serves : IsService account sitting
  pub heard : known_behind relieved turns.known ++ (sitting.heard ++ due) ≡ lines
  pub asked : all_asks relieved + asks_of sitting ≡ turns.asks
  pub said : flat_map said_of relieved ++ sitting.said ≡ turns.tries
  pub counts : Counts sitting.vain (account sitting.entry) (account sitting.now)

-- the same, where the sitting seat has heard some front part of the lines
abbrev pub BrokenCourse : {X : Type 0} → (X → Account) → (ℕ → Account → Account → Type 0) → Team X → Team X → List Line → Turns → Type 0
BrokenCourse account Counts entry now lines turns = (due : List Line) × Course account Counts entry now lines due turns
