-- What the calls of one side make of any course so far.
use Rattle.std.proofs.Common.{◌≡◌, ℕ, ◌+◌, ◌<◌, ◌≤◌, List, [], ◌∷◌, ◌++◌, length, refl, sym, ap, ◌∙◌, subst, inl, inr, arith, Result, Ok, Err, Option, Some, option_to_list}
use Rattle.std.proofs.lemmas.List.{append-nil}
use Rattle.krieg_play.proofs.Common.{one_more, Rose, Move, Line, Account, Asked, Told, Say, Try, Leave, SeatFault, Failed, Team, team, Turns, Stays, HasFailed, HasLeft, IsGone, MayBeShort, Course, ToldAll, BreaksOff, FirstChanges, AfterTelling, Relieves, Tells, once_more, one_try, AfterTurn, TakesTurn, EndsTurn, relieved_turn, AskOutcome, Tried}
use Rattle.krieg_seats.specs.declared.seat.SeatFault.TheVariants.{NoMemory}
use Rattle.krieg_play.proofs.Serving.{only_hears, tries_move, asked_in_vain}
use Rattle.krieg_play.proofs.Courses.{course_changes, course_moves, course_weakens}
use Rattle.krieg_play.proofs.Tellings.{one_told}

-- ---- counts that stayed, and then changed in one call, which asked it so often in vain

stays_on : (v : ℕ) (e a b : Account) → b.faults ≡ a.faults → b.leaves ≡ a.leaves → Stays v e a → Stays (v + 0) e b
stays_on v e a b f l h = (f ∙ h.0, l ∙ h.1, omega (arith, h.2))

fails_now : (vain v : ℕ) (e a b : Account) → vain ≤ 1 → Rose a.faults b.faults → b.leaves ≡ a.leaves → Stays v e a → HasFailed (v + vain) e b
fails_now vain v e a b few r l h = (subst (λ (n : ℕ). Rose n b.faults) h.0 r, l ∙ h.1, omega (arith, h.2, few))

leaves_now : (v : ℕ) (e a b : Account) → b.faults ≡ a.faults → Rose a.leaves b.leaves → Stays v e a → HasLeft (v + 1) e b
leaves_now v e a b f r h = (f ∙ h.0, subst (λ (n : ℕ). Rose n b.leaves) h.1 r, omega (arith, h.2))

runs_short : (vain v : ℕ) (e a b : Account) → vain ≤ 1 → a.faults ≤ b.faults → b.leaves ≡ a.leaves → Stays v e a → MayBeShort (v + vain) e b
runs_short vain v e a b few f l h = (subst (λ (n : ℕ). n ≤ b.faults) h.0 f, l ∙ h.1, omega (arith, h.2, few))

-- ---- the sitting seat told

-- it heard all of what was due
hears_all : {X : Type 0} (account : X → Account) {entry : Team X} {seats out seats' : List X} {lines heard : List Line} {turns : Turns} {R : X → X → Type 0} → (f : FirstChanges R seats seats') →
    account f.first' ≡ record (account f.first) { heard = (account f.first).heard ++ heard } →
    Course account Stays entry (team seats out) lines heard turns → Course account Stays entry (team seats' out) lines [] turns
hears_all account {heard = heard} {turns = turns} f e c =
    course_changes [] heard 0 c (sym (append-nil heard)) f
    (only_hears _ _ heard (ap (λ (a : Account). a.asks) e) (ap (λ (a : Account). a.said) e) (ap (λ (a : Account). a.heard) e))
    (λ v a h. stays_on v a (account f.first) (account f.first') (ap (λ (b : Account). b.faults) e) (ap (λ (b : Account). b.leaves) e) h)
    (omega arith) (append-nil turns.tries)

-- it heard a front part of what was due, and its counts are these
hears_some : {X : Type 0} (account : X → Account) {D : ℕ → Account → Account → Type 0} {entry : Team X} {seats out seats' : List X} {lines due : List Line} {turns : Turns} {R : X → X → Type 0} → (f : FirstChanges R seats seats') →
    (h : BreaksOff due (account f.first) (account f.first')) → ((v : ℕ) (a : Account) → Stays v a (account f.first) → D (v + 0) a (account f.first')) →
    Course account Stays entry (team seats out) lines due turns → Course account D entry (team seats' out) lines h.due turns
hears_some account {turns = turns} f h counts c =
    course_changes [] h.told 0 c (sym h.split) f
    (only_hears _ _ h.told (ap (λ (a : Account). a.asks) h.now_is) (ap (λ (a : Account). a.said) h.now_is) (ap (λ (a : Account). a.heard) h.now_is))
    counts (omega arith) (append-nil turns.tries)

told_after : {X : Type 0} (account : X → Account) (r : Result (Unit {0}) SeatFault) {entry : Team X} {seats out seats' : List X} {lines due : List Line} {turns : Turns} →
    FirstChanges (λ x y. ToldAll due r (account x) (account y)) seats seats' →
    Course account Stays entry (team seats out) lines due turns → AfterTelling account r entry (team seats' out) lines turns
told_after account (Ok x) f c = hears_all account f f.changes c
told_after account (Err Failed) f c =
    (f.changes.0.due, hears_some account f f.changes.0 (λ v a h. fails_now 0 v a (account f.first) (account f.first') (omega arith) f.changes.1 (ap (λ (b : Account). b.leaves) f.changes.0.now_is) h) c)
told_after account (Err NoMemory) f c =
    (f.changes.0.due, hears_some account f f.changes.0 (λ v a h. runs_short 0 v a (account f.first) (account f.first') (omega arith) f.changes.1 (ap (λ (b : Account). b.leaves) f.changes.0.now_is) h) c)

told_one : (line : Line) (r : Result (Unit {0}) SeatFault) (a b : Account) → Told line r a b → ToldAll (line ∷ []) r a b
told_one line (Ok x) a b h = h
told_one line (Err fault) a b h = one_told a b line fault h

pub tells : {X : Type 0} (account : X → Account) (r : Result (Unit {0}) SeatFault) (seats out seats' : List X) (lines : List Line) (line : Line) →
    FirstChanges (λ x y. Told line r (account x) (account y)) seats seats' → Tells account r (team seats out) (team seats' out) lines (line ∷ [])
tells account r seats out seats' lines line f entry turns c =
    told_after account r (record { first = f.first; first' = f.first'; behind = f.behind; then_is = f.then_is; now_is = f.now_is; changes = told_one line r (account f.first) (account f.first') f.changes }) c

pub tells_as : {X : Type 0} (account : X → Account) (r s : Result (Unit {0}) SeatFault) (before now : Team X) (lines due : List Line) → r ≡ s → Tells account r before now lines due → Tells account s before now lines due
tells_as account r s before now lines due e h = subst (λ (x : Result (Unit {0}) SeatFault). Tells account x before now lines due) e h

-- the seat that was told failed, and was relieved or not
pub tells_failed : {X : Type 0} (account : X → Account) (r s : Result (Unit {0}) SeatFault) (before middle now : Team X) (lines due : List Line) → r ≡ Err Failed →
    Tells account r before middle lines due → Relieves account HasFailed s middle now lines → Tells account s before now lines due
tells_failed account r s before middle now lines due e first second entry turns c =
    let fell = subst (λ (x : Result (Unit {0}) SeatFault). AfterTelling account x entry middle lines turns) e (first entry turns c) in
    second entry fell.0 turns fell.1

-- the line that is due, where there is one
pub tells_line : {X : Type 0} (account : X → Account) (r : Result (Unit {0}) SeatFault) (before now : Team X) (lines : List Line) (o : Option Line) (l : Line) → o ≡ Some l →
    Tells account r before now lines (l ∷ []) → Tells account r before now lines (option_to_list o)
tells_line account r before now lines o l e h = subst (λ (x : Option Line). Tells account r before now lines (option_to_list x)) (sym e) h

-- ---- a relief

-- the sitting seat was moved to the out list, and the next one told all lines
pub relieves_once : {X : Type 0} (account : X → Account) (r : Result (Unit {0}) SeatFault) (seats out seats' out' seats'' : List X) (lines : List Line) (first : X) →
    seats ≡ first ∷ seats' → out' ≡ out ++ first ∷ [] → 0 < length seats' → FirstChanges (λ x y. ToldAll lines r (account x) (account y)) seats' seats'' →
    Relieves account IsGone r (team seats out) (team seats'' out') lines
relieves_once account r seats out seats' out' seats'' lines first then_is out_is some f entry due turns c =
    told_after account r f (course_moves first seats' c (λ v a b h. h) then_is out_is some)

-- the next one failed as well
pub relieves_again : {X : Type 0} (account : X → Account) (r s : Result (Unit {0}) SeatFault) (before middle now : Team X) (lines : List Line) → r ≡ Err Failed →
    Relieves account IsGone r before middle lines → Relieves account IsGone s middle now lines → Relieves account IsGone s before now lines
relieves_again account r s before middle now lines failed first second entry due turns c =
    let fell = subst (λ (x : Result (Unit {0}) SeatFault). AfterTelling account x entry middle lines turns) failed (first entry due turns c) in
    second entry fell.0 turns (course_weakens (λ v a b h. inl h) fell.1)

pub relieves_failed : {X : Type 0} (account : X → Account) (r : Result (Unit {0}) SeatFault) (before now : Team X) (lines : List Line) →
    Relieves account IsGone r before now lines → Relieves account HasFailed r before now lines
relieves_failed account r before now lines h entry due turns c = h entry due turns (course_weakens (λ v a b k. inl k) c)

-- ---- the sitting seat asked

abbrev AfterAnswer : {X : Type 0} → (X → Account) → Result Say SeatFault → Team X → Team X → List Line → Turns → Type 0
AfterAnswer account (Ok (Try m)) entry now lines turns = Course account Stays entry now lines [] (one_try m turns)
AfterAnswer account (Ok Leave) entry now lines turns = Course account HasLeft entry now lines [] turns
AfterAnswer account (Err Failed) entry now lines turns = Course account HasFailed entry now lines [] turns
AfterAnswer account (Err NoMemory) entry now lines turns = Course account MayBeShort entry now lines [] turns

-- it said nothing
says_nothing : {X : Type 0} (account : X → Account) {D : ℕ → Account → Account → Type 0} {R : X → X → Type 0} {entry : Team X} {seats out seats' : List X} {lines : List Line} {turns : Turns} → (f : FirstChanges R seats seats') →
    (account f.first').asks ≡ one_more (account f.first).asks → (account f.first').said ≡ (account f.first).said → (account f.first').heard ≡ (account f.first).heard →
    ((v : ℕ) (a : Account) → Stays v a (account f.first) → D (v + 1) a (account f.first')) →
    Course account Stays entry (team seats out) lines [] turns → Course account D entry (team seats' out) lines [] (once_more turns)
says_nothing account {turns = turns} f asked says hears counts c =
    course_changes [] [] 1 c refl f
    (asked_in_vain _ _ asked says hears) counts (omega arith) (append-nil turns.tries)

answered : {X : Type 0} (account : X → Account) (r : Result Say SeatFault) {entry : Team X} {seats out seats' : List X} {lines : List Line} {turns : Turns} → FirstChanges (λ x y. Asked r (account x) (account y)) seats seats' →
    Course account Stays entry (team seats out) lines [] turns → AfterAnswer account r entry (team seats' out) lines (once_more turns)
answered account (Ok (Try m)) {turns = turns} f c =
    course_changes (m ∷ []) [] 0 c refl f
    (tries_move m _ _ f.changes)
    (λ v a h. stays_on v a (account f.first) (account f.first') (ap (λ (b : Account). b.faults) f.changes) (ap (λ (b : Account). b.leaves) f.changes) h) (omega arith) refl
answered account (Ok Leave) f c =
    says_nothing account f (ap (λ (a : Account). a.asks) f.changes.1) (ap (λ (a : Account). a.said) f.changes.1) (ap (λ (a : Account). a.heard) f.changes.1)
    (λ v a h. leaves_now v a (account f.first) (account f.first') (ap (λ (b : Account). b.faults) f.changes.1) f.changes.0 h) c
answered account (Err Failed) f c =
    says_nothing account f (ap (λ (a : Account). a.asks) f.changes.1) (ap (λ (a : Account). a.said) f.changes.1) (ap (λ (a : Account). a.heard) f.changes.1)
    (λ v a h. fails_now 1 v a (account f.first) (account f.first') (omega arith) f.changes.0 (ap (λ (b : Account). b.leaves) f.changes.1) h) c
answered account (Err NoMemory) f c =
    says_nothing account f (ap (λ (a : Account). a.asks) f.changes.1) (ap (λ (a : Account). a.said) f.changes.1) (ap (λ (a : Account). a.heard) f.changes.1)
    (λ v a h. runs_short 1 v a (account f.first) (account f.first') (omega arith) f.changes.0 (ap (λ (b : Account). b.leaves) f.changes.1) h) c

answered_as : {X : Type 0} (account : X → Account) (r s : Result Say SeatFault) {entry : Team X} {seats out seats' : List X} {lines : List Line} {turns : Turns} → FirstChanges (λ x y. Asked r (account x) (account y)) seats seats' → r ≡ s →
    Course account Stays entry (team seats out) lines [] turns → AfterAnswer account s entry (team seats' out) lines (once_more turns)
answered_as account r s {entry = entry} {out = out} {seats' = seats'} {lines = lines} {turns = turns} f e c =
    subst (λ (x : Result Say SeatFault). AfterAnswer account x entry (team seats' out) lines (once_more turns)) e (answered account r f c)

turned : {X : Type 0} (account : X → Account) (s : Result (Unit {0}) SeatFault) (entry now : Team X) (lines : List Line) (turns : Turns) → AfterTelling account s entry now lines turns → AfterTurn account (relieved_turn s) entry now lines turns
turned account (Ok x) entry now lines turns h = h
turned account (Err fault) entry now lines turns h = h

pub asks_try : {X : Type 0} (account : X → Account) (r : Result Say SeatFault) (m : Move) (seats out seats' : List X) (lines : List Line) → r ≡ Ok (Try m) →
    FirstChanges (λ x y. Asked r (account x) (account y)) seats seats' → TakesTurn account (Ok (Tried m)) (team seats out) (team seats' out) lines
asks_try account r m seats out seats' lines e f entry turns c = answered_as account r (Ok (Try m)) f e c

pub asks_short : {X : Type 0} (account : X → Account) (r : Result Say SeatFault) (seats out seats' : List X) (lines : List Line) → r ≡ Err NoMemory →
    FirstChanges (λ x y. Asked r (account x) (account y)) seats seats' → TakesTurn account (Err NoMemory) (team seats out) (team seats' out) lines
asks_short account r seats out seats' lines e f entry turns c = ([], answered_as account r (Err NoMemory) f e c)

pub asks_failed : {X : Type 0} (account : X → Account) (r : Result Say SeatFault) (s : Result (Unit {0}) SeatFault) (seats out seats' : List X) (now : Team X) (lines : List Line) → r ≡ Err Failed →
    FirstChanges (λ x y. Asked r (account x) (account y)) seats seats' → Relieves account HasFailed s (team seats' out) now lines → TakesTurn account (relieved_turn s) (team seats out) now lines
asks_failed account r s seats out seats' now lines e f relieved entry turns c =
    turned account s entry now lines (once_more turns) (relieved entry [] (once_more turns) (answered_as account r (Err Failed) f e c))

pub asks_leave : {X : Type 0} (account : X → Account) (r : Result Say SeatFault) (s : Result AskOutcome SeatFault) (seats out seats' : List X) (now : Team X) (lines : List Line) → r ≡ Ok Leave →
    FirstChanges (λ x y. Asked r (account x) (account y)) seats seats' → EndsTurn account s (team seats' out) now lines → TakesTurn account s (team seats out) now lines
asks_leave account r s seats out seats' now lines e f takes entry turns c = takes entry (once_more turns) (answered_as account r (Ok Leave) f e c)

-- the seat that left was relieved
pub leaves : {X : Type 0} (account : X → Account) (s : Result (Unit {0}) SeatFault) (before now : Team X) (lines : List Line) →
    Relieves account IsGone s before now lines → EndsTurn account (relieved_turn s) before now lines
leaves account s before now lines h entry turns c = turned account s entry now lines turns (h entry [] turns (course_weakens (λ v a b k. inr k) c))

pub takes_as : {X : Type 0} (account : X → Account) (r s : Result AskOutcome SeatFault) (before now : Team X) (lines : List Line) → r ≡ s → TakesTurn account s before now lines → TakesTurn account r before now lines
takes_as account r s before now lines e h = subst (λ (x : Result AskOutcome SeatFault). TakesTurn account x before now lines) (sym e) h

pub ends_as : {X : Type 0} (account : X → Account) (r s : Result AskOutcome SeatFault) (before now : Team X) (lines : List Line) → r ≡ s → EndsTurn account s before now lines → EndsTurn account r before now lines
ends_as account r s before now lines e h = subst (λ (x : Result AskOutcome SeatFault). EndsTurn account x before now lines) (sym e) h
