-- The steps by which the course of a side goes on.
use Rattle.std.proofs.Common.{◌≡◌, ℕ, ◌+◌, ◌<◌, List, [], ◌∷◌, ◌++◌, length, length-append, map, refl, sym, ap, ◌∙◌, subst, append_assoc, arith}
use Rattle.std.proofs.lemmas.List.{append-nil, length-map}
use Rattle.std.specs.List.{flat_map}
use Rattle.krieg_play.proofs.Common.{Move, Line, Account, Team, team, Service, entry_of, now_of, asks_of, all_asks, said_of, Serves, IsService, IsRelieved, AreRelieved, IsGone, Turns, turns_since, known_behind, Stays, Course, Sides, relieved, all_relieved, seat_count, FirstChanges}
use Rattle.krieg_play.proofs.Serving.{serves_none, serves_more}

own_service : {X : Type 0} (account : X → Account) (x : X) → IsService account (record { entry = x; now = x; said = []; heard = []; vain = 0 })
own_service account x = serves_none (account x)

-- in the state that it starts from a side has done nothing yet
pub course_starts : {X : Type 0} (account : X → Account) (seats out : List X) (known due : List Line) → 0 < length seats →
    Course account Stays (team seats out) (team seats out) (known ++ due) due (turns_since known 0 [])
course_starts account [] out known due h = absurd (omega arith)
course_starts account (x ∷ xs) out known due h = record {
  relieved = [];
  sitting = record { entry = x; now = x; said = []; heard = []; vain = 0 };
  behind = xs;
  seats_then = refl;
  seats_now = refl;
  out_now = sym (append-nil out);
  are_relieved = tt;
  serves = own_service account x;
  heard = refl;
  asked = refl;
  said = refl;
  counts = (refl, refl, refl);
}

-- more lines are due
more_due : (known heard due more lines : List Line) → known ++ (heard ++ due) ≡ lines → known ++ (heard ++ (due ++ more)) ≡ lines ++ more
more_due known heard due more lines h =
    ap (λ (ls : List Line). known ++ ls) (sym (append_assoc heard due more)) ∙ (sym (append_assoc known (heard ++ due) more) ∙ ap (λ (ls : List Line). ls ++ more) h)

-- what a relieved seat heard is still a front part
relieved_still : {X : Type 0} (account : X → Account) (known lines more : List Line) (ss : List (Service X)) → AreRelieved account known lines ss → AreRelieved account known (lines ++ more) ss
relieved_still account known lines more [] h = tt
relieved_still account known lines more (s ∷ ss) h = (
  record { serves = h.0.serves; due = h.0.due ++ more; heard = more_due known s.heard h.0.due more lines h.0.heard; gone = h.0.gone },
  relieved_still account [] lines more ss h.1,
)

pub course_grows : {X : Type 0} {account : X → Account} {C : ℕ → Account → Account → Type 0} {entry now : Team X} {lines due : List Line} {turns : Turns} (more : List Line) →
    Course account C entry now lines due turns → Course account C entry now (lines ++ more) (due ++ more) turns
course_grows {account = account} {lines = lines} {due = due} {turns = turns} more c = record {
  relieved = c.relieved;
  sitting = c.sitting;
  behind = c.behind;
  seats_then = c.seats_then;
  seats_now = c.seats_now;
  out_now = c.out_now;
  are_relieved = relieved_still account turns.known lines more c.relieved c.are_relieved;
  serves = c.serves;
  heard = more_due (known_behind c.relieved turns.known) c.sitting.heard due more lines c.heard;
  asked = c.asked;
  said = c.said;
  counts = c.counts;
}

same_head : {X : Type 0} (x y : X) (xs ys : List X) → x ∷ xs ≡ y ∷ ys → x ≡ y
same_head x y xs ys e = cc

same_tail : {X : Type 0} (x y : X) (xs ys : List X) → x ∷ xs ≡ y ∷ ys → xs ≡ ys
same_tail x y xs ys e = cc

-- the sitting seat said and heard more, was asked so often more, and its counts changed
pub course_changes : {X : Type 0} {account : X → Account} {C D : ℕ → Account → Account → Type 0} {R : X → X → Type 0} {entry : Team X} {seats out seats' : List X} {lines due due' : List Line} {turns : Turns} {asks : ℕ} {tries : List Move}
    (said : List Move) (heard : List Line) (vain : ℕ) →
    Course account C entry (team seats out) lines due turns → due ≡ heard ++ due' → (f : FirstChanges R seats seats') → Serves said heard vain (account f.first) (account f.first') →
    ((v : ℕ) (a : Account) → C v a (account f.first) → D (v + vain) a (account f.first')) → length said + vain + turns.asks ≡ asks → turns.tries ++ said ≡ tries →
    Course account D entry (team seats' out) lines due' (turns_since turns.known asks tries)
course_changes {X = X} {account = account} {C = C} {due' = due'} {turns = turns} said heard vain c dues f serves counts more all =
    let first_is : c.sitting.now ≡ f.first = same_head _ _ _ _ (sym c.seats_now ∙ f.then_is) in
    let behind_is : c.behind ≡ f.behind = same_tail _ _ _ _ (sym c.seats_now ∙ f.then_is) in
    let says : length (c.sitting.said ++ said) ≡ length c.sitting.said + length said = length-append c.sitting.said said in
    record {
      relieved = c.relieved;
      sitting = record { entry = c.sitting.entry; now = f.first'; said = c.sitting.said ++ said; heard = c.sitting.heard ++ heard; vain = c.sitting.vain + vain };
      behind = c.behind;
      seats_then = c.seats_then;
      seats_now = f.now_is ∙ ap (λ (xs : List X). f.first' ∷ xs) (sym behind_is);
      out_now = c.out_now;
      are_relieved = c.are_relieved;
      serves = serves_more _ _ _ _ _ _ _ _ _ c.serves (subst (λ (x : X). Serves said heard vain (account x) (account f.first')) (sym first_is) serves);
      heard = ap (λ (ls : List Line). known_behind c.relieved turns.known ++ ls) (append_assoc c.sitting.heard heard due' ∙ ap (λ (ls : List Line). c.sitting.heard ++ ls) (sym dues)) ∙ c.heard;
      asked = omega (arith, c.asked, more, says);
      said = sym (append_assoc (flat_map said_of c.relieved) c.sitting.said said) ∙ (ap (λ (ms : List Move). ms ++ said) c.said ∙ all);
      counts = counts c.sitting.vain (account c.sitting.entry) (subst (λ (x : X). C c.sitting.vain (account c.sitting.entry) (account x)) first_is c.counts);
    }

-- the sitting seat is moved to the end of the out list, and the next one sits
map_end : {X Y : Type 0} (f : X → Y) (xs : List X) (x : X) (ys : List Y) → map f (xs ++ x ∷ []) ++ ys ≡ map f xs ++ f x ∷ ys
map_end f [] x ys = refl
map_end {X} {Y} f (z ∷ zs) x ys = ap (λ (t : List Y). f z ∷ t) (map_end f zs x ys)

said_end : {X : Type 0} (ss : List (Service X)) (s : Service X) → flat_map said_of (ss ++ s ∷ []) ++ [] ≡ flat_map said_of ss ++ s.said
said_end [] s = append-nil (s.said ++ []) ∙ append-nil s.said
said_end (z ∷ zs) s = append_assoc z.said (flat_map said_of (zs ++ s ∷ [])) [] ∙ (ap (λ (t : List Move). z.said ++ t) (said_end zs s) ∙ sym (append_assoc z.said (flat_map said_of zs) s.said))

asks_end : {X : Type 0} (ss : List (Service X)) (s : Service X) → all_asks (ss ++ s ∷ []) + 0 ≡ all_asks ss + asks_of s
asks_end [] s = omega arith
asks_end (z ∷ zs) s = let h = asks_end zs s in omega (arith, h)

-- no seat but the first had heard lines already
none_known : {X : Type 0} (ss : List (Service X)) → known_behind ss [] ≡ []
none_known [] = refl
none_known (s ∷ ss) = refl

none_known_behind : {X : Type 0} (ss : List (Service X)) (s : Service X) (known : List Line) → known_behind (ss ++ s ∷ []) known ≡ []
none_known_behind [] s known = refl
none_known_behind (z ∷ ss) s known = refl

relieved_too : {X : Type 0} (account : X → Account) (known lines : List Line) (ss : List (Service X)) (s : Service X) → AreRelieved account known lines ss →
    IsRelieved account (known_behind ss known) lines s → AreRelieved account known lines (ss ++ s ∷ [])
relieved_too account known lines [] s h i = (i, tt)
relieved_too account known lines (z ∷ ss) s h i =
    (h.0, relieved_too account [] lines ss s h.1 (subst (λ (ks : List Line). IsRelieved account ks lines s) (sym (none_known ss)) i))

pub course_moves : {X : Type 0} {account : X → Account} {C : ℕ → Account → Account → Type 0} {entry : Team X} {seats out out' : List X} {lines due : List Line} {turns : Turns} (first : X) (seats' : List X) →
    Course account C entry (team seats out) lines due turns → ((v : ℕ) (a b : Account) → C v a b → IsGone v a b) →
    seats ≡ first ∷ seats' → out' ≡ out ++ first ∷ [] → 0 < length seats' →
    Course account Stays entry (team seats' out') lines lines turns
course_moves first [] c gone then_is out_is h = absurd (omega arith)
course_moves {X = X} {account = account} {entry = entry} {lines = lines} {due = due} {turns = turns} first (next ∷ rest) c gone then_is out_is h =
    let first_is : c.sitting.now ≡ first = same_head _ _ _ _ (sym c.seats_now ∙ then_is) in
    let behind_is : c.behind ≡ next ∷ rest = same_tail _ _ _ _ (sym c.seats_now ∙ then_is) in
    record {
      relieved = c.relieved ++ c.sitting ∷ [];
      sitting = record { entry = next; now = next; said = []; heard = []; vain = 0 };
      behind = rest;
      seats_then = c.seats_then ∙ (ap (λ (xs : List X). map entry_of c.relieved ++ c.sitting.entry ∷ xs) behind_is ∙ sym (map_end entry_of c.relieved c.sitting (next ∷ rest)));
      seats_now = refl;
      out_now = out_is ∙ (ap (λ (xs : List X). xs ++ first ∷ []) c.out_now ∙ (append_assoc entry.out (map now_of c.relieved) (first ∷ [])
          ∙ ap (λ (xs : List X). entry.out ++ xs) (ap (λ (x : X). map now_of c.relieved ++ x ∷ []) (sym first_is) ∙ (sym (map_end now_of c.relieved c.sitting []) ∙ append-nil (map now_of (c.relieved ++ c.sitting ∷ []))))));
      are_relieved = relieved_too account turns.known lines c.relieved c.sitting c.are_relieved (record { serves = c.serves; due = due; heard = c.heard; gone = gone _ _ _ c.counts });
      serves = own_service account next;
      heard = ap (λ (ls : List Line). ls ++ lines) (none_known_behind c.relieved c.sitting turns.known);
      asked = asks_end c.relieved c.sitting ∙ c.asked;
      said = said_end c.relieved c.sitting ∙ c.said;
      counts = (refl, refl, refl);
    }

-- the counts meet a weaker condition
pub course_weakens : {X : Type 0} {account : X → Account} {C D : ℕ → Account → Account → Type 0} {entry now : Team X} {lines due : List Line} {turns : Turns} →
    ((v : ℕ) (a b : Account) → C v a b → D v a b) → Course account C entry now lines due turns → Course account D entry now lines due turns
course_weakens {account = account} weaker c = record {
  relieved = c.relieved;
  sitting = c.sitting;
  behind = c.behind;
  seats_then = c.seats_then;
  seats_now = c.seats_now;
  out_now = c.out_now;
  are_relieved = c.are_relieved;
  serves = c.serves;
  heard = c.heard;
  asked = c.asked;
  said = c.said;
  counts = weaker c.sitting.vain (account c.sitting.entry) (account c.sitting.now) c.counts;
}

-- the seats on entry are the relieved ones and those that are left
pub course_counts : {X : Type 0} {account : X → Account} {C : ℕ → Account → Account → Type 0} {entry now : Team X} {lines due : List Line} {turns : Turns} →
    Course account C entry now lines due turns → length entry.seats ≡ relieved entry now + length now.seats
course_counts {entry = entry} {now = now} c =
    let a : length entry.seats ≡ length (map entry_of c.relieved) + length (c.sitting.entry ∷ c.behind) = ap length c.seats_then ∙ length-append (map entry_of c.relieved) (c.sitting.entry ∷ c.behind) in
    let b : length now.out ≡ length entry.out + length (map now_of c.relieved) = ap length c.out_now ∙ length-append entry.out (map now_of c.relieved) in
    let d : length now.seats ≡ length (c.sitting.now ∷ c.behind) = ap length c.seats_now in
    let e : length (map entry_of c.relieved) ≡ length c.relieved = length-map c.relieved entry_of in
    let f : length (map now_of c.relieved) ≡ length c.relieved = length-map c.relieved now_of in
    omega (arith, a, b, d, e, f)

-- one seat sits
pub seated : {X : Type 0} {account : X → Account} {C : ℕ → Account → Account → Type 0} {entry now : Team X} {lines due : List Line} {turns : Turns} →
    Course account C entry now lines due turns → 0 < length now.seats
seated c = let some = ap length c.seats_now in omega (arith, some)

pub both_counted : {X : Type 0} {account : X → Account} {C D : ℕ → Account → Account → Type 0} {entry now : Sides X} {lines lines' due due' : List Line} {turns turns' : Turns} →
    Course account C entry.white now.white lines due turns → Course account D entry.black now.black lines' due' turns' → seat_count entry ≡ all_relieved entry now + seat_count now
both_counted c d = omega (arith, course_counts c, course_counts d)
