-- The sets on the way are the possible positions of the sheet's prefixes.
use Rattle.std.proofs.Common.{◌≡◌, ℕ, zero, suc, ◌<◌, ◌≤◌, Bool, true, false, List, [], ◌∷◌, take, length, Option, Some, None, Result, Ok, Err, refl, sym, ap, subst, arith}
use Rattle.std.specs.Prelude.{IfOk, IfErr, OnOk, nat_le, if◌then◌else◌}
use Rattle.std.proofs.lemmas.Bool.{and_parts}
use Rattle.std.proofs.lemmas.Bool.Decides.{nat_tests}
use Rattle.std.proofs.lemmas.List.{take_all}
use Rattle.krieg_belief.proofs.Common.{is_same_side, Pos, Side, Said, opening, told, Dialect, Line, Opens, Illegal, Done, Heard, Early, Over, MOST_LISTED, SheetState, may_stand, turn_after, over_after, are_in_place, list_fault, differs, other_hand, Count, IsSheet, OpensWith, In, IsAscending, set_of, has_opening, nexts, run, after_opening, IsPossible, HaveOneHand, Within, prefix, list_line, line_of, IsFirstExcess, IsStop, AllWithin, stopped, IsLateStop, StepStop, BeliefStop}
use Rattle.krieg_sheet.proofs.OneHand.{one_hand}
use Rattle.krieg_theory.proofs.Lists.{in_flat, flat_in}
use Rattle.krieg_pack.proofs.Membership.{contains_in, in_contains}
use Rattle.krieg_pack.proofs.PositionSets.{set_ascending, in_set, set_in, same_members}
use Rattle.krieg_belief.specs.declared.steps.StepStop.TheVariants as steps
use Rattle.krieg_belief.specs.declared.beliefs.BeliefStop.TheVariants as stops
use Rattle.krieg_belief.proofs.HiddenGames.{same_words, words_same, in_cond, cond_in, IsEntry, AreEntries, run_has, has_run}
use Rattle.krieg_belief.proofs.Runs.{run_ascending}

-- the entries of a sheet are not opening words
standing : (mine over : Bool) (l : Line) → may_stand mine over l ≡ true → IsEntry l
standing mine over (Opens w) h = absurd cc
standing mine over (Illegal m) h = tt
standing mine over (Done m w) h = tt
standing mine over (Heard w) h = tt
standing mine over (Early m) h = tt
standing mine over (Over m) h = tt

pub in_place : (who turn : Side) (over : Bool) (ls : List Line) → are_in_place who turn over ls ≡ true → AreEntries ls
in_place who turn over [] h = tt
in_place who turn over (l ∷ ls) h =
    let a = and_parts (may_stand (is_same_side turn who) over l) (are_in_place who (turn_after turn l) (over_after over l) ls) h in
    (standing (is_same_side turn who) over l a.0, in_place who (turn_after turn l) (over_after over l) ls a.1)

some_entries : (n : ℕ) (ls : List Line) → AreEntries ls → AreEntries (take n ls)
some_entries zero ls h = tt
some_entries (suc n) [] h = tt
some_entries (suc n) (l ∷ ls) h = (h.0, some_entries n ls h.1)

-- the positions with the opening words
in_after_opening : (d : Dialect) (who : Side) (o : Option Said) (ps : List Pos) (p : Pos) → In p ps → OpensWith d o p → In p (after_opening d who o ps)
in_after_opening d who None ps p i h = i
in_after_opening d who (Some w) ps p i h = in_set p _ (in_flat (nexts d who (Opens w)) ps p p i (cond_in (has_opening d w p) p (words_same w (told d (opening p)) (sym h))))

after_opening_in : (d : Dialect) (who : Side) (o : Option Said) (ps : List Pos) (p : Pos) → In p (after_opening d who o ps) → In p ps × OpensWith d o p
after_opening_in d who None ps p i = (i, tt)
after_opening_in d who (Some w) ps p i =
    let f = flat_in (nexts d who (Opens w)) ps p (set_in p _ i) in
    let c = in_cond (has_opening d w f.0) f.0 p f.2 in
    (subst (λ (x : Pos). In x ps) c.1 f.1, subst (λ (x : Pos). told d (opening x) ≡ w) c.1 (sym (same_words w (told d (opening f.0)) c.0)))

after_opening_ascending : (d : Dialect) (who : Side) (o : Option Said) (ps : List Pos) → IsAscending ps → IsAscending (after_opening d who o ps)
after_opening_ascending d who None ps up = up
after_opening_ascending d who (Some w) ps up = set_ascending _

-- the set from which the entries go on
abbrev pub begun : SheetState → List Pos
begun s = after_opening s.dialect s.side s.opens (set_of s.list)

-- the set after the first entries
abbrev pub behind_entries : SheetState → ℕ → List Pos
behind_entries s n = run s.dialect s.side (take n s.entries) (begun s)

pub possible_list : (s : SheetState) → IsPossible (prefix s 0) (set_of s.list)
possible_list s = record {
  ascending = set_ascending s.list;
  exact = λ q. (
    λ i. record { start = q; replies = []; is_listed = in_contains q s.list (set_in q s.list i); opens = tt; gives = (refl, refl) },
    λ c. in_set q s.list (contains_in q s.list (subst (λ (p : Pos). Rattle.std.specs.List.Contains s.list p) (sym c.gives.1) c.is_listed)),
  );
}

pub possible_behind : (s : SheetState) → IsSheet s → (n : ℕ) → IsPossible (prefix s (suc n)) (behind_entries s n)
possible_behind s sheet n =
    let d = s.dialect in
    let who = s.side in
    let ls = take n s.entries in
    let entries : AreEntries ls = some_entries n s.entries (in_place _ _ _ s.entries sheet.in_place) in
    record {
      ascending = run_ascending d who ls (begun s) (after_opening_ascending d who s.opens (set_of s.list) (set_ascending s.list));
      exact = λ q. (
        λ i.
            let r = has_run d who ls (begun s) q entries i in
            let o = after_opening_in d who s.opens (set_of s.list) r.0 r.1 in
            record { start = r.0; replies = r.2.0; is_listed = in_contains r.0 s.list (set_in r.0 s.list o.0); opens = o.1; gives = r.2.1 },
        λ c. run_has d who ls (begun s) c.start q (in_after_opening d who s.opens (set_of s.list) c.start (in_set c.start s.list (contains_in c.start s.list c.is_listed)) c.opens) (c.replies, c.gives),
      );
    }

pub possible_all : (s : SheetState) → IsSheet s → IsPossible s (run s.dialect s.side s.entries (begun s))
possible_all s sheet =
    subst (λ (ls : List Line). IsPossible (record { dialect = s.dialect; side = s.side; list = s.list; opens = s.opens; entries = ls }) (run s.dialect s.side ls (begun s)))
    (take_all (length s.entries) s.entries (omega arith)) (possible_behind s sheet (length s.entries))

pub possible_hand : (s : SheetState) (ps : List Pos) → IsSheet s → IsPossible s ps → HaveOneHand s.side ps
possible_hand s ps sheet h p q i k = one_hand s sheet p q ((h.exact p).0 i) ((h.exact q).0 k)

-- the list alone is too much
pub list_exceeds : (s : SheetState) (limit line : ℕ) (ps : List Pos) → ps ≡ set_of s.list → limit < length ps → line ≡ list_line s → IsFirstExcess s limit line
list_exceeds s limit line ps is over at = record {
  place = 0;
  in_sheet = omega arith;
  exceeds = (set_of s.list, possible_list s, subst (λ (xs : List Pos). limit < length xs) is over);
  before = λ n lt. absurd (omega arith);
  line_is = at;
}

within_list : (s : SheetState) (limit : ℕ) → length (set_of s.list) ≤ limit → Within limit (prefix s 0)
within_list s limit fits = (set_of s.list, possible_list s, fits)

-- the list with the opening words is too much
pub opening_exceeds : (s : SheetState) (limit line : ℕ) (stop : StepStop) (r : BeliefStop) → IsSheet s → length (set_of s.list) ≤ limit → (stop ≡ steps.TooMany → limit < length (begun s)) →
    line ≡ line_of s 1 → r ≡ stopped stop line → IsStop s limit r
opening_exceeds s limit line steps.TooMany r sheet fits over at is = subst (IsStop s limit) (sym is) (record {
  place = 1;
  in_sheet = omega arith;
  exceeds = (behind_entries s 0, possible_behind s sheet 0, over refl);
  before = before;
  line_is = at;
})
  where
    before : (n : ℕ) → n < 1 → Within limit (prefix s n)
    before zero lt = within_list s limit fits
    before (suc n) lt = absurd (omega arith)
opening_exceeds s limit line steps.NoMemory r sheet fits over at is = subst (IsStop s limit) (sym is) tt

-- an entry makes it too much
pub entry_exceeds : (s : SheetState) (limit behind : ℕ) (r : BeliefStop) → IsSheet s → length (set_of s.list) ≤ limit → behind ≡ line_of s 1 →
    IsLateStop s.dialect s.side s.entries (begun s) limit behind r → IsStop s limit r
entry_exceeds s limit behind stops.NoMemory sheet fits at late = tt
entry_exceeds s limit behind (stops.TooMany line) sheet fits at late = record {
  place = suc late.place;
  in_sheet = let h = late.in_lines in omega arith;
  exceeds = (behind_entries s late.place, possible_behind s sheet late.place, late.exceeds);
  before = before;
  line_is = let a = late.line_is in omega (arith, a, at);
}
  where
    before : (n : ℕ) → n < suc late.place → Within limit (prefix s n)
    before zero lt = within_list s limit fits
    before (suc n) lt = (behind_entries s n, possible_behind s sheet n, late.before n (omega arith))

pub all_within : (s : SheetState) (limit : ℕ) → IsSheet s → length (set_of s.list) ≤ limit → ((n : ℕ) → n ≤ length s.entries → length (behind_entries s n) ≤ limit) → AllWithin limit s
all_within s limit sheet fits within zero le = within_list s limit fits
all_within s limit sheet fits within (suc n) le = (behind_entries s n, possible_behind s sheet n, within n (omega arith))

-- a sheet lists no more positions than a text may
listed_le : (who : Side) (ps : List Pos) → list_fault who ps ≡ None → length ps ≤ MOST_LISTED
listed_le who [] h = absurd cc
listed_le who (p ∷ ps) h = go (nat_le (length (p ∷ ps)) MOST_LISTED) refl h
  where
    go : (b : Bool) → nat_le (length (p ∷ ps)) MOST_LISTED ≡ b → (if b then differs (other_hand who p 1 ps) else Some Count) ≡ None → length (p ∷ ps) ≤ MOST_LISTED
    go true e h = grind (arith, nat_tests)
    go false e h = absurd cc

-- a sheet has one list of possible positions
same_possible : (s : SheetState) (ps qs : List Pos) → IsPossible s ps → IsPossible s qs → ps ≡ qs
same_possible s ps qs p q = same_members ps qs p.ascending q.ascending (λ x i. (q.exact x).1 ((p.exact x).0 i)) (λ x i. (p.exact x).1 ((q.exact x).0 i))

-- so more positions than the limit are not within it
pub excess_not_within : (s : SheetState) (limit line : ℕ) → IsFirstExcess s limit line → AllWithin limit s → ⊥
excess_not_within s limit line excess within =
    let more = excess.exceeds in
    let few = within excess.place excess.in_sheet in
    let same = same_possible (prefix s excess.place) more.0 few.0 more.1 few.1 in
    absurd (omega (arith, more.2, few.2, ap (λ (ps : List Pos). length ps) same))

-- what is possible before the entries is where they go on from
pub starts_are : (s : SheetState) (ps : List Pos) → IsSheet s → IsPossible (prefix s 1) ps → ps ≡ begun s
starts_are s ps sheet h = same_possible (prefix s 1) ps (begun s) h (possible_behind s sheet 0)

pub starts_within : (s : SheetState) (limit : ℕ) → IsSheet s → length (set_of s.list) ≤ limit → length (begun s) ≤ limit → AllWithin limit (prefix s 1)
starts_within s limit sheet listed fits zero le = within_list s limit listed
starts_within s limit sheet listed fits (suc zero) le = (begun s, possible_behind s sheet 0, fits)
starts_within s limit sheet listed fits (suc (suc n)) le = absurd (let h : suc (suc n) ≤ 1 = le in omega (arith, h))

-- there are no more listed positions, and no more of these with the opening words
pub listed_fit : (s : SheetState) (limit : ℕ) → AllWithin limit (prefix s 1) → length (set_of s.list) ≤ limit
listed_fit s limit within =
    let few = within 0 (omega arith) in
    subst (λ (ps : List Pos). length ps ≤ limit) (same_possible (prefix s 0) few.0 (set_of s.list) few.1 (possible_list s)) few.2

pub starts_fit : (s : SheetState) (limit : ℕ) → IsSheet s → AllWithin limit (prefix s 1) → length (begun s) ≤ limit
starts_fit s limit sheet within =
    let few = within 1 (omega arith) in
    subst (λ (ps : List Pos). length ps ≤ limit) (same_possible (prefix s 1) few.0 (begun s) few.1 (possible_behind s sheet 0)) few.2

pub sheet_le : (s : SheetState) → IsSheet s → length s.list ≤ MOST_LISTED
sheet_le s sheet = listed_le s.side s.list sheet.listed

module _ {A E : Type 0} where
  pub if_ok : (P Q : A → Type 0) (r : Result A E) → ((a : A) → P a → Q a) → IfOk r P → IfOk r Q
  if_ok P Q (Ok a) f h = f a h
  if_ok P Q (Err e) f h = tt

  pub if_err : (P Q : E → Type 0) (r : Result A E) → ((e : E) → P e → Q e) → IfErr r P → IfErr r Q
  if_err P Q (Ok a) f h = tt
  if_err P Q (Err e) f h = f e h

  pub on_ok : (P Q : Type 0) (r : Result A E) → (P → Q) → OnOk r P → OnOk r Q
  on_ok P Q (Ok a) f h = f h
  on_ok P Q (Err e) f h = tt
