-- One stretch of the search behind another, over the table in which sets have numbers.
use Rattle.std.proofs.Common.{Bool, ◌≡◌, ℕ, ◌+◌, ◌≤◌, ◌<◌, true, List, length, Result, Ok, Err, refl, sym, subst, ◌∙◌, arith}
use Rattle.std.specs.Prelude.{OnOk}
use Rattle.std.specs.Result.{IsErrAnd}
use Rattle.krieg_search.proofs.Common.{Pos, Move, Dialect, Entries, IsStretch, FallsShort, chess, SetRows, entries, IsMore, SearchStop, Large, IsNumbered, IsReady, IsSearched, Stretches}
use Rattle.krieg_accounts.proofs.Stretches.{stretch_of_nothing, stretch_of_split, stretch_of_cut, stretch_then, short_then, stretch_cost, short_cost}
use Rattle.krieg_search.specs.declared.stop.SearchStop.TheVariants.{Spent, NoMemory}

pub more_itself : (T : SetRows) → IsMore T T
more_itself T = record { longer = omega arith; same = λ k h. refl }

pub more_then : (T0 T1 T2 : SetRows) → IsMore T0 T1 → IsMore T1 T2 → IsMore T0 T2
more_then T0 T1 T2 a b = record { longer = (let x = a.longer in let y = b.longer in omega arith); same = λ k h. (let x = a.longer in b.same k (omega arith) ∙ a.same k h) }

-- a number of a set stays one
pub still_within : {T T' : SetRows} (k : ℕ) → IsMore T T' → k < length T → k < length T'
still_within k m w = let l = m.longer in omega arith

module _ (d : Dialect) (cut : Bool) where
  pub ready_from : {Q : List (List Pos × ℕ) → Type 0} {a : ℕ} {T T' : SetRows} {u0 u1 : ℕ} → IsSearched d cut Q a T T' u0 u1 → IsReady d cut T'
  ready_from s = record { counted = s.counted; sound = s.stretch.sound }

  pub searched_nothing : (Q : List (List Pos × ℕ) → Type 0) (T : SetRows) (u : ℕ) → IsReady d cut T → IsSearched d cut Q 0 T T u u
  searched_nothing Q T u r = record { counted = r.counted; more = more_itself T; stretch = stretch_of_nothing (chess d) cut Q (entries T) u r.sound }

  pub searched_split : (Q : List (List Pos × ℕ) → Type 0) (T : SetRows) (m had has : ℕ) → IsReady d cut T → has + m ≡ had → IsSearched d cut Q m T T had has
  searched_split Q T m had has r e = record { counted = r.counted; more = more_itself T; stretch = stretch_of_split (chess d) cut Q (entries T) m had has r.sound e }

  pub searched_cut : (Q : List (List Pos × ℕ) → Type 0) (T : SetRows) (m u : ℕ) → cut ≡ true → IsReady d cut T → IsSearched d cut Q m T T u u
  searched_cut Q T m u may r = record { counted = r.counted; more = more_itself T; stretch = stretch_of_cut (chess d) cut Q (entries T) m u may r.sound }

  pub searched_then : (Q Q' : List (List Pos × ℕ) → Type 0) (a b all : ℕ) (T0 T1 T2 : SetRows) (u0 u1 u2 : ℕ) → ((R : List (List Pos × ℕ)) → Q R → Q' R) → IsSearched d cut Q a T0 T1 u0 u1 → a + b ≡ all → IsSearched d cut Q' b T1 T2 u1 u2 → IsSearched d cut Q all T0 T2 u0 u2
  searched_then Q Q' a b all T0 T1 T2 u0 u1 u2 f s e t = record {
    counted = t.counted;
    more = more_then T0 T1 T2 s.more t.more;
    stretch = stretch_cost (chess d) cut Q (a + b) all (entries T0) (entries T2) u0 u2 e (stretch_then (chess d) cut Q Q' a b (entries T0) (entries T1) (entries T2) u0 u1 u2 f s.stretch t.stretch);
  }

  -- a set is given its number
  pub searched_number : {Q : List (List Pos × ℕ) → Type 0} {a : ℕ} {T0 T1 T2 : SetRows} {B : List Pos} {set u0 u1 : ℕ} → IsSearched d cut Q a T0 T1 u0 u1 → IsNumbered T1 T2 B set → IsSearched d cut Q a T0 T2 u0 u1
  searched_number {Q = Q} {a = a} {T0 = T0} {T1 = T1} {T2 = T2} {u0 = u0} {u1 = u1} s n = record {
    counted = n.counted;
    more = more_then T0 T1 T2 s.more n.interned.more;
    stretch = subst (λ (E : Entries Pos Move). IsStretch (chess d) cut Q a (entries T0) E u0 u1) (sym n.interned.noted) s.stretch;
  }

  pub short_behind : (Q Q' : List (List Pos × ℕ) → Type 0) (a b all : ℕ) (T0 T1 : SetRows) (u0 u1 : ℕ) → ((R : List (List Pos × ℕ)) → Q R → Q' R) → IsSearched d cut Q a T0 T1 u0 u1 → a + b ≤ all → FallsShort (chess d) Q' b (entries T1) u1 → FallsShort (chess d) Q all (entries T0) u0
  short_behind Q Q' a b all T0 T1 u0 u1 f s h v = short_cost (chess d) Q (a + b) all (entries T0) u0 h (short_then (chess d) cut Q Q' a b (entries T0) (entries T1) u0 u1 f s.stretch v)

  -- a step was stopped, behind others
  pub stopped : {A B : Type 0} {P : SearchStop → Type 0} (r : Result B SearchStop) (e : SearchStop) (holds : A → Type 0) (wanted : B → Type 0) {Q Q' : List (List Pos × ℕ) → Type 0} {a : ℕ} (b : ℕ)
      → ((x : SearchStop) → P x → e ≡ x) → IsErrAnd r P → {all : ℕ} {T0 T1 : SetRows} (T2 T3 : SetRows) {u0 u1 : ℕ} (u2 : ℕ) → ((R : List (List Pos × ℕ)) → Q R → Q' R) → IsSearched d cut Q a T0 T1 u0 u1 → a + b ≤ all → Stretches d cut (Err e) holds Q' b T1 T2 u1 u2 → Stretches d cut r wanted Q all T0 T3 u0 u2
  stopped (Ok x) e holds wanted b same fails T2 T3 u2 f s h k = absurd fails
  stopped {A = A} {B = B} (Err x) e holds wanted {Q = Q} {Q' = Q'} {a = a} b same fails {all = all} {T0 = T0} {T1 = T1} T2 T3 {u0 = u0} {u1 = u1} u2 f s h k =
      go x (subst (λ (y : SearchStop). Stretches d cut {A = A} (Err y) holds Q' b T1 T2 u1 u2) (same x fails) k)
    where
      go : (y : SearchStop) → Stretches d cut {A = A} (Err y) holds Q' b T1 T2 u1 u2 → Stretches d cut {A = B} (Err y) wanted Q all T0 T3 u0 u2
      go Spent v = (short_behind Q Q' a b all T0 T1 u0 u1 f s h v.0, (let a = s.stretch.fewer in let b = v.1 in omega arith))
      go Large v = absurd v
      go NoMemory v = let a = s.stretch.fewer in omega arith

  -- memory was wanting, and no units are new
  pub wanted_memory : {B : Type 0} {P : SearchStop → Type 0} (r : Result B SearchStop) (wanted : B → Type 0) (Q : List (List Pos × ℕ) → Type 0) (all : ℕ) (T0 T1 : SetRows) {u0 u1 : ℕ} → ((x : SearchStop) → P x → x ≡ NoMemory) → IsErrAnd r P → u1 ≤ u0 → Stretches d cut r wanted Q all T0 T1 u0 u1
  wanted_memory (Ok x) wanted Q all T0 T1 same fails l = absurd fails
  wanted_memory {B = B} (Err x) wanted Q all T0 T1 {u0 = u0} {u1 = u1} same fails l = subst (λ (y : SearchStop). Stretches d cut {A = B} (Err y) wanted Q all T0 T1 u0 u1) (sym (same x fails)) l

-- an error leaves nothing to be shown
pub none_after : {B : Type 0} (P : SearchStop → Type 0) (A : Type 0) (r : Result B SearchStop) → IsErrAnd r P → OnOk r A
none_after P A (Ok x) fails = absurd fails
none_after P A (Err x) fails = tt
