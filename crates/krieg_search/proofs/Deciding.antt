-- What is decided over the opening sets, and what it takes.
use Rattle.std.proofs.Common.{◌≡◌, ℕ, ◌+◌, ◌<◌, ◌≤◌, Bool, true, false, not, ◌&&◌, ◌⊎◌, inl, inr, List, [], map, find, Option, Some, None, Result, Ok, Err, refl, sym, ap, subst, ◌∙◌, arith, Vec, suc}
use Rattle.std.specs.Prelude.{IfSome}
use Rattle.std.specs.declared.alloc.Global.{Global}
use Rattle.std.specs.List.{list_all, list_any}
use Rattle.std.specs.Result.{IsErrAnd}
use Rattle.std.proofs.lemmas.Bool.{both_ways}
use Rattle.std.proofs.lemmas.Simd.{map-map}
use Rattle.krieg_search.proofs.Common.{Pos, Move, Side, Dialect, In, can, openings, opening_set, is_over, can_plan, IsOnce, once, made, first_made, reach_of, fresh, position_lt, stored, pairs, known, IsSound, charged, IsStretch, FallsShort, CoversSets, AnswersSets, opening_sets, RootKey, chess, outset, PartStop, Charges, SetRows, entries, Opening, Findings, Decision, Over, SearchStop, Large, stop_of, AreCounted, IsReady, IsSearched, Stretches, TellsSets, opening_in, AreNumbered, AreAdded, IsOpened, WonBy, AreNotes, WinsAreBelow, sets_in, Outlook, IsAsked, IsAsking, IsAccount, IsFound, IsLost, IsWon, IsDecision}
use Rattle.krieg_theory.proofs.Lists.{all_at}
use Rattle.krieg_costs.proofs.Pairs.{once_in}
use Rattle.krieg_accounts.proofs.Canonical.{by_least}
use Rattle.krieg_accounts.proofs.Searches.{empty_sound, reach_covers, short_is_below_fresh, sets_answer_plan}
use Rattle.krieg_accounts.proofs.Tables.{in_known}
use Rattle.krieg_accounts.proofs.TryEnds.{all_map}
use Rattle.krieg_game.specs.ClassLaws as game
use Rattle.krieg_game.proofs.ChessLaws.{chess_is_game, outset_is_lawful}
use Rattle.krieg_parting.specs.declared.stop.PartStop.TheVariants as split
use Rattle.krieg_search.specs.declared.stop.SearchStop.TheVariants.{Spent, NoMemory}
use Rattle.krieg_search.proofs.OpenedSets.{same_openings, numbered_more}

no_entries : entries [] ≡ []
unfolding entries
no_entries = refl

-- nothing is known in an empty table
pub empty_counted : AreCounted []
empty_counted k = omega arith

pub empty_ready : (d : Dialect) (cut : Bool) (T : SetRows) → T ≡ [] → IsReady d cut T
empty_ready d cut T e = subst (λ (T : SetRows). IsReady d cut T) (sym e) (record { counted = empty_counted; sound = subst (λ E. IsSound (chess d) cut E) (sym no_entries) (empty_sound (chess d) cut) })

module _ (d : Dialect) (who : Side) (S : List Pos) where
  -- the sets of the openings that occur
  pub sets_are_opened : (T : SetRows) (os : List Opening) → map (opening_in T) os ≡ game.opening_sets d who S → sets_in T os ≡ opening_sets (chess d) (outset d who) S
  sets_are_opened T os are =
      sym (map-map (λ (c : RootKey × List Pos). c.1) (opening_in T) os)
      ∙ ap (map (λ (c : RootKey × List Pos). c.1)) are
      ∙ map-map (λ (c : RootKey × List Pos). c.1) (λ (key : RootKey). (key, opening_set (chess d) (outset d who) S key)) (openings (chess d) (outset d who) S)

  -- no plan mates where some listed position is over
  pub none_can : (n : ℕ) → list_any (is_over (chess d) (outset d who)) S ≡ true → can_plan (chess d) (outset d who) n S ≡ false
  none_can n o = ap (λ b. not b && list_all (λ key. can (chess d) n (opening_set (chess d) (outset d who) S key)) (openings (chess d) (outset d who) S)) o

module _ (d : Dialect) (cut : Bool) (who : Side) (S : List Pos) (n : ℕ) where
  first_within : first_made (chess d) (outset d who) S ≤ fresh (chess d) (outset d who) n S
  first_within = omega arith

  -- the openings were stopped
  pub openings_stopped : {A : Type 0} (P : SearchStop → Type 0) (r : Result (Option Outlook) SearchStop) (stop : PartStop) (holds : A → Type 0) (T : SetRows) (u0 u1 : ℕ)
      → ((x : SearchStop) → P x → stop_of stop ≡ x) → IsErrAnd r P → Charges {A = A} (Err stop) holds (first_made (chess d) (outset d who) S) u0 u1 → IsAsking d who S n cut T r u0 u1
  openings_stopped P (Ok x) stop holds T u0 u1 same fails k = absurd fails
  openings_stopped {A = A} P (Err x) stop holds T u0 u1 same fails k = subst (λ (y : SearchStop). IsAsking d who S n cut T (Err y) u0 u1) (same x fails) (go stop k)
    where
      go : (stop : PartStop) → Charges {A = A} (Err stop) holds (first_made (chess d) (outset d who) S) u0 u1 → IsAsking d who S n cut T (Err (stop_of stop)) u0 u1
      go split.Spent v = ((let w = first_within in omega (arith, v.0)), (let w = v.1 in omega arith))
      go split.NoMemory v = let w = v in omega arith

  -- the openings are there
  pub are_opened : (T T1 : SetRows) (r : Option (Vec Opening Global)) (os : Vec Opening Global) → T ≡ [] → r ≡ Some os → IsOpened d who S T T1 r → (list_any (is_over (chess d) (outset d who)) S ≡ false) × AreAdded [] T1 os.items (game.opening_sets d who S)
  are_opened T T1 r os e f o = subst (λ (T : SetRows). IsOpened d who S T T1 (Some os)) e (subst (λ (r : Option (Vec Opening Global)). IsOpened d who S T T1 r) f o)

  -- the openings are there, and their sets are searched
  module _ (T1 : SetRows) (os : List Opening) (a : AreAdded [] T1 os (game.opening_sets d who S)) where
    pub opened_ready : IsReady d cut T1
    opened_ready = record { counted = a.sets.counted; sound = subst (λ E. IsSound (chess d) cut E) (sym (a.sets.noted ∙ no_entries)) (empty_sound (chess d) cut) }

    at_sets : sets_in T1 os ≡ opening_sets (chess d) (outset d who) S
    at_sets = sets_are_opened d who S T1 os a.are

    none_stored : entries T1 ≡ []
    none_stored = a.sets.noted ∙ no_entries

    -- they were stopped
    pub search_stopped : {A : Type 0} (P : SearchStop → Type 0) (r : Result (Option Outlook) SearchStop) (e : SearchStop) (holds : A → Type 0) (T2 : SetRows) (u0 u1 u2 : ℕ)
        → ((x : SearchStop) → P x → e ≡ x) → IsErrAnd r P → u1 + first_made (chess d) (outset d who) S ≡ u0 → Stretches d cut {A = A} (Err e) holds (CoversSets (chess d) (sets_in T1 os) n) 0 T1 T2 u1 u2 → IsAsking d who S n cut T2 r u0 u2
    search_stopped P (Ok x) e holds T2 u0 u1 u2 same fails taken k = absurd fails
    search_stopped {A = A} P (Err x) e holds T2 u0 u1 u2 same fails taken k =
        go x (subst (λ (y : SearchStop). Stretches d cut {A = A} (Err y) holds (CoversSets (chess d) (sets_in T1 os) n) 0 T1 T2 u1 u2) (same x fails) k)
      where
        go : (y : SearchStop) → Stretches d cut {A = A} (Err y) holds (CoversSets (chess d) (sets_in T1 os) n) 0 T1 T2 u1 u2 → IsAsking d who S n cut T2 (Err y) u0 u2
        go Spent v =
            let w = subst (λ E. FallsShort (chess d) (CoversSets (chess d) (opening_sets (chess d) (outset d who) S) n) 0 E u1) none_stored (subst (λ (Cs : List (List Pos)). FallsShort (chess d) (CoversSets (chess d) Cs n) 0 (entries T1) u1) at_sets v.0) in
            let f = short_is_below_fresh (chess d) (chess_is_game d) (outset d who) (outset_is_lawful d who) n S u1 w in
            let less = v.1 in
            (omega arith, omega arith)
        go Large v = absurd v
        go NoMemory v = let less = v in omega arith

    -- they answered
    pub sets_asked : (T2 : SetRows) (asked : Outlook) (u0 u1 u2 : ℕ) → asked.openings.items ≡ os → list_any (is_over (chess d) (outset d who)) S ≡ false → u1 + first_made (chess d) (outset d who) S ≡ u0 → TellsSets d T2 (sets_in T1 os) n asked.all_win × IsSearched d cut (CoversSets (chess d) (sets_in T1 os) n) 0 T1 T2 u1 u2 → IsAsked d who S n cut T2 asked u0 u2
    sets_asked T2 asked u0 u1 u2 same none taken w = record {
      none_over = none;
      counted = w.1.counted;
      numbered = subst (λ (xs : List Opening). AreNumbered T2 xs) (sym same) (numbered_more T1 T2 os w.1.more a.numbered);
      sets = subst (λ (xs : List Opening). map (opening_in T2) xs ≡ game.opening_sets d who S) (sym same) (same_openings T1 T2 os w.1.more a.numbered ∙ a.are);
      tells = subst (λ (Cs : List (List Pos)). TellsSets d T2 Cs n asked.all_win) at_sets w.0;
      left = u1;
      taken = taken;
      stretch = subst (λ E. IsStretch (chess d) cut (CoversSets (chess d) (opening_sets (chess d) (outset d who) S) n) 0 E (entries T2) u1 u2) none_stored (subst (λ (Cs : List (List Pos)). IsStretch (chess d) cut (CoversSets (chess d) Cs n) 0 (entries T1) (entries T2) u1 u2) at_sets w.1.stretch);
    }

  -- asking was stopped, and so is the decision
  pub asking_stopped : (P : SearchStop → Type 0) (r : Result Decision SearchStop) (e : SearchStop) (T : SetRows) (u0 u1 u : ℕ) → ((x : SearchStop) → P x → e ≡ x) → IsErrAnd r P → u ≡ u0 → IsAsking d who S n cut T (Err e) u u1 → IsDecision d who S n cut r u0 u0
  asking_stopped P (Ok x) e T u0 u1 u same fails at k = absurd fails
  asking_stopped P (Err x) e T u0 u1 u same fails at k = go x (subst (λ (y : SearchStop). IsAsking d who S n cut T (Err y) u u1) (same x fails) k)
    where
      go : (y : SearchStop) → IsAsking d who S n cut T (Err y) u u1 → IsDecision d who S n cut (Err y) u0 u0
      go Spent v = ((let w = v.0 in omega arith), omega arith)
      go Large v = absurd v
      go NoMemory v = omega arith

  -- some listed position is over
  pub over : (u0 u1 : ℕ) → list_any (is_over (chess d) (outset d who)) S ≡ true → u1 + first_made (chess d) (outset d who) S ≡ u0 → IsDecision d who S n cut (Ok Over) u0 u1
  over u0 u1 o e =
      let none = none_can d who S n o in (
        o,
        none,
        record {
          results = [];
          sound = empty_sound (chess d) cut;
          answer = record { all_won = λ c. absurd (both_ways _ none c); one_lost = λ q. absurd (both_ways _ q o) };
          once = tt;
          reached = λ q i. absurd i;
          exact = λ h. omega arith;
          at_most = omega arith;
          fewer = omega arith;
        },
      )

  -- the sets were asked for
  module _ (T : SetRows) (asked : Outlook) (u0 u2 : ℕ) (a : IsAsked d who S n cut T asked u0 u2) where
    pub answer : asked.all_win ≡ can_plan (chess d) (outset d who) n S
    answer =
        a.tells.right ∙ all_map (opening_set (chess d) (outset d who) S) (can (chess d) n) (openings (chess d) (outset d who) S)
        ∙ ap (λ b. not b && list_all (λ key. can (chess d) n (opening_set (chess d) (outset d who) S key)) (openings (chess d) (outset d who) S)) (sym a.none_over)

    pub asked_ready : IsReady d cut T
    asked_ready = record { counted = a.counted; sound = a.stretch.sound }

    -- a result has come for nothing but what is reached
    pub asked_reached : (q : List Pos × ℕ) → In q (pairs (entries T)) → In q (once (chess d) (reach_of (chess d) (outset d who) n S))
    asked_reached q i =
        let R = reach_of (chess d) (outset d who) n S in
        let k = in_known (chess d) (chess_is_game d) (entries T) q i in
        there k.0 (a.stretch.news (once (chess d) R) (reach_covers (chess d) (chess_is_game d) (outset d who) (outset_is_lawful d who) n S) q k.0 k.1)
      where
        there : (x : Option Move) → (known (chess d) [] q ≡ Some x) ⊎ In q (once (chess d) (reach_of (chess d) (outset d who) n S)) → In q (once (chess d) (reach_of (chess d) (outset d who) n S))
        there x (inl k) = absurd (let e : ◌≡◌ {A = Option (Option Move)} None (Some x) = k in cc)
        there x (inr i) = i

    -- each set of an opening is stored as won, where all are
    pub opening_won : asked.all_win ≡ true → (C : List Pos) → In C (sets_in T asked.openings.items) → WonBy T C n
    opening_won e C i =
        let k = subst (In C) (sets_are_opened d who S T asked.openings.items a.sets) i in
        by_least (chess d) (chess_is_game d) cut (entries T) a.stretch.sound C n (a.tells.stored.won e C k) (all_at (can (chess d) n) (opening_sets (chess d) (outset d who) S) (sym a.tells.right ∙ e) C k)

    module _ (o : IsOnce (pairs (entries T))) where
      account : IsAccount d who S n cut u0 u2
      account = record {
        results = entries T;
        sound = a.stretch.sound;
        answer = sets_answer_plan (chess d) (chess_is_game d) (outset d who) (outset_is_lawful d who) n S (entries T) a.none_over (subst (λ b. AnswersSets (chess d) (entries T) (opening_sets (chess d) (outset d who) S) n b) answer a.tells.stored);
        once = o;
        reached = λ q i. once_in (chess d) (chess_is_game d) (reach_of (chess d) (outset d who) n S) q (asked_reached q i);
        exact = λ h. (let x = a.stretch.exact h in let e = a.taken in omega arith);
        at_most = (let x = a.stretch.at_most in let e = a.taken in omega arith);
        fewer = (let x = a.stretch.fewer in let e = a.taken in omega arith);
      }

      -- what the search leaves, whatever its answer
      is_found : (w : Findings) → w.table ≡ T → w.openings.items ≡ asked.openings.items → AreNotes d cut T w.notes → IsFound d who S n cut w u0
      is_found w t o r = record {
        ready = subst (IsReady d cut) (sym t) asked_ready;
        paid = subst (λ (T : SetRows). cut ≡ false → charged (chess d) (entries T) ≤ u0) (sym t) (λ h. (let x = a.stretch.exact h in let e = a.taken in omega arith));
        wins = subst (λ (T : SetRows). WinsAreBelow d (suc u0) T) (sym t) (λ q m k. below q m (a.stretch.won q m k));
        numbered = subst (λ (T : SetRows). AreNumbered T w.openings.items) (sym t) (subst (λ (xs : List Opening). AreNumbered T xs) (sym o) a.numbered);
        sets = subst (λ (T : SetRows). map (opening_in T) w.openings.items ≡ game.opening_sets d who S) (sym t) (subst (λ (xs : List Opening). map (opening_in T) xs ≡ game.opening_sets d who S) (sym o) a.sets);
        noted = subst (λ (T : SetRows). AreNotes d cut T w.notes) (sym t) r;
      }
        where
          below : (q : List Pos × ℕ) (m : Move) → (known (chess d) [] q ≡ Some (Some m)) ⊎ (u2 + made (chess d) q.0 m ≤ a.left) → made (chess d) q.0 m < suc u0
          below q m (inl k) = absurd (let e : ◌≡◌ {A = Option (Option Move)} None (Some (Some m)) = k in cc)
          below q m (inr h) = let e = a.taken in omega arith

      -- some opening set cannot be won
      pub not_won : asked.all_win ≡ false → (lost : Findings) → lost.table ≡ T → lost.openings.items ≡ asked.openings.items → AreNotes d cut T lost.notes → IsLost d who S n cut lost u0 × IsAccount d who S n cut u0 u2
      not_won e lost t o r = (
        record {
          cannot = sym answer ∙ e;
          none_over = a.none_over;
          found = is_found lost t o r;
          lost =
              subst (λ (T : SetRows). FirstIsLost T (sets_in T lost.openings.items)) (sym t) (subst (λ (xs : List Opening). FirstIsLost T (sets_in T xs)) (sym o)
              (subst (FirstIsLost T) (sym (sets_are_opened d who S T asked.openings.items a.sets)) (a.tells.stored.lost e)));
        },
        account,
      )
        where
          FirstIsLost : SetRows → List (List Pos) → Type 0
          FirstIsLost T Cs = IfSome (find (λ C. not (can (chess d) n C)) Cs) (λ C. 0 < n → stored position_lt (entries T) (C, n) ≡ Some None)

      -- all can
      pub all_are_won : asked.all_win ≡ true → (won : Findings) → won.table ≡ T → won.openings.items ≡ asked.openings.items → AreNotes d cut T won.notes → IsWon d who S n cut won u0 × IsAccount d who S n cut u0 u2
      all_are_won e won t o r = (
        record {
          can = sym answer ∙ e;
          found = is_found won t o r;
          won = subst (λ (T : SetRows). (C : List Pos) → In C (sets_in T won.openings.items) → WonBy T C n) (sym t) (subst (λ (xs : List Opening). (C : List Pos) → In C (sets_in T xs) → WonBy T C n) (sym o) (opening_won e));
        },
        account,
      )
