-- The first opening set that is stored as lost is the first that cannot be won.
use Rattle.std.proofs.Common.{◌≡◌, ℕ, ◌<◌, Bool, true, false, not, List, find, length, is_some, Option, Some, None, Result, Ok, Err, refl, sym, ap, subst, ◌∙◌, arith}
use Rattle.std.specs.Prelude.{IfSome, option_map}
use Rattle.std.specs.Result.{IsErrAnd}
use Rattle.std.proofs.lemmas.Bool.{both_ways, not_from_false, false_from_ne_true, true_from_ne_false}
use Rattle.krieg_refute.proofs.Common.{Pos, Side, Dialect, position_lt, is_nil, can, is_over, openings, opening_set, can_plan, first_lost, stored, claims, claims_from, denial, is_loss, AreMany, RootKey, chess, outset, SetRows, set_at, entries, Opening, Findings, SearchStop, opening_in, sets_in, IsDecision, Denied, claims_of, most_claims, most_claimed, IsLost, is_lost_opening, AreClaims, IsDenial, IsMated, IsDenied, IsTaken}
use Rattle.krieg_theory.specs.Sets.{In}
use Rattle.krieg_theory.proofs.Lists.{any_none}
use Rattle.krieg_theory.proofs.Planned.{can_plan_from, mates_shows}
use Rattle.krieg_theory.proofs.Theorems.{can_plan_is_mated}
use Rattle.krieg_costs.proofs.Blocks.{found, none_found}
use Rattle.krieg_costs.proofs.Reached.{opening_some}
use Rattle.krieg_accounts.proofs.TryEnds.{find_map}
use Rattle.krieg_accounts.proofs.Tables.{result_can}
use Rattle.krieg_claims.proofs.Denied.{denial_refutes}
use Rattle.krieg_claims.proofs.StoredLosses.{find_agree}
use Rattle.krieg_costs.specs.Refutation as theory
use Rattle.krieg_game.proofs.ChessLaws.{chess_is_game, outset_is_lawful}
use Rattle.krieg_search.specs.declared.stop.SearchStop.TheVariants as search
use Rattle.krieg_search.specs.Decision as decided
use Rattle.krieg_refutation.specs.declared.refutation.Claim.{Claim}

is_stored : (o : Option (Option (Rattle.krieg_board.specs.declared.men.Move.Move))) → is_loss o ≡ true → o ≡ Some None
is_stored None e = absurd (both_ways false refl e)
is_stored (Some None) e = refl
is_stored (Some (Some m)) e = absurd (both_ways false refl e)

module _ (d : Dialect) (who : Side) (S : List Pos) (n : ℕ) where
  -- what a stop answers, and takes of the units
  abbrev pub StopsAt : SearchStop → ℕ → Type 0
  StopsAt stop u = IsDenied d who S n (Err stop) × IsTaken d who S n (Err stop) u u

  pub record HasFirst (T : SetRows) (os : List Opening) : Type 0 where
    pub key : RootKey
    pub opening : Opening
    pub inside : In opening os
    pub occurs : In key (openings (chess d) (outset d who) S)
    pub first : first_lost (chess d) (outset d who) n S ≡ Some key
    pub at : find (is_lost_opening T n) os ≡ Some opening
    pub set : set_at T opening.set ≡ opening_set (chess d) (outset d who) S key
    pub lost : IsLost T (set_at T opening.set) n

  module _ (w : Findings) (had : ℕ) (a : decided.IsLost d who S n false w had) (some : 0 < n) where
    no : List Pos → Bool
    no C = not (can (chess d) n C)

    no_key : RootKey → Bool
    no_key key = not (can (chess d) n (opening_set (chess d) (outset d who) S key))

    same_first : option_map (opening_in w.table) (find (λ o. not (can (chess d) n (set_at w.table o.set))) w.openings.items)
        ≡ option_map {T = RootKey} {U = RootKey × List Pos} (λ key. (key, opening_set (chess d) (outset d who) S key)) (first_lost (chess d) (outset d who) n S)
    same_first =
        sym (find_map (λ (c : RootKey × List Pos). not (can (chess d) n c.1)) (opening_in w.table) w.openings.items)
        ∙ ap (find (λ (c : RootKey × List Pos). not (can (chess d) n c.1))) a.found.sets
        ∙ find_map (λ (c : RootKey × List Pos). not (can (chess d) n c.1)) (λ key. (key, opening_set (chess d) (outset d who) S key)) (openings (chess d) (outset d who) S)

    some_lost : first_lost (chess d) (outset d who) n S ≡ None → ⊥
    some_lost e =
        both_ways _ a.cannot
        (can_plan_from (chess d) (chess_is_game d) (outset d who) (outset_is_lawful d who) S n (λ p i. any_none (is_over (chess d) (outset d who)) S a.none_over p i)
        (λ key i. true_from_ne_false _ (λ f. both_ways _ (none_found (λ key. not (can (chess d) n (opening_set (chess d) (outset d who) S key))) (openings (chess d) (outset d who) S) e key i) (not_from_false _ f))))

    -- what is stored of the first set that cannot be won
    stored_at : (o : Opening) → find (λ o. not (can (chess d) n (set_at w.table o.set))) w.openings.items ≡ Some o → IsLost w.table (set_at w.table o.set) n
    stored_at o e =
        let q : find (λ C. not (can (chess d) n C)) (sets_in w.table w.openings.items) ≡ Some (set_at w.table o.set) =
        find_map (λ C. not (can (chess d) n C)) (λ (x : Opening). set_at w.table x.set) w.openings.items ∙ ap (option_map (λ (x : Opening). set_at w.table x.set)) e in
        (subst (λ (x : Option (List Pos)). IfSome x (λ C. 0 < n → stored position_lt (entries w.table) (C, n) ≡ Some None)) q a.lost) some

    pub has_first : HasFirst w.table w.openings.items
    has_first = go (first_lost (chess d) (outset d who) n S) (find (λ o. not (can (chess d) n (set_at w.table o.set))) w.openings.items) refl refl same_first
      where
        go : (k : Option RootKey) (o : Option Opening) → first_lost (chess d) (outset d who) n S ≡ k → find (λ o. not (can (chess d) n (set_at w.table o.set))) w.openings.items ≡ o
            → option_map (opening_in w.table) o ≡ option_map {T = RootKey} {U = RootKey × List Pos} (λ key. (key, opening_set (chess d) (outset d who) S key)) k → HasFirst w.table w.openings.items
        go None o e f q = absurd (some_lost e)
        go (Some key) None e f q = let r : ◌≡◌ {A = Option (RootKey × List Pos)} None (Some (key, opening_set (chess d) (outset d who) S key)) = q in absurd (cc)
        go (Some key) (Some o) e f q =
            let r : ◌≡◌ {A = Option (RootKey × List Pos)} (Some (opening_in w.table o)) (Some (key, opening_set (chess d) (outset d who) S key)) = q in
            let s : ◌≡◌ {A = RootKey × List Pos} (opening_in w.table o) (key, opening_set (chess d) (outset d who) S key) = cc in
            record {
              key = key;
              opening = o;
              inside = (found (λ o. not (can (chess d) n (set_at w.table o.set))) w.openings.items o f).0;
              occurs = (found (λ key. not (can (chess d) n (opening_set (chess d) (outset d who) S key))) (openings (chess d) (outset d who) S) key e).0;
              first = e;
              at =
                  find_agree (is_lost_opening w.table n) (λ o. not (can (chess d) n (set_at w.table o.set))) w.openings.items (Some o)
                  (λ x l. not_from_false _ (result_can (chess d) (chess_is_game d) false (entries w.table) a.found.ready.sound (set_at w.table x.set) n None (is_stored (stored position_lt (entries w.table) (set_at w.table x.set, n)) l))) f (ap is_loss (stored_at o f));
              set = ap (λ (c : RootKey × List Pos). c.1) s;
              lost = stored_at o f;
            }

    -- the opening that was found by what is stored
    pub is_first : (set : ℕ) → IfSome (find (is_lost_opening w.table n) w.openings.items) (λ o. o.set ≡ set) → has_first.opening.set ≡ set
    is_first set h = subst (λ (x : Option Opening). IfSome x (λ o. o.set ≡ set)) has_first.at h

    pub first_some : is_some (find (is_lost_opening w.table n) w.openings.items) ≡ true
    first_some = ap is_some has_first.at

    module _ (set : ℕ) (h : IfSome (find (is_lost_opening w.table n) w.openings.items) (λ o. o.set ≡ set)) where
      pub first_within : set < length w.table
      first_within = subst (λ (k : ℕ). k < length w.table) (is_first set h) (a.found.numbered has_first.opening has_first.inside)

      pub first_members : is_nil (set_at w.table set) ≡ false
      first_members = subst (λ (k : ℕ). is_nil (set_at w.table k) ≡ false) (is_first set h) (ap is_nil has_first.set ∙ opening_some (chess d) (chess_is_game d) (outset d who) (outset_is_lawful d who) S has_first.key has_first.occurs)

      pub first_stored : IsLost w.table (set_at w.table set) n
      first_stored = subst (λ (k : ℕ). IsLost w.table (set_at w.table k) n) (is_first set h) has_first.lost

      claims_are : claims (chess d) n (set_at w.table set) ≡ denial (chess d) (outset d who) n S
      claims_are =
          ap (λ (k : ℕ). claims (chess d) n (set_at w.table k)) (sym (is_first set h)) ∙ ap (claims (chess d) n) has_first.set
          ∙ ap (claims_from (chess d) (outset d who) n S) (sym has_first.first)

      -- claims that were written for its set
      pub is_denial : (cs : List Claim) → claims_of d cs ≡ claims (chess d) n (set_at w.table set) → Rattle.krieg_claims.specs.Sizes.AreFew (chess d) most_claims most_claimed (claims_of d cs) → IsDenial d who S n cs
      is_denial cs e f = record {
        cannot = a.cannot;
        no_plan = λ plan. false_from_ne_true _ (λ m. both_ways _ a.cannot (mates_shows (chess d) (chess_is_game d) (outset d who) (outset_is_lawful d who) plan S n m));
        claims_part = e ∙ claims_are;
        few = f;
        refute =
            ap (theory.refutes (chess d) (outset d who) n S) (e ∙ claims_are)
            ∙ denial_refutes (chess d) (chess_is_game d) (outset d who) (outset_is_lawful d who) n S some a.none_over a.cannot;
      }

      -- or that are too many
      pub claims_stop : (stop : SearchStop) (u : ℕ) → AreClaims d (set_at w.table set) n (Err stop) → StopsAt stop u
      claims_stop search.Spent u v = absurd v
      claims_stop search.Large u v = (record { cannot = a.cannot; many = subst (AreMany (chess d) most_claims most_claimed) claims_are v }, refl)
      claims_stop search.NoMemory u v = (tt, refl)

  -- the search was stopped
  pub search_stop : (stop : SearchStop) (u has : ℕ) → IsDecision d who S n false (Err stop) u has → StopsAt stop u
  search_stop search.Spent u has v = (tt, ((omega arith), refl))
  search_stop search.Large u has v = absurd v
  search_stop search.NoMemory u has v = (tt, refl)

  -- and so was the call that passes the stop on
  pub stopped : (P : SearchStop → Type 0) (r : Result Denied SearchStop) (stop : SearchStop) (u : ℕ) → ((x : SearchStop) → P x → stop ≡ x) → IsErrAnd r P → StopsAt stop u → IsDenied d who S n r × IsTaken d who S n r u u
  stopped P (Ok x) stop u same fails v = absurd fails
  stopped P (Err x) stop u same fails v = subst (λ (y : SearchStop). StopsAt y u) (same x fails) v

  -- some plan mates
  pub is_mated : can_plan (chess d) (outset d who) n S ≡ true → IsMated d who S n
  is_mated e = let m = (can_plan_is_mated (chess d) (chess_is_game d) (outset d who) (outset_is_lawful d who) S n).0 e in record { can = e; plan = m.0; mates_all = m.1 }
