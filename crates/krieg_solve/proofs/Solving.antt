-- The plan of the opening sets is the best one.
use Rattle.std.proofs.Common.{Bool, ◌≡◌, ℕ, ◌<◌, ◌^◌, true, false, max, List, [], ◌∷◌, map, Result, Ok, Err, refl, sym, ap, subst, ◌∙◌, arith}
use Rattle.std.proofs.lemmas.Bool.{both_ways, false_from_ne_true}
use Rattle.krieg_solve.proofs.Common.{Pos, Move, Side, Dialect, Maybe, Nothing, Just, least, canon, greatest, openings, opening_set, roots_of, root_with, can_plan, canon_plan, canon_worst, Key, RootKey, chess, outset, PlanTrees, plan_of, is_ordered_plan, Answer, Mates, None, Findings, entries, opening_in, IsWon, IsPaidFor, with_root, roots_for, IsUnfit, IsPlan, IsPlanned, IsBest, NoneMates, IsLarge, IsAnswer, IsAccount, Takes, SearchStop, Large}
use Rattle.krieg_search.specs.declared.stop.SearchStop.TheVariants.{Spent, NoMemory}
use Rattle.krieg_theory.proofs.Planned.{mates_shows, canon_plan_is, canon_plan_worst, worst_enough, worst_least}
use Rattle.krieg_accounts.proofs.Stretches.{weaker}
use Rattle.krieg_game.specs.ClassLaws as game
use Rattle.krieg_game.proofs.ChessLaws.{chess_is_game, outset_is_lawful}
use Rattle.krieg_solve.proofs.Ordering.{plan_ordered}

module _ (d : Dialect) (who : Side) (S : List Pos) (n : ℕ) where
  root_is : (key : RootKey) (m : Maybe Move Key) (rs : PlanTrees) → with_root key m rs ≡ root_with (chess d) (outset d who) key m rs
  root_is key Nothing rs = refl
  root_is key (Just t) rs = refl

  roots_are : (ks : List RootKey) → roots_for d n (map (λ key. (key, opening_set (chess d) (outset d who) S key)) ks) ≡ roots_of (chess d) (outset d who) ks (λ key. canon (chess d) n (opening_set (chess d) (outset d who) S key))
  roots_are [] = refl
  roots_are (k ∷ ks) =
      ap (with_root k (canon (chess d) n (opening_set (chess d) (outset d who) S k))) (roots_are ks)
      ∙ root_is k (canon (chess d) n (opening_set (chess d) (outset d who) S k)) (roots_of (chess d) (outset d who) ks (λ key. canon (chess d) n (opening_set (chess d) (outset d who) S key)))

  greatest_is : (ks : List RootKey) → greatest (λ (c : RootKey × List Pos). least (chess d) n c.1) (map (λ key. (key, opening_set (chess d) (outset d who) S key)) ks) ≡ greatest (λ key. least (chess d) n (opening_set (chess d) (outset d who) S key)) ks
  greatest_is [] = refl
  greatest_is (k ∷ ks) = ap (max (least (chess d) n (opening_set (chess d) (outset d who) S k))) (greatest_is ks)

  pub worst_of : greatest (λ (c : RootKey × List Pos). least (chess d) n c.1) (game.opening_sets d who S) ≡ canon_worst (chess d) (outset d who) n S
  worst_of = greatest_is (openings (chess d) (outset d who) S)

  best : can_plan (chess d) (outset d who) n S ≡ true → IsBest d who S n (canon_worst (chess d) (outset d who) n S) (canon_plan (chess d) (outset d who) n S)
  best c = record {
    canonical = canon_plan_is (chess d) (chess_is_game d) (outset d who) (outset_is_lawful d who) n S c;
    worst_case = canon_plan_worst (chess d) (chess_is_game d) (outset d who) (outset_is_lawful d who) n S c;
    within = worst_enough (chess d) (chess_is_game d) (outset d who) (outset_is_lawful d who) n S c;
    least = λ other k m. worst_least (chess d) (chess_is_game d) (outset d who) (outset_is_lawful d who) n S other k m;
  }

  -- no plan mates where not each opening set can be won
  pub none_mates : can_plan (chess d) (outset d who) n S ≡ false → NoneMates d who S n
  none_mates c = record {
    no_plan = λ plan. false_from_ne_true _ (λ m. both_ways _ c (mates_shows (chess d) (chess_is_game d) (outset d who) (outset_is_lawful d who) plan S n m));
    cannot = c;
  }

  module _ (cut : Bool) (w : Findings) (had : ℕ) (a : IsWon d who S n cut w had) where
    plan_is : roots_for d n (map (opening_in w.table) w.openings.items) ≡ canon_plan (chess d) (outset d who) n S
    plan_is = ap (roots_for d n) a.found.sets ∙ roots_are (openings (chess d) (outset d who) S)

    worst_is : greatest (λ (c : RootKey × List Pos). least (chess d) n c.1) (map (opening_in w.table) w.openings.items) ≡ canon_worst (chess d) (outset d who) n S
    worst_is = ap (greatest (λ (c : RootKey × List Pos). least (chess d) n c.1)) a.found.sets ∙ worst_of

    pub is_paid : had < 2 ^ 64 → IsPaidFor d true w.table
    is_paid h = record { ready = record { counted = a.found.ready.counted; sound = weaker (chess d) cut (entries w.table) a.found.ready.sound }; paid = λ e. absurd (both_ways true e refl); wins = λ q m k. (let p = a.found.wins q m k in omega arith) }

    pub is_ordered : is_ordered_plan (roots_for d n (map (opening_in w.table) w.openings.items)) ≡ true
    is_ordered = ap is_ordered_plan plan_is ∙ plan_ordered d who (canon_plan (chess d) (outset d who) n S) S (best a.can).canonical

    -- the plan that was built is the best one
    is_best : (nodes worst : ℕ) (plan : PlanTrees) → IsPlan d n (map (opening_in w.table) w.openings.items) nodes worst plan → IsBest d who S n worst plan
    is_best nodes worst plan p =
        subst (λ (x : PlanTrees). IsBest d who S n worst x) (sym (p.are ∙ plan_is))
        (subst (λ (k : ℕ). IsBest d who S n k (canon_plan (chess d) (outset d who) n S)) (sym (p.greatest_least ∙ worst_is)) (best a.can))

    -- the plan that was not built is too large
    is_large : (nodes : ℕ) → IsUnfit nodes (roots_for d n (map (opening_in w.table) w.openings.items)) → IsLarge d who S n nodes
    is_large nodes u = record {
      plan = canon_plan (chess d) (outset d who) n S;
      worst = canon_worst (chess d) (outset d who) n S;
      best = best a.can;
      large = subst (λ (p : PlanTrees). IsUnfit nodes p) plan_is u;
    }

module _ (d : Dialect) (who : Side) (S : List Pos) (n : ℕ) (cut : Bool) (w : Findings) (had nodes : ℕ) (k : IsWon d who S n cut w had) where
  -- the plan was built, or is too large, or memory was wanting
  pub planned : (r : Result Answer SearchStop) → IsPlanned d n (map (opening_in w.table) w.openings.items) nodes r → IsAnswer d who S n nodes r
  planned (Ok (Mates worst plan)) p = (is_best d who S n cut w had k nodes worst (plan_of plan) p, p.fit)
  planned (Ok None) p = absurd p
  planned (Err Spent) p = absurd p
  planned (Err Large) p = is_large d who S n cut w had k nodes p
  planned (Err NoMemory) p = tt

  -- what it took, unless memory was wanting
  pub planned_takes : (r : Result Answer SearchStop) (has u v : ℕ) → IsPlanned d n (map (opening_in w.table) w.openings.items) nodes r → IsAccount d who S n cut u has → (r ≡ Err NoMemory → ⊥) → v ≡ has → Takes d who S n cut r u v
  planned_takes (Ok a) has u v p k some taken = rw taken k
  planned_takes (Err Spent) has u v p k some taken = absurd p
  planned_takes (Err Large) has u v p k some taken = rw taken k
  planned_takes (Err NoMemory) has u v p k some taken = absurd (some refl)
