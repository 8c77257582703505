-- What a try leaves to be won, by the theory's words.
use Rattle.std.proofs.Common.{◌≡◌, ℕ, suc, ◌-◌, ◌<◌, Bool, true, false, List, map, Option, Some, None, Result, Ok, Err, refl, sym, ap, subst, ◌∙◌, arith}
use Rattle.std.specs.Prelude.{IfSome, IfOk}
use Rattle.std.specs.List.{list_any}
use Rattle.std.proofs.lemmas.Bool.{cond-true, both_ways}
use Rattle.std.proofs.lemmas.Simd.{map-map}
use Rattle.krieg_search.proofs.Common.{Pos, Move, Dialect, keys, class, begins, lives_in_some, pair_of, flees, classes, Key, chess, class_pair, SomeLives, sets_of, FailsAtOnce, IsRemainder, Remainder}
use Rattle.krieg_theory.proofs.Seen.{escape_fails}
use Rattle.krieg_sight.proofs.Theorems.{escapes_is_flees}
use Rattle.krieg_game.specs.declared.classes.Class.{Class}
use Rattle.krieg_game.proofs.ChessLaws.{chess_is_game}

no_pair : {X : Type 0} (o : Option X) → IfSome o (λ x. ⊥) → o ≡ None
no_pair None h = refl
no_pair (Some x) h = absurd h

module _ (d : Dialect) where
  -- a try that does not mate with the last move
  pub fails_by_life : (B : List Pos) (t : Move) → SomeLives d B t → FailsAtOnce d false B t 1
  fails_by_life B t s = record {
    fails = s.fails;
    no_pair = λ c. ap (pair_of (chess d) 0 B t) (cond-true (lives_in_some (chess d) B t) _ _ s.lives);
  }

  -- a try after which some reply leaves no mate, even for a player who sees the position
  pub fails_by_flight : (cut : Bool) (B : List Pos) (t : Move) (j : ℕ) → cut ≡ true → 0 < j → list_any (flees (j - 1) t) B ≡ true → FailsAtOnce d cut B t j
  fails_by_flight cut B t j may pos e = record {
    fails = subst (λ (n : ℕ). begins (chess d) n B t ≡ false) (let n : suc (j - 1) ≡ j = omega arith in n) (escape_fails (chess d) (chess_is_game d) B (j - 1) t (escapes_is_flees d (j - 1) B t ∙ e));
    no_pair = λ c. absurd (both_ways cut c may);
  }

  -- what is left where tries may not be cut is left where they may
  pub left_more : {E : Type 0} (cut : Bool) (B : List Pos) (t : Move) (j : ℕ) (r : Result (Option Remainder) E) → IfOk r (IsRemainder d false B t j) → IfOk r (IsRemainder d cut B t j)
  left_more cut B t j (Ok None) f = record { fails = f.fails; no_pair = λ c. f.no_pair refl }
  left_more cut B t j (Ok (Some l)) a = a
  left_more cut B t j (Err e) a = tt

  -- the sets of the classes are those of the keys that occur
  pub sets_are : (B : List Pos) (t : Move) (cs : List Class) → map class_pair cs ≡ map (λ key. (key, class (chess d) B t key)) (keys (chess d) B t) → sets_of cs ≡ classes (chess d) B t
  sets_are B t cs e =
      sym (map-map (λ (x : Key × List Pos). x.1) class_pair cs) ∙ ap (map (λ (x : Key × List Pos). x.1)) e ∙ map-map (λ (x : Key × List Pos). x.1) (λ (k : Key). (k, class (chess d) B t k)) (keys (chess d) B t)
