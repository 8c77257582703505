-- A try that must mate, in the words of the theory.
use Rattle.std.proofs.Common.{◌≡◌, ◌+◌, Bool, true, false, cond, not, ◌&&◌, List, [], length, refl, sym, ap, ◌∙◌}
use Rattle.std.specs.List.{list_any}
use Rattle.std.proofs.lemmas.Bool.{both_ways, and_parts, and_from, not_from_false, not-true, false_from_ne_true}
use Rattle.krieg_parting.proofs.Common.{Pos, Move, is_legal, after, moves, is_mate, Dialect, stale_in_some, given, mates_at, made, lives_in_some, chess, outcomes, lives, replies, looked_at, AreTried, IsMating, Mating}
use Rattle.krieg_theory.proofs.Lists.{any_at, any_from}
use Rattle.krieg_theory.proofs.Steps.{any_agree}
use Rattle.krieg_costs.proofs.Totals.{total_agree}
use Rattle.krieg_game.proofs.ChessLaws.{chess_is_game}
use Rattle.krieg_game.proofs.Winning.{mates_at_once, outcomes_are_replies}

module _ (d : Dialect) where
  -- what is looked at is made
  pub given_length : (t : Move) (p : Pos) → length (given (chess d) t p) ≡ replies t p
  given_length t p = go (is_legal p t)
    where
      go : (b : Bool) → length (cond b (outcomes d p t) []) ≡ cond b (length (moves (after p t))) 0
      go true = outcomes_are_replies d p t
      go false = refl

  pub looked_is_made : (B : List Pos) (t : Move) → looked_at B t ≡ made (chess d) B t
  looked_is_made B t = ap (λ n. length B + n) (sym (total_agree (λ p. length (given (chess d) t p)) (replies t) B (λ p i. given_length t p)))

  lives_is : (t : Move) (p : Pos) → (is_legal p t && not (mates_at (chess d) p t)) ≡ lives t p
  lives_is t p = go (is_legal p t) (mates_at_once d p t)
    where
      go : (b : Bool) → mates_at (chess d) p t ≡ (b && is_mate (after p t)) → (b && not (mates_at (chess d) p t)) ≡ (b && not (is_mate (after p t)))
      go true h = ap not h
      go false h = refl

  pub some_lives : (B : List Pos) (t : Move) → lives_in_some (chess d) B t ≡ list_any (lives t) B
  some_lives B t = any_agree (chess d) (chess_is_game d) (λ p. is_legal p t && not (mates_at (chess d) p t)) (lives t) B (lives_is t)

  -- where it stalemates in some member, it lives there
  pub stale_lives : (B : List Pos) (t : Move) → stale_in_some (chess d) B t ≡ true → lives_in_some (chess d) B t ≡ true
  stale_lives B t h =
      let s = any_at (λ p. is_legal p t && (chess d).stalemates p t) B h in
      let b = and_parts (is_legal s.0 t) _ s.2 in
      any_from (λ p. is_legal p t && not (mates_at (chess d) p t)) B s.0 s.1 (and_from _ _ b.0 (not_from_false _ (false_from_ne_true _ (λ m. both_ways _ (not-true _ (and_parts (not ((chess d).stalemates s.0 t)) _ (and_parts (is_legal s.0 t) _ m).1).0) b.1))))

  pub mating : (always : Bool) (B : List Pos) (t : Move) (found : Mating) → AreTried always B t found → IsMating d always B t found
  mating always B t found a = record { lives_part = a.lives_part ∙ sym (some_lives B t); refused_part = a.refused_part }
