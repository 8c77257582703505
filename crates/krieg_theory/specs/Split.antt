-- What one try makes of a set of positions, one of which is the true one.
use Rattle.std.specs.Prelude.{Bool, not, ◌&&◌, List, [], filter, flat_map, if◌then◌else◌}
use Rattle.std.specs.List.{list_any}
use Rattle.krieg_theory.specs.Sets.{as_set, at_key, keys_in, is_nil}
use Rattle.krieg_theory.specs.Game.{Game}

module _ (G : Game) where
  -- the members in which the umpire calls the try illegal
  abbrev pub refused : List G.Position → G.Move → List G.Position
  refused B t = filter (λ p. not (G.legal p t)) B

  -- there is a member in which the try is legal
  abbrev pub legal_in_some : List G.Position → G.Move → Bool
  legal_in_some B t = list_any (λ p. G.legal p t) B

  -- the tries that make sense: those that are legal in some member, in order
  abbrev pub tries : List G.Position → List G.Move
  tries B = filter (legal_in_some B) G.moves

  -- there is a member in which it is legal and stalemates
  abbrev pub stale_in_some : List G.Position → G.Move → Bool
  stale_in_some B t = list_any (λ p. G.legal p t && G.stalemates p t) B

  -- the legal try mates: no reply is left, and it is no stalemate
  abbrev pub mates_at : G.Position → G.Move → Bool
  mates_at p t = G.legal p t && (not (G.stalemates p t) && is_nil (G.outcomes p t))

  -- what can come of the try in one position: nothing where it is illegal
  abbrev pub given : G.Move → G.Position → List (G.Key × G.Position)
  given t p = if G.legal p t then G.outcomes p t else []

  -- and in any member
  abbrev pub all_outcomes : List G.Position → G.Move → List (G.Key × G.Position)
  all_outcomes B t = flat_map (given t) B

  -- what may be heard after the try, ascending
  abbrev pub keys : List G.Position → G.Move → List G.Key
  keys B t = keys_in G.key_lt (all_outcomes B t)

  -- the positions that are possible once the key was heard
  abbrev pub class : List G.Position → G.Move → G.Key → List G.Position
  class B t key = as_set G.position_lt (at_key G.key_lt key (all_outcomes B t))
