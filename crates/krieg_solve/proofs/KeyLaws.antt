-- The keys of a set are the tries that begin a tree which wins all of it.
use Rattle.std.proofs.Common.{ap, subst}
use Rattle.std.specs.List.{filter}
use Rattle.krieg_solve.proofs.Common.{Move, Dialect, In, legal_in_some, tries, begins, KeyTry, key_try, KeysAreWon, chess}
use Rattle.krieg_theory.proofs.Lists.{in_map, map_in, in_filter, filter_in}
use Rattle.krieg_theory.proofs.Theorems as theory
use Rattle.krieg_costs.proofs.Costs.{legal_try}
use Rattle.krieg_game.proofs.ChessLaws.{chess_is_game}

pub keys_are_won : (d : Dialect) → KeysAreWon d
keys_are_won d B j t = (
  (λ i. (
      let k = map_in (key_try d B) (filter (begins (chess d) j B) (tries (chess d) B)) (key_try d B t) i in
      let a = filter_in (begins (chess d) j B) (tries (chess d) B) t (subst (λ (x : Move). In x (filter (begins (chess d) j B) (tries (chess d) B))) (ap (λ (y : KeyTry). y.mv) k.2) k.1) in
      let legal = (filter_in (legal_in_some (chess d) B) (chess d).moves t a.0).1 in
      let w = (theory.begins_is_won (chess d) (chess_is_game d) B j t legal).0 a.1 in (legal, w.0, w.1, w.2))),
  (λ w. in_map (key_try d B) (filter (begins (chess d) j B) (tries (chess d) B)) t (in_filter (begins (chess d) j B) (tries (chess d) B) t (legal_try (chess d) (chess_is_game d) B t w.0) ((theory.begins_is_won (chess d) (chess_is_game d) B j t w.0).1 (w.1, w.2, w.3)))),
)
