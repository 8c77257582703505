-- The parts of a set, and how large they are.
use Rattle.std.proofs.Common.{suc, ◌≤◌, Bool, true, false, cond, List, [], ◌∷◌, length, arith}
use Rattle.krieg_split.proofs.Common.{Pos, Move, Dialect, position_lt, same, at_key, given, all_outcomes, class, made, Key, key_lt, KeyedPosition, chess, ClassesAreSets, RefusedIsSet}
use Rattle.krieg_pack.proofs.Counts.{as_set_le}
use Rattle.krieg_theory.proofs.Steps.{refused_lt}
use Rattle.krieg_costs.proofs.Totals.{length_flat}
use Rattle.krieg_game.proofs.ChessLaws.{chess_is_game}
use Rattle.krieg_game.proofs.Splitting.{refused_ascends, classes_come_about}

at_key_le : (key : Key) (os : List KeyedPosition) → length (at_key key_lt key os) ≤ length os
at_key_le key [] = omega arith
at_key_le key (o ∷ os) = go (same key_lt o.0 key) (at_key_le key os)
  where
    go : (b : Bool) → length (at_key key_lt key os) ≤ length os → length (cond b (o.1 ∷ at_key key_lt key os) (at_key key_lt key os)) ≤ suc (length os)
    go true r = omega arith
    go false r = omega arith

class_le : (d : Dialect) (B : List Pos) (t : Move) (key : Key) → length (class (chess d) B t key) ≤ made (chess d) B t
class_le d B t key =
    let a = as_set_le position_lt (at_key key_lt key (all_outcomes (chess d) B t)) in
    let b = at_key_le key (all_outcomes (chess d) B t) in
    let c = length_flat (given (chess d) t) B in
    omega (arith, a, b, c)

pub classes_are_sets : (d : Dialect) → ClassesAreSets d
classes_are_sets d B t key =
    let c = classes_come_about d B t key.0 key.1 in
    record { ascending = c.ascending; some = c.occurs.0; few = class_le d B t key }

pub refused_is_set : (d : Dialect) → RefusedIsSet d
refused_is_set d B t = record { ascending = refused_ascends d B t; fewer = refused_lt (chess d) (chess_is_game d) B t }
