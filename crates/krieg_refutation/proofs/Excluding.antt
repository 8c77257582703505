-- A refutation that holds excludes every plan.
use Rattle.std.proofs.Common.{◌≡◌, Bool, true, ◌&&◌, [], sym, ◌∙◌}
use Rattle.std.proofs.lemmas.Bool.{and_parts, and_from}
use Rattle.krieg_costs.specs.Refutation as theory
use Rattle.krieg_costs.proofs.Refuted.{refutation_excludes}
use Rattle.krieg_refutation.proofs.Common.{chess, outset, Refutation, claims_of, is_own_turn, NoneMates}
use Rattle.krieg_game.proofs.ChessLaws.{chess_is_game, outset_is_lawful}

module _ (f : Refutation) where
  pub excluded : (held denied : Bool) → held ≡ theory.claims_hold (chess f.dialect) [] (claims_of f.dialect f.claims.items)
      → denied ≡ (is_own_turn f && theory.denies (chess f.dialect) (outset f.dialect f.side) f.moves f.list.items (theory.last_of (claims_of f.dialect f.claims.items)))
      → held ≡ true → denied ≡ true → NoneMates f
  excluded held denied h e holds denies plan =
      refutation_excludes (chess f.dialect) (chess_is_game f.dialect) (outset f.dialect f.side) (outset_is_lawful f.dialect f.side) f.moves f.list.items (claims_of f.dialect f.claims.items)
      (and_from _ _ (sym h ∙ holds) (and_parts (is_own_turn f) _ (sym e ∙ denies)).1) plan
