use Rattle.std.proofs.Common.{◌∙◌, ◌∷◌, ◌++◌, [], nat_eq}
use Rattle.std.specs.List.{list_any}
use Rattle.std.proofs.lemmas.Bool.{cond-false}
use Rattle.krieg_share.proofs.Placing.{none_equal}
use Rattle.krieg_share.proofs.sharer.Sharer.place.Goals as goal

pub returns-clause-placed : goal.returns-clause-placed
returns-clause-placed c =
    let ks = c.args.self.now.placed.keys in
    c.in_ok-insert.ensures.keys ∙ cond-false (list_any (nat_eq c.args.set) ks) ks (ks ++ c.args.set ∷ []) (none_equal ks c.args.set c.requires.new)
