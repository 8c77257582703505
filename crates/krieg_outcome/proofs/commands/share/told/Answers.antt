use Rattle.std.proofs.Common.{ℕ, List, Ok, map, refl, sym, subst}
use Rattle.std.specs.List.{All}
use Rattle.krieg_strategy.specs.WellFormed.{IsStrategy}
use Rattle.krieg_strategy.specs.Roots.{root_of}
use Rattle.krieg_strategyfile.specs.Writable.{CanBeWritten}
use Rattle.krieg_outcome.proofs.Common.{Pos, IsValid, strategy_of, IsBestStrategy, IsStrategyAnswer, MakesStrategy}
use Rattle.krieg_outcome.proofs.SharedTexts.{well_formed_by, can_be_written}
use Rattle.krieg_outcome.proofs.commands.share.told.Goals as goal

pub invariant_of-strategy : goal.invariant_of-strategy
invariant_of-strategy c =
    let roots = map root_of c.in-Mates.roots.items in
    let best : IsBestStrategy c.args.d c.args.who c.args.set.now c.args.moves c.in-Mates.worst c.in-Mates.nodes roots =
    subst (λ a. IsStrategyAnswer c.args.d c.args.who c.args.set.now c.args.moves (Ok a)) c.in-Mates.is c.requires.answer in
    record {
      well_formed = subst (λ (w : ℕ). IsStrategy c.in-Mates.nodes roots w) (sym c.from.ensures)
          (well_formed_by c.args.d c.args.who c.args.set.now c.args.moves c.in-Mates.worst c.in-Mates.nodes roots c.requires.some c.requires.hand best c.in-Mates.roots.items refl (subst MakesStrategy c.in-Mates.is c.requires.well_formed));
    }

pub write_strategy-requires : goal.write_strategy-requires
write_strategy-requires c =
    let roots = map root_of c.in-Mates.roots.items in
    let same = c.in_ok-listed-in-Mates.ensures.same in
    let best : IsBestStrategy c.args.d c.args.who c.args.set.now c.args.moves c.in-Mates.worst c.in-Mates.nodes roots =
    subst (λ a. IsStrategyAnswer c.args.d c.args.who c.args.set.now c.args.moves (Ok a)) c.in-Mates.is c.requires.answer in
    let formed = well_formed_by c.args.d c.args.who c.args.set.now c.args.moves c.in-Mates.worst c.in-Mates.nodes roots c.requires.some c.requires.hand best c.in-Mates.roots.items refl (subst MakesStrategy c.in-Mates.is c.requires.well_formed) in
    subst (λ (w : ℕ). CanBeWritten (strategy_of c.args.d c.args.who c.in_ok-listed-in-Mates.field-0.items w c.in-Mates.nodes roots)) (sym c.from.ensures)
    (subst (λ (L : List Pos). CanBeWritten (strategy_of c.args.d c.args.who L c.in-Mates.worst c.in-Mates.nodes roots)) (sym same)
    (can_be_written c.args.d c.args.who c.args.set.now c.args.moves c.in-Mates.worst c.in-Mates.nodes roots c.requires.some c.requires.hand best c.requires.few (subst (All IsValid) same c.in_ok-listed-in-Mates.ensures.valid) formed))
