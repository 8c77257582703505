use Rattle.std.proofs.Common.{Bool, ◌≡◌, true, false, not, refl, ap, subst, ◌∙◌, arith}
use Rattle.krieg_search.proofs.Common.{chess, set_at, CoversTry, TellsTry}
use Rattle.krieg_search.proofs.Searching.{searched_nothing, stopped, wanted_memory, none_after}
use Rattle.krieg_search.proofs.search.Search.begins.Goals as goal

twice : (b : Bool) → not (not b) ≡ b
twice true = refl
twice false = refl

pub returns-in_err-opened-clause-searched : goal.returns-in_err-opened-clause-searched
returns-in_err-opened-clause-searched c = wanted_memory c.args.way.d c.args.way.cut c.from_residual.result _ _ _ _ _ (λ x h. h) c.from_residual.ensures.1 (omega arith)

pub returns-in_err-opened-clause-ready : goal.returns-in_err-opened-clause-ready
returns-in_err-opened-clause-ready c = none_after _ _ c.from_residual.result c.from_residual.ensures.1

pub block_of-requires-clause-asked : goal.block_of-requires-clause-asked
block_of-requires-clause-asked c = record { some = c.requires.some; within = c.requires.within; opened = c.in_ok-opened.ensures }

pub block_of-requires-clause-tried : goal.block_of-requires-clause-tried
block_of-requires-clause-tried c = record { told = tt; legal = c.requires.legal }

pub returns-in_err-block-clause-searched : goal.returns-in_err-block-clause-searched
returns-in_err-block-clause-searched c =
    let d = c.args.way.d in
    let covers = CoversTry (chess d) (set_at c.args.self.now.table c.args.set) c.args.moves c.args.mv in
    stopped d c.args.way.cut c.from_residual-in_err-block.result c.in_err-block.field-0.0 _ _ _ (λ x h. cc) c.from_residual-in_err-block.ensures.1 _ _ _ (λ R q. q)
    (searched_nothing d c.args.way.cut covers c.args.self.now.table c.args.self.now.units c.requires.ready.0) (omega arith) c.in_err-block.ensures.searched

pub returns-in_err-block-clause-ready : goal.returns-in_err-block-clause-ready
returns-in_err-block-clause-ready c = none_after _ _ c.from_residual-in_err-block.result c.from_residual-in_err-block.ensures.1

pub returns-clause-searched : goal.returns-clause-searched
returns-clause-searched c =
    let B = set_at c.args.self.now.table c.args.set in
    let w = c.in_ok-block.ensures.searched in
    (subst (TellsTry c.args.way.d c.args.way.cut c.block_of.new.self.table B c.args.moves c.args.mv) (ap not c.is_none.ensures ∙ twice c.is_none.result) w.0.tells, w.1)
