use Rattle.krieg_solve.proofs.best_plan.build_plan.Goals as goal

pub build_roots-built-requires-clause-numbered : goal.build_roots-built-requires-clause-numbered
build_roots-built-requires-clause-numbered c = rw c.deref.ensures.value c.requires.numbered

pub build_roots-built-requires-clause-won : goal.build_roots-built-requires-clause-won
build_roots-built-requires-clause-won c = rw c.deref.ensures.value c.requires.won
