use Rattle.krieg_outcome.proofs.outcomes.whole_outcome.Goals as goal

pub returns-in-Solve-clause-outcome : goal.returns-in-Solve-clause-outcome
returns-in-Solve-clause-outcome g c = rw c.in-Solve.is c.answer.ensures

pub returns-in-Find-clause-outcome : goal.returns-in-Find-clause-outcome
returns-in-Find-clause-outcome g c = rw c.in-Find.is c.answer-in-Find.ensures

pub returns-in-Keys-clause-outcome : goal.returns-in-Keys-clause-outcome
returns-in-Keys-clause-outcome g c = rw c.in-Keys.is c.answer-in-Keys.ensures

pub returns-in-Share-clause-outcome : goal.returns-in-Share-clause-outcome
returns-in-Share-clause-outcome g c = rw c.in-Share.is c.answer-in-Share.ensures

pub returns-in-Lead-clause-outcome : goal.returns-in-Lead-clause-outcome
returns-in-Lead-clause-outcome g c = rw c.in-Lead.is c.answer-in-Lead.ensures.outcome

pub returns-in-Lead-clause-bench : goal.returns-in-Lead-clause-bench
returns-in-Lead-clause-bench g c = rw c.in-Lead.is c.answer-in-Lead.ensures.bench

pub returns-in-Conduct-clause-outcome : goal.returns-in-Conduct-clause-outcome
returns-in-Conduct-clause-outcome g c = rw c.in-Conduct.is c.answer-in-Conduct.ensures.outcome

pub returns-in-Conduct-clause-bench : goal.returns-in-Conduct-clause-bench
returns-in-Conduct-clause-bench g c = rw c.in-Conduct.is c.answer-in-Conduct.ensures.bench
