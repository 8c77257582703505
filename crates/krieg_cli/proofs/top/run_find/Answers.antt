use Rattle.krieg_cli.proofs.Common.{LivesBy}
use Rattle.krieg_cli.proofs.Headline.{finds_sheets, lists_keys, shares_plans}
use Rattle.krieg_cli.proofs.WholeStrategies.{judges_strategies}
use Rattle.krieg_cli.proofs.LedGames.{conducts_to_mate}
use Rattle.krieg_cli.proofs.Complete.{completes}
use Rattle.krieg_cli.proofs.top.run_find.Goals as goal

pub returns-clause-finds : goal.returns-clause-finds
returns-clause-finds g c = finds_sheets (LivesBy _ _ _) _ _ _ _ _ _ _ (rw c.find_of.ensures at c.obey-ending.ensures.runs) c.report.ensures c.status.ensures

pub returns-clause-keys : goal.returns-clause-keys
returns-clause-keys g c = lists_keys (LivesBy _ _ _) _ _ _ _ _ _ _ (rw c.find_of.ensures at c.obey-ending.ensures.runs) c.report.ensures c.status.ensures

pub returns-clause-shares : goal.returns-clause-shares
returns-clause-shares g c = shares_plans (LivesBy _ _ _) _ _ _ _ _ _ _ (rw c.find_of.ensures at c.obey-ending.ensures.runs) c.report.ensures c.status.ensures

pub returns-clause-judges : goal.returns-clause-judges
returns-clause-judges g c = judges_strategies (LivesBy _ _ _) _ _ _ _ _ _ _ (rw c.find_of.ensures at c.obey-ending.ensures.runs) c.report.ensures c.status.ensures

pub returns-clause-wins : goal.returns-clause-wins
returns-clause-wins g c = conducts_to_mate _ _ _ _ _ _ _ _ (rw c.find_of.ensures at c.obey-ending.ensures.runs) c.status.ensures

pub returns-clause-completes : goal.returns-clause-completes
returns-clause-completes g c = completes _ _ _ _ _ _ _ _ (rw c.find_of.ensures at c.obey-ending.ensures.runs) c.status.ensures
