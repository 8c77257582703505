use Rattle.krieg_cli.proofs.WholeGames.{umpires_games, believes_games}
use Rattle.krieg_cli.proofs.WholeRecords.{returns_games}
use Rattle.krieg_cli.proofs.WholePlans.{checks_solutions}
use Rattle.krieg_cli.proofs.WholeRefutations.{refutes_sheets, denies_refutations}
use Rattle.krieg_cli.proofs.Headline.{solves_sheets}
use Rattle.krieg_cli.proofs.Complete.{completes}
use Rattle.krieg_cli.proofs.Common.{LivesBy}
use Rattle.krieg_cli.proofs.LedGames.{leads_to_mate}
use Rattle.krieg_cli.proofs.top.run.Goals as goal

pub returns-clause-umpires : goal.returns-clause-umpires
returns-clause-umpires g c = umpires_games (LivesBy _ _ _) _ _ _ _ _ (rw c.command_of.ensures at c.obey-ending.ensures.runs) c.status.ensures

pub returns-clause-believes : goal.returns-clause-believes
returns-clause-believes g c = believes_games (LivesBy _ _ _) _ _ _ _ _ (rw c.command_of.ensures at c.obey-ending.ensures.runs) c.status.ensures

pub returns-clause-solves : goal.returns-clause-solves
returns-clause-solves g c = solves_sheets (LivesBy _ _ _) _ _ _ _ _ _ _ (rw c.command_of.ensures at c.obey-ending.ensures.runs) c.report.ensures c.status.ensures

pub returns-clause-checks : goal.returns-clause-checks
returns-clause-checks g c = checks_solutions (LivesBy _ _ _) _ _ _ _ _ (rw c.command_of.ensures at c.obey-ending.ensures.runs) c.status.ensures

pub returns-clause-completes : goal.returns-clause-completes
returns-clause-completes g c = completes _ _ _ _ _ _ _ _ (rw c.command_of.ensures at c.obey-ending.ensures.runs) c.status.ensures

pub returns-clause-wins : goal.returns-clause-wins
returns-clause-wins g c = leads_to_mate _ _ _ _ _ _ _ _ (rw c.command_of.ensures at c.obey-ending.ensures.runs) c.status.ensures

pub returns-clause-returns : goal.returns-clause-returns
returns-clause-returns g c = returns_games (LivesBy _ _ _) _ _ _ _ _ (rw c.command_of.ensures at c.obey-ending.ensures.runs) c.status.ensures

pub returns-clause-refutes : goal.returns-clause-refutes
returns-clause-refutes g c = refutes_sheets (LivesBy _ _ _) _ _ _ _ _ (rw c.command_of.ensures at c.obey-ending.ensures.runs) c.status.ensures

pub returns-clause-denies : goal.returns-clause-denies
returns-clause-denies g c = denies_refutations (LivesBy _ _ _) _ _ _ _ _ (rw c.command_of.ensures at c.obey-ending.ensures.runs) c.status.ensures
