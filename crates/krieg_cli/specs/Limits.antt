-- The limits in numbers. Readers, commands and definitions cite the constants alone, and here is what each of them is.
use Rattle.std.specs.Prelude.{◌≡◌, ◌≤◌}
use Rattle.krieg_board.specs.declared.limits.TheConstants.{MOST_MOVES, MOST_UNITS}
use Rattle.krieg_fen.specs.declared.forms.TheConstants.{MOST_LISTED}
use Rattle.krieg_words.specs.declared.words.TheConstants.{MOST_TRIES}
use Rattle.krieg_plan.specs.declared.limits.TheConstants.{MOST_NODES, MOST_ON_PATH}
use Rattle.krieg_planfile.specs.PlanReading as plan
use Rattle.krieg_strategy.specs.declared.limits.TheConstants as strategy
use Rattle.krieg_strategyfile.specs.StrategyText as shared
use Rattle.krieg_refutation.specs.declared.refutation.TheConstants.{MOST_CLAIMS, MOST_CLAIMED}
use Rattle.krieg_refutefile.specs.RefutationText as refutation
use Rattle.krieg_args.specs.declared.command.TheConstants.{MOST_ASKS, MOST_SEED, MOST_FIND_MOVES, MOST_FIND_UNITS}
use Rattle.krieg_outcome.specs.declared.limits.TheConstants.{JOB_MOVES, MOST_INPUT}

-- the constant of the code, and its number
pub record AreLimits : Type 0 where
  -- the bytes of an input
  pub input : MOST_INPUT ≡ 67108864
  -- the positions that a text lists, and those of a set: a LIMIT, and the NUMBER of `lead`
  pub listed : MOST_LISTED ≡ 200000
  -- the own moves that `solve` and `refute` are asked for, and those of a job
  pub moves : MOST_MOVES ≡ 6
  pub job : JOB_MOVES ≡ 1
  -- the units that a command is given, and each search and check of a job
  pub budget : MOST_UNITS ≡ 50000000
  -- the own moves that `find` is asked for instead, and the units that it is given
  pub find_moves : MOST_FIND_MOVES ≡ 100
  pub find_budget : MOST_FIND_UNITS ≡ 4000000000
  -- how often players are asked
  pub asks : MOST_ASKS ≡ 4096
  -- the number of a made input
  pub seed : MOST_SEED ≡ 4294967295
  -- the pawn tries that words tell
  pub tries : MOST_TRIES ≡ 16
  -- the nodes of a plan, and those of one of its paths: the own moves that it may take
  pub nodes : MOST_NODES ≡ 100000
  pub path : MOST_ON_PATH ≡ 2500
  -- the nodes of a strategy, the edges of all of them, its roots, and the own moves that it claims
  pub strategy_nodes : strategy.MOST_NODES ≡ 100000
  pub edges : strategy.MOST_EDGES ≡ 250000
  pub roots : strategy.MOST_ROOTS ≡ 50000
  pub worst : strategy.MOST_WORST ≡ 2500
  -- the claims of a refutation, and the positions of all of these, and so their reasons
  pub claims : MOST_CLAIMS ≡ 20000
  pub claimed : MOST_CLAIMED ≡ 200000

-- an input has room for every text of a plan file, and for every refutation and every strategy that is written
pub record FitInputs : Type 0 where
  pub plans : plan.read_bound ≤ MOST_INPUT
  pub refutations : refutation.text_bound ≤ MOST_INPUT
  pub strategies : shared.text_bound ≤ MOST_INPUT
