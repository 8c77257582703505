use Rattle.std.proofs.Common.{rules, Ok, refl}
use Rattle.krieg_play.proofs.Common.{Tried, Relieved}
use Rattle.krieg_play.specs.declared.ask_outcome.AskOutcome.TheVariants.{Left}
use Rattle.krieg_play.proofs.turns.take_turn.Goals as goal

pub returns-in-Ok-Tried-clause-turn : goal.returns-in-Ok-Tried-clause-turn
returns-in-Ok-Tried-clause-turn g c = record { said = Ok (Tried c.in-Ok-Tried.mv); white = c.ask.new.white; black = c.ask.new.black; asked = search rules; follows = (c.judge_try.result, search rules, search rules, search rules) }

pub returns-in-Ok-Relieved-clause-turn : goal.returns-in-Ok-Relieved-clause-turn
returns-in-Ok-Relieved-clause-turn g c = record { said = Ok Relieved; white = c.ask.new.white; black = c.ask.new.black; asked = search rules; follows = (refl, refl, refl, refl) }

pub returns-in-Ok-Left-clause-turn : goal.returns-in-Ok-Left-clause-turn
returns-in-Ok-Left-clause-turn g c = record { said = Ok Left; white = c.ask.new.white; black = c.ask.new.black; asked = search rules; follows = (search rules, refl, refl, refl) }
