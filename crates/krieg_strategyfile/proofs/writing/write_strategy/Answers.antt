use Rattle.std.proofs.Common.{◌≡◌, ℕ, List, [], sym, ap, subst}
use Rattle.std.specs.Prelude.{IfOk}
use Rattle.krieg_strategyfile.proofs.Common.{put_lines, state_of, strategy_text}
use Rattle.krieg_strategyfile.proofs.Sizes.{text_short}
use Rattle.krieg_strategyfile.proofs.StrategyTexts.{spelled, again}
use Rattle.krieg_strategyfile.proofs.WrittenLines.{lines_are}
use Rattle.krieg_strategyfile.proofs.writing.write_strategy.Goals as goal

pub returns-clause-value : goal.returns-clause-value
unfolding strategy_text
returns-clause-value c = subst (λ (t : List ℕ). IfOk c.lines_of.result (λ v. v.items ≡ t)) (ap (put_lines []) (sym (lines_are (state_of c.args.s.now)))) c.lines_of.ensures

pub returns-clause-spelled : goal.returns-clause-spelled
returns-clause-spelled c = spelled (state_of c.args.s.now) c.requires

pub returns-clause-again : goal.returns-clause-again
returns-clause-again c = again (state_of c.args.s.now) c.requires

pub returns-clause-short : goal.returns-clause-short
returns-clause-short c = text_short (state_of c.args.s.now) c.requires
