-- A strategy with what its player heard behind it: the laws of such texts, by those of strategies.
use Rattle.std.proofs.Common.{List, Result, Ok, Err, ℕ}
use Rattle.std.specs.Prelude.{IfOk}
use Rattle.krieg_strategyfile.proofs.Common.{TextFault, Always, Gives, StrategyState, strategy_at, strategy_format, SpellsStrategy, StrategyGrammar, CanBeWritten}
use Rattle.krieg_text.proofs.Formats.{whole_found, whole_only}
use Rattle.krieg_planfile.specs.HeardReading.{HeardState}
use Rattle.krieg_planfile.specs.HeardSpelling.{IsHeardReading}
use Rattle.krieg_planfile.proofs.HeardSpellings.{heard_reading}
use Rattle.krieg_format.specs.Readers.{reader}
use Rattle.krieg_format.specs.Tables.{table}
use Rattle.krieg_format.proofs.Reading.{law}
unfoldable use Rattle.krieg_strategyfile.specs.HeardStrategies.{heard_strategy}
use Rattle.krieg_strategyfile.proofs.StrategyLaws.{strategy_owes}
use Rattle.krieg_strategyfile.proofs.Writables.{spelled_can}

pub heard_strategy_reading : {X : Type 0} (view : X → HeardState StrategyState) (answer : Result X TextFault) (ls : List (List ℕ)) → Gives view answer (heard_strategy ls) →
    IsHeardReading strategy_at (λ s. s.dialect) Always SpellsStrategy StrategyGrammar view ls answer
unfolding strategy_at SpellsStrategy heard_strategy
heard_strategy_reading view answer ls given =
    let l = law strategy_format strategy_owes in
    let read = reader strategy_format in
    let says = table strategy_format in
    heard_reading read (λ s. s.dialect) Always says StrategyGrammar
    (record {
      goes = l.goes;
      found = λ ms s e. ((whole_found read Always says l.format ms s e).1, tt);
      again = whole_only read Always says l.format;
    })
    view answer ls given

-- what is read can be written
pub heard_can : {X : Type 0} (view : X → HeardState StrategyState) (answer : Result X TextFault) (ls : List (List ℕ)) → Gives view answer (heard_strategy ls) → IfOk answer (λ x. CanBeWritten (view x).file)
heard_can view (Ok x) ls given = let spelled = (heard_strategy_reading view (Ok x) ls given).found.0 in spelled_can (view x).file spelled.front spelled.first
heard_can view (Err e) ls given = tt
