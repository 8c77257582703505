-- Why a search stops, by why a split does.
use Rattle.krieg_parting.specs.declared.stop.PartStop.{PartStop}
use Rattle.krieg_parting.specs.declared.stop.PartStop.TheVariants as split
use Rattle.krieg_search.specs.declared.stop.SearchStop.{SearchStop}
use Rattle.krieg_search.specs.declared.stop.SearchStop.TheVariants.{Spent, NoMemory}

-- why a search stops where a split does
abbrev pub stop_of : PartStop → SearchStop
stop_of split.Spent = Spent
stop_of split.NoMemory = NoMemory
