-- What is told of a position of which nothing is known.
use Rattle.krieg_sight.specs.declared.told.Told.{Told}

-- nothing is told
abbrev pub nothing : Told
nothing = record { none = 0; some = 0; fled = 0; met = 0 }
