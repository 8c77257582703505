-- A step's answer, with the units that it took, or that they are too few.
pub use Rattle.krieg_parting.specs.Charges.{Charges}
