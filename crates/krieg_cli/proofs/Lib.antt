mod Common
mod Complete
mod Headline
mod LedGames
mod Pieces
mod Limits
mod Reports
mod WholeGames
mod WholePlans
mod WholeRecords
mod WholeRefutations
mod WholeStrategies
pub mod Tables
pub mod Starting
