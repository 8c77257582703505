mod Common
pub mod Totals
pub mod Pairs
pub mod Onces
pub mod Costs
pub mod Reached
pub mod Blocks
pub mod Refuted
pub mod LostSets
pub mod WonSets
pub mod Backed
