mod Common
pub mod KeyLaws
pub mod MoveOrder
pub mod ChessLaws
pub mod Winning
pub mod Splitting
pub mod Starting
pub mod Theorems
pub mod KeyNumbers
pub mod PackedKeys
pub mod OutcomeSets
pub mod Pools
mod Stepping
mod Between
mod Buckets
pub mod Classed
