mod Common
pub mod Building
mod Edging
mod Rooting
mod Ordering
pub mod Solving
mod Charging
mod LaterPrices
mod Keying
mod KeySets
mod KeyRoots
mod KeyLaws
