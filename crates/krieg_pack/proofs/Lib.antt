mod Common
pub mod CodeBits
pub mod Unpacking
pub mod MenSets
pub mod CodePairs
pub mod PackedOrder
pub mod ByteLemmas
pub mod Membership
pub mod Sorting
pub mod Counts
pub mod PositionSets
mod OneMen
mod Keeping
