mod Common
mod Charges
mod PartSizes
pub mod LastMoves
mod Renaming
mod FirstMoves
mod TryLists
mod Tallying
mod PackedHeards
pub mod SetParts
