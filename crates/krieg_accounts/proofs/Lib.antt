mod Common
pub mod Tables
pub mod Appended
pub mod Below
pub mod Owed
pub mod Stretches
pub mod TryOrder
pub mod TryEnds
pub mod TryWalk
pub mod SetWalk
pub mod Covering
pub mod Floors
pub mod Canonical
pub mod Searches
pub mod ToyTables
pub mod ToySearch
