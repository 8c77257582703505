mod Common
pub mod SquareTests
pub mod MenLemmas
pub mod Facts
pub mod SetLemmas
pub mod SameTests
pub mod BoardSets
pub mod Writing
pub mod Counting
pub mod OneKing
pub mod Copying
pub mod SameMen
pub mod Picked
pub mod MoveOrder
pub mod Ones
pub mod Faults
pub mod Searching
pub mod Joining
