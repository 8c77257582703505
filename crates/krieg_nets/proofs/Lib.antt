pub mod OwnMoves
pub mod HisMoves
pub mod Keeping
pub mod Meeting
pub mod Failing
pub mod Fleeing
pub mod Telling
