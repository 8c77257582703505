pub mod Wings
pub mod After
pub mod Legal
pub mod Moves
pub mod Guarding
pub mod Targets
pub mod Ways
