pub mod Parts
pub mod Wants
pub mod Gathering
pub mod Mating
pub mod FirstMoves
pub mod Turns
pub mod Charges
