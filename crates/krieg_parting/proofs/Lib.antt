mod Common
mod Wanted
mod Items
pub mod Charges
pub mod LastMoves
pub mod Gathering
mod Trying
pub mod Advancing
