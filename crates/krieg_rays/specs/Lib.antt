pub mod Rays
pub mod Pinned
pub mod Snipers
