mod Common
mod Arenas
pub mod Unfolding
