pub mod Teams
pub mod Games
pub mod Played
pub mod Broken
pub mod Benches
pub mod Calls
pub mod Passes
pub mod Players
