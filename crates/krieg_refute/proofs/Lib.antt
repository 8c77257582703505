mod Common
mod Slots
pub mod Pushing
pub mod Reasoning
pub mod Carrying
pub mod Places
pub mod Blocking
pub mod Rows
pub mod FirstLost
pub mod FromEmpty
pub mod Sides
