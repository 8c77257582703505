pub mod Sharing
pub mod Parts
mod Placing
mod Sharers
mod Rooted
mod Answering
