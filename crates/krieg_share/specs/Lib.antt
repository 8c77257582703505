pub mod Sharing
pub mod Parts
pub mod Sharers
pub mod Answers
pub mod Laws
