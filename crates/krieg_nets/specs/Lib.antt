pub mod Seen
pub mod Others
pub mod LoneKings
pub mod Nets
pub mod Answers
