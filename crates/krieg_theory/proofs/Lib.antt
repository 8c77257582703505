mod Common
pub mod Lists
pub mod Ascending
pub mod Keys
pub mod Steps
pub mod Shown
pub mod Built
pub mod Unique
pub mod Exists
pub mod Least
pub mod Planned
pub mod Theorems
pub mod First
pub mod Seen
