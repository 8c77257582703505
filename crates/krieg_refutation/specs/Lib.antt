pub mod Refutations
pub mod Exclusion
pub mod TryResults
pub mod Reasons
