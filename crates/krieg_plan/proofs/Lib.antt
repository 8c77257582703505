mod Common
pub mod NodeTrees
pub mod OrderedTrees
pub mod Listed
pub mod WonRoots
mod Dropping
mod Bisection
mod Lookups
