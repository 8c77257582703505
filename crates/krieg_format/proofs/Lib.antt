mod Common
pub mod Binds
pub mod Judged
pub mod Reading
pub mod Writing
pub mod Leaves
pub mod Repeats
pub mod LeafTexts
pub mod Fitting
