mod Common
pub mod Theorems
pub mod Telling
pub mod Looking
