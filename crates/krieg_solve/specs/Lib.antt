pub mod Solutions
pub mod BuiltPlan
pub mod Building
pub mod BuiltRoots
pub mod KeyTries
pub mod SetKeys
pub mod Laws
