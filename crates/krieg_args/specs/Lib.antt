pub mod Kinds
pub mod Rows
pub mod Command
pub mod Files
