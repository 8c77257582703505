mod Common
pub mod Sets
pub mod Interning
pub mod RowEntries
pub mod Noting
pub mod Nexts
pub mod Onces
pub mod Calls
