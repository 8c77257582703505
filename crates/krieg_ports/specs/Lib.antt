pub mod Faults
pub mod Bytes
pub mod ReadEnd
pub mod Memory
pub mod Adapters
