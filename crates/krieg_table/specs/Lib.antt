pub mod Results
pub mod SetRows
pub mod Entries
pub mod Table
pub mod Opened
