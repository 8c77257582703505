pub mod Accounts
pub mod Scripts
pub mod Saying
pub mod LineReading
pub mod Streams
