pub mod Parts
pub mod WordsText
pub mod WordsReading
pub mod Line
pub mod LineReading
pub mod Versions
