pub mod Sheets
pub mod Turns
pub mod Lists
pub mod Places
pub mod SheetReading
pub mod SheetText
pub mod SheetSpelling
pub mod Games
