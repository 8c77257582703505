mod Common
pub mod Ends
pub mod Stripping
pub mod Tellings
pub mod HeardLines
pub mod InPlace
pub mod SheetsOfGames
pub mod SessionFormat
pub mod LastPositions
pub mod DoneMoves
