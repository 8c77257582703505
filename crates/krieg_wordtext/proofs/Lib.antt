mod Common
mod Cases
pub mod PartLaws
pub mod NameLaws
pub mod CleanWords
pub mod FormLaws
pub mod WordsLaws
pub mod LineLaws
pub mod ToldLines
pub mod WordsWritten
pub mod VersionTexts
pub mod VersionSpellings
pub mod VersionFormats
