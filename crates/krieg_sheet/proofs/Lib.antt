mod Common
pub mod Hands
pub mod Entering
pub mod Entries
pub mod ListedPositions
pub mod SheetGrammars
pub mod SheetTexts
pub mod CleanLines
pub mod SheetsAgain
pub mod SheetsSpell
pub mod OneHand
