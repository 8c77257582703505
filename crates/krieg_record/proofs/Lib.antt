mod Common
pub mod LastBytes
pub mod OriginTexts
pub mod OfficerTexts
pub mod PawnTexts
pub mod NotationTexts
pub mod MoveTellings
pub mod PawnMoves
pub mod Disambiguations
pub mod Sans
pub mod OwnMen
pub mod Meanings
pub mod MoveLines
pub mod RecordFormat
pub mod RecordGrammars
pub mod RecordReadings
pub mod SanLines
pub mod RecordTexts
