pub mod Refutations
pub mod Writable
pub mod LineForms
pub mod RefutationLines
pub mod RefutationFormat
pub mod RefutationText
pub mod Parts
pub mod InPieces
