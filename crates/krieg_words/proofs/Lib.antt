mod Common
pub mod Lengths
pub mod Givers
pub mod Cases
pub mod OrderLaws
pub mod RangeSums
pub mod PawnCaptures
pub mod TriesBound
pub mod TriesCount
pub mod SaidLaws
pub mod ToldLaws
pub mod ToldMoves
pub mod HandsKept
pub mod DialectNames
pub mod WordNumbers
