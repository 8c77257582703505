mod Common
mod ClaimLines
mod ReasonLines
mod RefutationLaws
mod WrittenLines
mod WrittenClaims
mod InPieces
mod Chains
mod Writables
mod Loops
mod RefutationTexts
pub mod Agreeing
pub mod Sizes
