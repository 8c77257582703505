pub mod Told
pub mod Memo
pub mod Laws
