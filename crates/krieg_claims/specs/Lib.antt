pub mod InOrder
pub mod Written
pub mod Sizes
pub mod Laws
pub mod Standing
pub mod Walks
pub mod Losses
