pub mod Stored
pub mod Sound
pub mod Charges
pub mod Stretch
pub mod Answers
pub mod Laws
pub mod Toy
