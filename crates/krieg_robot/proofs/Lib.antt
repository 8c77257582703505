mod Common
pub mod ListedAt
mod Following
mod Numbered
mod HeardMore
mod Moving
mod Holding
pub mod Winning
mod Breaking
mod Asking
mod Judging
mod Turning
mod Passing
mod Beginning
