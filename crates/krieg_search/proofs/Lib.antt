mod Common
pub mod Searching
pub mod Leaving
pub mod Blocked
pub mod Noted
pub mod Telling
pub mod Trying
mod StillBlocked
mod Tries
mod Numbers
mod Noting
pub mod NextNotes
pub mod Checking
mod Asking
pub mod Adding
pub mod OpenedSets
pub mod Accounting
pub mod Deciding
mod ChessLaws
