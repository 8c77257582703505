mod Common
pub mod FirstSeats
pub mod Tellings
pub mod Serving
pub mod Courses
pub mod SideCalls
pub mod HeardLines
pub mod BothSides
pub mod Judging
pub mod Turning
pub mod Rosters
pub mod Stopping
pub mod Opening
pub mod Seen
