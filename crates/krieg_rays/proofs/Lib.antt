mod Common
pub mod Ends
pub mod Seen
pub mod Entries
pub mod Geometry
pub mod Spans
pub mod Symmetry
pub mod Attacking
pub mod Pinning
pub mod Taking
pub mod Sniping
pub mod Kings
pub mod ByKind
pub mod Behind
pub mod PinsBehind
