pub mod Accepted
pub mod OpeningLaws
pub mod TickingLaws
pub mod TwoTicks
pub mod InWords
