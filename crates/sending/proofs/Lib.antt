pub mod Accepted
pub mod Records
pub mod BySeat
pub mod Numbers
pub mod TwoTicks
pub mod Singles
pub mod SendingLaws
pub mod InWords
