pub mod Framing
pub mod InWords
