pub mod Bits
pub mod Enough
