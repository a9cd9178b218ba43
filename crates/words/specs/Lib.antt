-- What the functions of this crate promise.
pub mod Input
pub mod Numbers
pub mod Pairs
