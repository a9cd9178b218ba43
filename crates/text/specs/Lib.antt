-- What the functions of this crate promise.
pub mod Text
pub mod Lines
