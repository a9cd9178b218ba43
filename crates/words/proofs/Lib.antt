pub mod Choices
pub mod Lines
pub mod Values
pub mod Nibbles
