pub mod OneByOne
pub mod Taken
pub mod Meaning
