pub mod Words
pub mod WrittenLaws
pub mod InWords
