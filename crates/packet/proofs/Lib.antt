pub mod Judged
pub mod TellApart
pub mod QualityLaws
pub mod Levels
pub mod ItemLaws
pub mod InWords
