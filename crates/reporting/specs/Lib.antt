-- What a report to a seat tells.
-- InWords: the sentences once more, without these definitions.
pub mod Reporting
pub mod InWords
