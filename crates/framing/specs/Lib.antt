-- A packet behind its length.
-- InWords: the sentences once more, without these definitions.
pub mod Framing
pub mod InWords
