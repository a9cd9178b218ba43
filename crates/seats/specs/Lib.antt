-- What opening, closing, time and the radio do to a seat, in the order of document 01.
-- InWords: the sentences once more, without these definitions.
pub mod Opening
pub mod Ticking
pub mod Radio
pub mod InWords
