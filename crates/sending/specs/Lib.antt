-- What a tick does, tells and sends.
-- InWords: the sentences once more, without these definitions.
pub mod Sending
pub mod InWords
