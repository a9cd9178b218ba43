-- What the writers answer, and what is in the buffer afterwards. (Pieces: what the private functions do.)
-- InWords: the sentences once more, without these definitions.
pub mod Writing
pub mod Pieces
pub mod InWords
