-- What a packet for a seat does, and what its seat counts. (Pieces: what the private functions answer.)
-- InWords: the sentences once more, without these definitions.
pub mod Account
pub mod Hearing
pub mod Pieces
pub mod InWords
