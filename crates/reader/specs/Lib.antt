-- What the readers answer. (Pieces: what the private functions do; no public promise needs it.)
pub mod Reading
pub mod Pieces
