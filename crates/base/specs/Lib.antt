-- What the crates above share: bytes, lists, text, and the order of packets.
-- InWords: the sentences once more, without these definitions.
pub mod Bytes
pub mod Lists
pub mod Text
pub mod Order
pub mod InWords
