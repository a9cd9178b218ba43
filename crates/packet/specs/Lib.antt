-- What a packet is, in the order of document 01. (How one is read and written: the crates reader and writer.)
-- InWords: the sentences once more, without these definitions.
pub mod Packet
pub mod Items
pub mod Messages
pub mod Refusals
pub mod Quality
pub mod InWords
