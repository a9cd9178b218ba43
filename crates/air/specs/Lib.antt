-- Who is on the air, and the order in which keyings began. (Marks: what the private functions find.)
-- InWords: the sentences once more, without these definitions.
pub mod Air
pub mod Order
pub mod Marks
pub mod InWords
