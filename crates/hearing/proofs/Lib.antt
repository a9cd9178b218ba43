pub mod AccountLaws
pub mod Accepted
pub mod Sides
pub mod PacketSteps
pub mod InWords
pub mod HeededInWords
