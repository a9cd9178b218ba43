-- A packet for a seat and the audio to send, in one call.
pub mod Relaying
