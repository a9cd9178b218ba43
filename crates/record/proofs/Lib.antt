pub mod Seats
pub mod Maps
