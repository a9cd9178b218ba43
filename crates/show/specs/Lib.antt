-- What a packet looks like as a line.
pub mod Lines
