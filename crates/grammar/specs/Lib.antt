-- What the functions of this crate promise: what one word says, and what a line says. Pieces serves the private functions alone.
pub mod Said
pub mod Grammar
pub mod Pieces
