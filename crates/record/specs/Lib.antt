-- The record of the bench, and what depends on the kind of radio.
pub mod Kind
pub mod Record
