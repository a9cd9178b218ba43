-- The code does what the definitions say, and its promises leave one answer and ask nothing. In the order in which they build on each other.
pub mod ReadBack
pub mod StepOfCode
pub mod CallWidths
pub mod Tight
pub mod AsksNothing
pub mod Walked
