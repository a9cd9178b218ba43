-- Demand 1: each refusal comes in exactly its case, and changes nothing. In the order in which they build on each other.
pub mod Exact
pub mod Calls
pub mod ExactCalls
pub mod ExactAll
pub mod EachRefusal
pub mod BuffersStay
