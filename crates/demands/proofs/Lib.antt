-- The proofs of the statements in specs/, by demand; a statement is proved in the file of its name.
pub mod Demand1
pub mod Demand2
pub mod Demand3
pub mod Bench
pub mod Promises
