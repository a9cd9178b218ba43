-- Every call of the bench as one definition: what it means (step), and what the code does (keeping).
pub mod Step
