-- What the crates above cite: the facts of a sound state, what an accepted program promises at its starts, what an instruction may do, that a step keeps a
-- sound state, and what a step leaves; below, what the proofs of the functions use.
-- Assumes nothing.
pub mod Facts
pub mod Fetching
pub mod Allowed
pub mod Keeping
pub mod Tables
pub mod Stepping
mod Soundness
mod Choosing
