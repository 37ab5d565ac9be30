-- What the crates above cite: what a call of the machine leaves, refused or accepted; below, what the proofs of the functions use.
-- Assumes nothing.
pub mod Running
mod Stretches
mod Whole
