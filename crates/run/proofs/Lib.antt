-- What the crates above cite: the laws of a run, and what an accepted call relies on; below, what the proofs of the functions use.
-- Assumes nothing.
pub mod Laws
mod Starting
mod Along
pub mod Accepting
pub mod Ruling
mod Flowing
mod Calls
mod Turns
mod Running
mod Stretching
