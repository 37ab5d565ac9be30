-- `Numbers` has the laws that the crates above cite; the others serve the proofs of this crate alone.
-- Assumes nothing.
pub mod Numbers
pub mod Ways
pub mod Entering
