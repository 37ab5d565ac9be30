-- `Waiting` has the laws of the worklist that the crates above cite; the others serve the proofs of this crate alone.
-- Assumes nothing.
pub mod Waiting
pub mod Threads
pub mod Turns
pub mod Filling
pub mod Draining
pub mod Settling
