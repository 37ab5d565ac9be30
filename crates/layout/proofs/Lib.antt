-- `Laws` and `Numbering` are what the crates above cite; `Turning` serves the proofs of this crate alone.
-- Assumes nothing.
pub mod Numbering
mod Turning
pub mod Laws
