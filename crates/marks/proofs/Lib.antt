-- `Laws` is what the crates above cite; `Turning` and `Making` serve the proofs of this crate alone.
-- Assumes nothing.
pub mod Laws
mod Turning
mod Making
