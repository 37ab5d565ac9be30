-- `Theorem` has Q-6's claim of lists; `Calls` the laws of a call, `Contents` those of what an old chip holds, `Kept` that the save reads back what the old chip holds, `Beginning` what its steps leave. Below, what they and the
-- proofs of the functions use. Chips that are folded, computed, are crate `batch`'s.
-- Assumes nothing.
pub mod Theorem
pub mod Calls
pub mod Contents
pub mod Kept
pub mod Beginning
pub mod Same
mod Ruling
mod Holding
mod Storing
mod Putting
pub mod Least
