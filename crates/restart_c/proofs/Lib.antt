-- `Theorem` has demand 3 of the C calls, `Hosts` what it says of the loop of examples/host.c; the others serve it.
-- Assumes nothing.
pub mod Theorem
pub mod Hosts
pub mod FoundSets
mod Outputs
mod Back
pub mod Calling
