-- The theorems over bytes, the laws of the answer of `scan` and of a checkpoint that is written, which the crates above cite; below, what they and the proofs
-- of the functions use.
-- Assumes nothing.
pub mod Paging
pub mod Decoding
pub mod Torn
pub mod Back
pub mod Storing
pub mod Saves
pub mod Written
pub mod Fixed
pub mod Apart
pub mod Naming
pub mod Padding
mod Images
mod Meeting
mod Numbers
mod Offsets
mod Fieldwise
mod Passing
mod Restoring
mod Tails
mod Peeling
mod Walking
mod Trimming
mod Joining
mod Filling
