-- `Access`, `Safety` and `Fixed` are what the crates above cite; `Certificates`, `Rounds` and `Table` decide the definitions on given programs, document 01's rows
-- among them, and `Computed` the words that analyse leaves for such programs; the others serve the proofs of this crate alone.
-- Assumes nothing.
pub mod Access
pub mod Safety
pub mod Fixed
pub mod Certificates
pub mod Rounds
pub mod Table
pub mod Computed
pub mod Gathering
pub mod Bridging
pub mod Searching
pub mod Looping
pub mod Placing
pub mod Answering
mod Ruling
