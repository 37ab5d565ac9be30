-- `Bits`, `Sets` and `Members` are the laws that the crates above cite, `Examples` a table of members; `Words` and `Ranks` serve the proofs of this crate alone.
-- Assumes nothing.
pub mod Bits
pub mod Sets
pub mod Members
pub mod Examples
mod Words
mod Ranks
