-- What the crates above cite: the laws of recovery, and in `Recovering` what is known of an accepted call once the chip is read.
-- Assumes nothing.
pub mod Laws
pub mod Ruling
pub mod Recovering
