pub mod Fold
pub mod Batch
pub mod Noting
