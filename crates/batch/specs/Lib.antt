pub mod Until
pub mod Batch
pub mod Noting
