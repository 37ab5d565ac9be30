pub mod Reference
pub mod History
pub mod Claim
pub mod Rows
