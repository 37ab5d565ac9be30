pub mod Paths
pub mod Analyse
pub mod Search
pub mod Rows
