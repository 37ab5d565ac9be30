pub mod Fold
pub mod Lists
