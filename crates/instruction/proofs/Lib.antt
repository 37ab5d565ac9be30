pub mod Entries
pub mod Lengths
pub mod Arms
pub mod Sets
