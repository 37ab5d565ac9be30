pub mod Effects
pub mod Plain
