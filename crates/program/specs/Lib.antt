pub mod Starts
pub mod Refusal
pub mod Check
pub mod Grounds
pub mod Places
