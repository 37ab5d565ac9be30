pub mod Run
pub mod Standing
pub mod Quiet
pub mod Stretch
