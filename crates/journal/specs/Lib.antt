pub mod Format
pub mod Reading
pub mod Scanned
pub mod Answer
pub mod Parts
pub mod Writing
pub mod Shape
