-- The laws on plain numbers and lists. `Laws`, `Signed` and `Bytes` serve the crates above too, and `Examples` are worked rows.
pub mod Laws
pub mod Signed
pub mod Bytes
pub mod Splitting
pub mod Examples
