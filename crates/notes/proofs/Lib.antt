-- `Laws` has that a call of `spent` leaves one answer and is refused as a recovery is, `Noting` that a chip with a note reads as it did, but for spent cells. Below, what the proofs of
-- the functions use.
-- Assumes nothing.
pub mod Laws
pub mod Noting
mod Numbering
mod Finding
mod Telling
mod Asking
