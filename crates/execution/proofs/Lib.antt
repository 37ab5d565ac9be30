-- The lemmas on plain numbers and lists. `Laws` serves the machine above, `Parts` and `Arms` serve the functions of this crate.
pub mod Laws
mod Parts
mod Arms
