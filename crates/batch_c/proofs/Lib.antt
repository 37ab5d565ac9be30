-- `Theorem` has the claims of lists of C calls that follow one another, `Folding` that of lists of calls of pitskelo_fold.
-- Assumes nothing.
pub mod Folding
pub mod Theorem
mod Bytes
