-- `Theorem` has demand 3. Layer A, which cells a save may leave out: Effects, Agreement, Leaving. Layer B, what stands on the journal: Checkpoints, Phases.
-- They meet in Steps; Frames has the laws of the reference run, Restoring what recovery takes up. Rows computes document 01's rows, and Examples has histories
-- that exist, of a plan that is cut and of one that ends.
-- Assumes nothing.
pub mod Theorem
pub mod Invariant
pub mod Frames
pub mod Effects
pub mod Agreement
pub mod Checkpoints
pub mod Bounds
pub mod Leaving
pub mod Phases
pub mod Restoring
pub mod Sets
pub mod Commits
pub mod Lists
pub mod Outcomes
mod Testing
pub mod Shaped
pub mod Computing
pub mod Rows
pub mod Examples
mod Due
pub mod Steps
pub mod Giving
mod Stopping
pub mod Traces
pub mod Along
pub mod Runs
pub mod Upheld
pub mod Refusing
mod Reaching
pub mod Hosts
