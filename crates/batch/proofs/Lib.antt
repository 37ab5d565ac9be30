-- `Theorem` has the claims of lists that follow one another; `Growing` says how the sets of lists until Q-3 stand to today's, `Taking` that a list goes on with the chip that
-- another left, `Noting` that it does with one that has a note, `Folding` with a folded one, `Joining` that their outputs are one run's. `Examples`, `FoldExamples` and
-- `NoteExamples` have such lists, computed.
-- Assumes nothing.
pub mod Growing
pub mod Taking
pub mod Noting
pub mod Folding
pub mod Joining
pub mod Theorem
pub mod Examples
pub mod FoldExamples
pub mod NoteExamples
