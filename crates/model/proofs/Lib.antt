-- Lemmas and proofs of the promises.
-- placement
pub mod Rows
pub mod Room
pub mod Soundness
pub mod NeverFull
pub mod Agree
pub mod Suffices
pub mod PlacementSound
-- placement that stops
pub mod Alike
pub mod Misplaced
pub mod Stops
-- the pipeline
pub mod OneStage
pub mod Slots
pub mod Tracking
pub mod Meant
pub mod Undisturbed
pub mod UpdatesTaken
pub mod TwoSuffice
pub mod Promised
-- programs
pub mod BlocksMean
pub mod RowsUnfold
pub mod UntouchedFields
pub mod Worked
