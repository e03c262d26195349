-- The model: what a switch program means, what the pipeline does, and the promises that tie the two.
-- Read in this order; each file is one concept, and assumes only those before it.
pub mod Packet
pub mod Declarations
pub mod Action
pub mod Table
pub mod Paths
pub mod Meaning
pub mod Blocks
pub mod Statements
pub mod Node
pub mod Version
pub mod Stage
pub mod Pipeline
pub mod Answer
pub mod Meant
pub mod Sound
pub mod Placement
pub mod Stopping
pub mod TwoVersions
pub mod Untouched
pub mod Cases
pub mod Promises
