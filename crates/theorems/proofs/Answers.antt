-- What the definitions say of refusals and of whole calls: one outcome, its bounds, and the second run. Assumes nothing.
pub mod EachFacts
pub mod Joining
pub mod Parts
pub mod CountRow
pub mod KeptSizes
pub mod CompactFlat
pub mod CompactAccepted
pub mod CompactAgain
pub mod Taken
pub mod OneOutcome
pub mod SecondRun
pub mod RefusalPlaces
pub mod Causes
pub mod Bounds
pub mod ResultBounds
