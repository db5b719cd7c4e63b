pub mod AboveVersions
pub mod Agreement
mod BookSample
pub mod Choices
mod Contents
pub mod CellsFrom
pub mod ClaimsBeside
pub mod Each
pub mod FitsBeside
pub mod Follows
pub mod InWay
pub mod InstallsAbove
pub mod KeptAgreement
pub mod KeptFacts
pub mod KeptRows
mod LockTable
pub mod PlanRows
pub mod PlanShapes
pub mod Refusals
pub mod OpenedRows
pub mod OwnKeys
pub mod OpeningSound
pub mod RecordLocks
pub mod RequestShapes
pub mod RowChanges
pub mod RowCounts
pub mod RowTable
pub mod Samples
pub mod Shapes
mod ShardSteps
pub mod StatusChanges
pub mod StepSound
pub mod WithinLimit
pub mod Rising
pub mod Serves
pub mod Ascending
pub mod Taken
pub mod BesideFacts
