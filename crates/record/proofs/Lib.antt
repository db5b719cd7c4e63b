pub mod LearnAgrees
mod NoesAreRight
pub mod Sound
mod SoundIsYes
pub mod Statuses
mod VerdictMeans
mod WholeForAll
