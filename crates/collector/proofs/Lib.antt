-- Laws of collection, by subject.
pub mod LawsReady
pub mod LawsEnds
pub mod LawsPaths
pub mod Computed
