-- Laws of findings, by subject.
pub mod LawsFirst
pub mod LawsResolved
pub mod LawsAsked
pub mod LawsNames
pub mod LawsEntries
pub mod LawsEntry
pub mod LawsLoop
pub mod LawsPrepared
pub mod LawsRecord
pub mod LawsKinds
pub mod LawsEnded
