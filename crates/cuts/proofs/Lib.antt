-- Laws of cuts, by subject.
pub mod LawsRun
pub mod LawsWrite
pub mod LawsPlay
pub mod LawsDemand
