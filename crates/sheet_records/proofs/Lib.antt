-- Laws that the functions' proofs and the crates above cite, by subject.
pub mod LawsLeft
pub mod LawsRun
pub mod LawsFit
pub mod LawsCell
pub mod LawsRows
pub mod LawsColumns
pub mod LawsSteps
pub mod LawsCall
pub mod LawsWritten
