-- Laws that the functions' proofs and the crates above cite, by subject.
pub mod LawsCounts
pub mod LawsRows
pub mod LawsSheets
pub mod LawsCell
pub mod LawsPassed
pub mod LawsSteps
pub mod LawsValues
pub mod LawsInput
