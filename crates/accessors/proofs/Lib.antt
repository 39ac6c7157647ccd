-- Laws that the functions' proofs cite, by subject.
pub mod LawsAccess
pub mod LawsPositions
pub mod LawsEntries
pub mod LawsNames
pub mod LawsTold
