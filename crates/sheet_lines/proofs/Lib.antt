-- Laws that the functions' proofs and the crates above cite, by subject.
pub mod LawsPiece
pub mod LawsLines
pub mod LawsCells
pub mod LawsHeader
pub mod LawsRow
pub mod LawsWord
