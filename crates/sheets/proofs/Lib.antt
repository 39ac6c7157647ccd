-- What the proofs of several functions share.
pub mod LawsRecords
pub mod LawsPlaces
pub mod LawsBind
pub mod LawsRead
