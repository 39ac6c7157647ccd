-- Laws that the functions' proofs and the crates above cite, by subject.
pub mod LawsEach
pub mod LawsRange
pub mod LawsCall
pub mod LawsForm
pub mod LawsKeys
pub mod LawsSlots
pub mod LawsPlaces
pub mod LawsWritten
pub mod LawsNamed
