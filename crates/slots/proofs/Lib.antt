-- Laws of slots and of the board, by subject.
pub mod LawsSlots
pub mod LawsFilled
pub mod LawsPairs
pub mod LawsPlaced
pub mod LawsWritten
