-- What the proofs share: a read at a position, for the functions that do the work.
pub mod LawsSlot
