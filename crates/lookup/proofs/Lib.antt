-- What the proofs share, and what a lookup means for the lists that are built.
pub mod LawsFind
pub mod LawsBuilt
