-- What the functions' proofs share.
pub mod LawsRead
pub mod LawsCell
pub mod LawsPrint
