-- What holds of an answer of collection.
pub mod LawsTold
