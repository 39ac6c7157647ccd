-- Laws about what the code's types mean, which the functions' proofs and the crates above cite.
pub mod LawsText
pub mod LawsKey
pub mod LawsWord
pub mod LawsNumber
pub mod LawsReading
pub mod LawsValue
pub mod LawsRecord
pub mod LawsOut
pub mod LawsListed
pub mod LawsWrite
