-- What the proofs of several functions share.
pub mod LawsCodes
pub mod LawsParams
pub mod LawsAsk
pub mod LawsSpec
pub mod LawsRecord
pub mod LawsBuild
