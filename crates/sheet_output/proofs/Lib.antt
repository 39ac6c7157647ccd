-- What the proofs of several functions share, and what they come to.
pub mod LawsPrintable
pub mod LawsLine
pub mod LawsParts
pub mod LawsOutcome
pub mod LawsShown
pub mod LawsReady
pub mod LawsPassed
