-- Laws of what the loop keeps.
pub mod LawsKept
