-- Laws of can-fill, by subject.
pub mod LawsFilling
pub mod LawsCanFill
pub mod LawsFillable
