-- What can-fill promises.
pub mod CanFill
