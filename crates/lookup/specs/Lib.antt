-- What looking up a name answers.
pub mod Lookup
