-- What collection promises.
pub mod Collect
pub mod Paths
