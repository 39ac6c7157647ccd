-- What is found of the names of a call, and what is kept of it.
pub mod Found
pub mod Resolved
pub mod Resolve
pub mod Entries
pub mod EntriesDone
