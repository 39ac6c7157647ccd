-- What the library answers over its boundary, in a lent array of eight cells.
pub mod Answer
pub mod Told
