-- What the code's types mean in the terms of `rules`, and what its functions answer.
pub mod Counts
pub mod Sheets
pub mod Read
pub mod Judged
