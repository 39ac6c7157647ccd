-- What the code's answers mean in the terms of `rules`.
pub mod Read
pub mod Print
