-- What the answer of collection means in the terms of `rules`.
pub mod Answer
