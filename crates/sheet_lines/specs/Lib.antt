-- What the code's types mean in the terms of `rules`, and what its functions answer.
pub mod Piece
pub mod Line
pub mod Lines
pub mod Header
pub mod Row
pub mod Word
