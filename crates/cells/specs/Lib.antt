-- What the code's types mean in the terms of `rules`, and what its functions answer.
pub mod Question
pub mod Text
pub mod Value
pub mod Record
pub mod Out
pub mod Listed
