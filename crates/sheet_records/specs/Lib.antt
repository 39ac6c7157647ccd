-- What the code's types mean in the terms of `rules`, what the functions ask of a sheet, and what they answer.
pub mod Rows
pub mod RowsLeft
pub mod Sheet
pub mod Text
pub mod Run
pub mod Call
pub mod Written
