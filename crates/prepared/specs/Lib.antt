-- A list that was prepared in lent cells: its cells, which cells are one, and how a call ends against it.
pub mod Prepared
-- What the code's types mean, and what its functions need and promise.
pub mod Rows
pub mod Load
pub mod Written
pub mod Bind
pub mod InOrder
