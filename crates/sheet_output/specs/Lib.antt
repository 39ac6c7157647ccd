-- What printing a call promises: the cells of a line, the lines of a board, what can be printed, and how a call ends.
pub mod Line
pub mod Parts
pub mod Printable
pub mod Outcome
