-- Slots and the board by what was found.
pub mod Slots
pub mod Board
