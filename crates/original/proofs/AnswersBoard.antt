-- The Rust's slots on the board by computation: each side of the examples is computed.
-- Assumes nothing.
use mathlib.Core.Path.{refl}
use mathlib.Core.List.{flat_map}
use Rattle.original.specs.Whole.{rust_cells, rust_board}
use Rattle.original.specs.BoardExamples.{BoardExamples}

pub board_examples : BoardExamples
unfolding flat_map rust_cells rust_board
board_examples = record { all_slots = refl; no_slots = refl }
