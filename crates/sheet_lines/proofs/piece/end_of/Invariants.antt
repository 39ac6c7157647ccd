-- `sheet_lines::piece::end_of` meets its contract. The loop's invariant: no mark was passed.
-- Assumes nothing.
use mathlib.Core.Path.{◌≡◌}
use mathlib.Core.Bool.{true}
use Rattle.sheet_lines.specs.Piece.{piece}
use Rattle.sheet_lines.proofs.LawsPiece.{clear}
use Rattle.sheet_lines.proofs.piece.end_of.Given as goal

abbrev pub invariant-loop-at : goal.invariant-loop-at
invariant-loop-at l = clear l.mark (piece l.input l.from l.at) ≡ true
