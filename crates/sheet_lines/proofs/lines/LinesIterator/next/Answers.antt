-- `sheet_lines::lines::LinesIterator::next` meets its contract: a line ends where the first byte 10 stands.
-- Assumes nothing.
use mathlib.Core.Path.{refl}
use native.Mathlib.Numerals.{add-one}
use native.Mathlib.Omega.{arith}
use Rattle.sheet_lines.specs.Piece.{piece}
use Rattle.sheet_lines.proofs.LawsPiece.{piece_length}
use Rattle.sheet_lines.proofs.LawsLines.{lines_next, lines_end, unended_next, unended_end}
use Rattle.sheet_lines.proofs.lines.LinesIterator.next.Goals as goal

pub returns-in_err-end-clause-steps : goal.returns-in_err-end-clause-steps
returns-in_err-end-clause-steps c =
    let f = c.in_err-end.ensures in
    rw c.from_residual.ensures (record { lines = lines_end f refl; rest = unended_end f refl }, refl, refl)

pub returns-clause-steps : goal.returns-clause-steps
unfolding piece
returns-clause-steps c =
    let f = c.in_ok-end.ensures in
    let s = c.args.self.now in
    let n = piece_length s.input.now s.at c.in_ok-end.end f.0.after (omega (arith, f.1)) in (
      record {
        lines = rw (add-one) (lines_next f.0 f.1);
        rest = rw (add-one) (unended_next f.0 f.1);
        width = omega (arith, n, f.0.after);
        within = omega (arith, f.1);
      },
      refl,
    )
