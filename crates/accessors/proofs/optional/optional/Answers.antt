-- `accessors::optional::optional` meets its contract: 25, 9 to 14, 15 and 26 as each is answered, and then P and what is missing.
-- Assumes nothing.
use mathlib.Core.Path.{sym}
use Prim.Native.Nat.{◌+◌, ◌*◌, ◌≤◌}
use native.Mathlib.Omega.{arith}
use lib.ListN.{length}
use Rattle.std.proofs.lemmas.Result.{err_from_is_err_and}
use Rattle.accessors.proofs.LawsPositions.{missing_filled, values_few, values_room, number_few, number_many, missing_room, optional_required, optional_more, optional_refused, optional_star, optional_number, optional_written}
use Rattle.accessors.proofs.optional.optional.Goals as goal
use Rattle.accessors.proofs.optional.optional.Goals.{After-write_values, then-required-gt-MOST-via-then-required-gt-MOST, then-required-gt-MOST-via-else-required-gt-MOST+then-more-gt-MOST, then-got-required-via-then-got-required, then-got-required-via-else-got-required+then-most-got}

pub returns-then-required-gt-MOST : goal.returns-then-required-gt-MOST
returns-then-required-gt-MOST c =
    elim c.then-required-gt-MOST.branch [
      | then-required-gt-MOST-via-then-required-gt-MOST w ↦ optional_required _ _ _ _ _ w.if-required-gt-MOST.true
      | then-required-gt-MOST-via-else-required-gt-MOST+then-more-gt-MOST w ↦ optional_more _ _ _ _ _ w.if-more-gt-MOST.true
    ]

pub returns-in_err-ask_writing : goal.returns-in_err-ask_writing
returns-in_err-ask_writing c =
    let p = err_from_is_err_and c.from_residual.result c.from_residual.ensures.1 in
    rw (p.1, p.2) (optional_refused _ _ _ _ _ c.if-required-gt-MOST.false c.if-more-gt-MOST.false _ (sym c.in_err-ask_writing.ensures))

pub returns-then-h-eq2 : goal.returns-then-h-eq2
returns-then-h-eq2 c =
    optional_star _ _ _ _ _ c.if-required-gt-MOST.false c.if-more-gt-MOST.false _ c.new-call.ensures.head (sym c.in_ok-ask_writing.ensures) c.if-h-eq2.true

pub overflow_add-got : goal.overflow_add-got
overflow_add-got c =
    omega (arith, values_few _ _ _ _ c.new-call.ensures.head (sym c.in_ok-ask_writing.ensures))

pub returns-then-got-required : goal.returns-then-got-required
returns-then-got-required c =
    optional_number _ _ _ _ _ c.if-required-gt-MOST.false c.if-more-gt-MOST.false _ c.new-call.ensures.head (sym c.in_ok-ask_writing.ensures) c.if-h-eq2.false
    (elim c.then-got-required.branch [
      | then-got-required-via-then-got-required w ↦ number_few _ _ _ w.if-got-required.true
      | then-got-required-via-else-got-required+then-most-got w ↦ number_many _ _ _ w.if-most-got.true
    ])

pub write_values-requires : goal.write_values-requires
write_values-requires c =
    (omega arith, values_room _ _ _ _ c.new-call.ensures.head (sym c.in_ok-ask_writing.ensures))

-- what is missing has room behind P
room : (c : After-write_values) → 2 * (c.args.required + c.args.more) ≤ length c.write_values.new.board
room c =
    rw c.write_values.auto.board
    (missing_room _ _ _ _ _ c.if-required-gt-MOST.false c.if-more-gt-MOST.false _ c.new-call.ensures.head (sym c.in_ok-ask_writing.ensures) c.if-h-eq2.false c.if-got-required.false c.if-most-got.false).1

pub slice_bounds-fill-end : goal.slice_bounds-fill-end
slice_bounds-fill-end c = room (goal.at.slice_bounds-fill-end c).After-write_values

pub returns : goal.returns
returns c =
    optional_written _ _ _ _ _ c.if-required-gt-MOST.false c.if-more-gt-MOST.false _ c.new-call.ensures.head (sym c.in_ok-ask_writing.ensures) c.if-h-eq2.false c.if-got-required.false c.if-most-got.false _ _ (rw c.new-call.ensures.cells at c.write_values.ensures)
    (missing_filled _ _ _ _ c.if-most-got.false (room (goal.at.returns c).After-write_values) (c.fill.ensures.after (λ y e. e)))
