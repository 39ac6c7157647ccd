-- `sheets::records::bind_sheets` meets its contract: the front of each array that was written is a record or its area.
-- Assumes nothing.
use native.Mathlib.Omega.{arith}
use mathlib.Core.Path.{sym}
use lib.Seq.{length-take-le}
use Rattle.sheets.proofs.LawsPlaces.{records_put}
use Rattle.sheets.proofs.records.bind_sheets.Goals as goal

pub write_records-records-requires : goal.write_records-records-requires
write_records-records-requires c =
    (c.requires.0, record { parameters = omega arith; spec_area = omega arith; arguments = omega arith; call_area = omega arith })

pub slice_bounds-spec_cells-end : goal.slice_bounds-spec_cells-end
slice_bounds-spec_cells-end c = c.write_records-records.ensures.parameters.cells_within

pub slice_bounds-bind_records-end : goal.slice_bounds-bind_records-end
slice_bounds-bind_records-end c = sym (length-take-le _ _ c.write_records-records.ensures.parameters.cells_within)

pub slice_bounds-spec-end : goal.slice_bounds-spec-end
slice_bounds-spec-end c = c.write_records-records.ensures.parameters.bytes_within

pub slice_bounds-bind_records-end-2 : goal.slice_bounds-bind_records-end-2
slice_bounds-bind_records-end-2 c = sym (length-take-le _ _ c.write_records-records.ensures.parameters.bytes_within)

pub slice_bounds-call_cells-end : goal.slice_bounds-call_cells-end
slice_bounds-call_cells-end c = c.write_records-records.ensures.arguments.cells_within

pub slice_bounds-bind_records-end-3 : goal.slice_bounds-bind_records-end-3
slice_bounds-bind_records-end-3 c = sym (length-take-le _ _ c.write_records-records.ensures.arguments.cells_within)

pub slice_bounds-call-end : goal.slice_bounds-call-end
slice_bounds-call-end c = c.write_records-records.ensures.arguments.bytes_within

pub slice_bounds-bind_records-end-4 : goal.slice_bounds-bind_records-end-4
slice_bounds-bind_records-end-4 c = sym (length-take-le _ _ c.write_records-records.ensures.arguments.bytes_within)

pub returns : goal.returns
returns c =
    records_put c.write_records-records.ensures c.bind_records.ensures
