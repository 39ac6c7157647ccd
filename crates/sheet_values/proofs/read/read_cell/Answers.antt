-- `sheet_values::read::read_cell` meets its contract: at each first byte the chain of forms computes to that byte's. Assumes nothing.
use Rattle.sheet_values.proofs.LawsCell.{well_handle, well_whole, well_real}
use Rattle.sheet_values.proofs.read.read_cell.Goals as goal

pub under-requires : goal.under-requires
under-requires c = well_whole c.in_ok-read_whole-in-105.field-0

pub under-requires-in-114 : goal.under-requires-in-114
under-requires-in-114 c = well_real c.in_ok-read_bits-in-114.field-0

pub under-requires-in-104 : goal.under-requires-in-104
under-requires-in-104 c =
    well_handle c.in_ok-read_decimal-in-104.field-0 c.in_ok-form.rest.now c.in_ok-read_decimal-in-104.ensures
