-- The two sheets of an input, as the definitions below tell them apart: a call's rows are keyed.
use Rattle.std.specs.Prelude.{Bool, true, false}
use Rattle.sheet_records.specs.declared.sheet.Sheet.{Sheet}
use Rattle.sheet_records.specs.declared.sheet.Sheet.TheVariants.{Parameters, Call}

abbrev pub is_call : Sheet → Bool
is_call Parameters = false
is_call Call = true
