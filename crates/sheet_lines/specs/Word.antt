-- The words of a row (01, sheets): what a row of a call adds, as the code says it and as `rules` does.
use Rattle.std.specs.Prelude.{Option, Some, None}
use Rattle.rules.specs.SheetRows as rules
use Rattle.sheet_lines.specs.declared.word.CallPart.{CallPart}
use Rattle.sheet_lines.specs.declared.word.CallPart.TheVariants.{Positional, Named, Star, Item, Double, Entry}

abbrev pub call_part_of : CallPart → rules.CallPart
call_part_of Positional = rules.positional
call_part_of Named = rules.named
call_part_of Star = rules.star
call_part_of Item = rules.item
call_part_of Double = rules.double
call_part_of Entry = rules.entry

-- the part that a row's first cell names, if it names one
abbrev pub part_read : Option CallPart → rules.CallPart
part_read (Some part) = call_part_of part
part_read None = rules.unknown_part
