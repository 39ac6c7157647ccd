-- `printer::name::printed_name` meets its contract: one prefix taken off after the other. Assumes nothing.
use Rattle.printer.proofs.LawsName.{both_prefixes}
use Rattle.printer.proofs.name.printed_name.Goals as goal

pub returns : goal.returns
returns c =
    let bytes = c.bytes_at-name in
    both_prefixes _ bytes.result.now c.strip_prefix.result.now c.strip_prefix-2.result.now bytes.ensures c.strip_prefix.ensures
    c.strip_prefix-2.ensures
