-- `sheets::records::write_records` meets its contract: the rows of both sheets are what writing a record asks for, and the records are the input's.
-- Assumes nothing.
use Rattle.sheets.proofs.LawsPlaces.{parameters_ready, call_ready, parameters_written, call_written}
use Rattle.sheets.proofs.records.write_records.Goals as goal

pub write_parameters-list-requires : goal.write_parameters-list-requires
write_parameters-list-requires c =
    parameters_ready c.args.input.now c.args.places c.requires.0 _ _ c.requires.1.parameters c.requires.1.spec_area

pub write_call-given-requires : goal.write_call-given-requires
write_call-given-requires c =
    call_ready c.args.input.now c.args.places c.requires.0 _ _ c.requires.1.arguments c.requires.1.call_area

pub returns : goal.returns
returns c =
    record {
      parameters = parameters_written c.args.input.now c.args.places c.requires.0 c.write_parameters-list.ensures;
      arguments = call_written c.args.input.now c.args.places c.requires.0 c.write_call-given.ensures;
    }
