-- `builder::spec::ParametersSpecBuilder::no_more_positional_args` meets its contract: the bare `*` changes the style alone.
-- Assumes nothing.
use Rattle.builder.proofs.LawsSpec.{stepping_star}
use Rattle.builder.proofs.spec.ParametersSpecBuilder.no_more_positional_args.Goals as goal

pub returns : goal.returns
returns c = λ area t e. rw c.under.ensures (stepping_star area c.args.self t c.requires e)
