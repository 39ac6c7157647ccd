-- `builder::spec::ParametersSpecBuilder::no_more_positional_only_args` meets its contract: `/` changes the style alone.
-- Assumes nothing.
use Rattle.builder.proofs.LawsSpec.{stepping_slash}
use Rattle.builder.proofs.spec.ParametersSpecBuilder.no_more_positional_only_args.Goals as goal

pub returns : goal.returns
returns c = λ area t e. rw c.under.ensures (stepping_slash area c.args.self t c.requires e)
