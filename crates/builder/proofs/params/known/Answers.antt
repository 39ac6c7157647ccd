-- `builder::params::known` meets its contract: each parameter is asked the same. Assumes nothing.
use mathlib.Core.Path.{◌∙◌}
use native.Mathlib.Omega.{arith}
use Rattle.std.proofs.Common.{rules, tests}
use Rattle.std.proofs.lemmas.Iterator.{YieldsList-from_range}
use Rattle.std.proofs.lemmas.Iterator.Search.{any_from_yields_List}
use Rattle.builder.specs.Params.{named_at}
use Rattle.builder.proofs.LawsParams.{known_any}
use Rattle.builder.proofs.params.known.Goals as goal

pub returns : goal.returns
unfolding named_at
returns c =
    let a = c.args in
    let p = a.params.now in
    any_from_yields_List (named_at a.area.now p a.bytes.now) _ _ _ c.any.ensures.ran
    (YieldsList-from_range 0 p.len p.len (cc) (omega arith))
    (λ x b q k. search (rules, tests))
    ∙ known_any a.area.now a.bytes.now p
