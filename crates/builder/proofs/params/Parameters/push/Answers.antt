-- `builder::params::Parameters::push` meets its contract: every column has 64 entries, so each has room for its own.
-- Assumes nothing.
use native.Mathlib.Omega.{arith}
use Rattle.builder.specs.Params.{style_of}
use Rattle.builder.proofs.LawsParams.{Room, longer_stored}
use Rattle.builder.proofs.params.Parameters.push.Goals as goal

pub returns : goal.returns
returns c =
    let a = c.args in
    let p = a.self.now in
    let room : Room p p.len = omega arith in
    longer_stored p a.s c.number.result (style_of a.style) c.number.ensures room
