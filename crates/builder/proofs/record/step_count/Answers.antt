-- `builder::record::step_count` meets its contract: no step in no cell, and a quarter of the cells after the first.
-- Assumes nothing.
use native.Mathlib.Omega.{arith}
use Rattle.rules.specs.ParameterRecord.{step_count, step_width}
use Rattle.builder.proofs.record.step_count.Goals as goal

pub returns : goal.returns
unfolding step_count step_width
returns c = omega arith
