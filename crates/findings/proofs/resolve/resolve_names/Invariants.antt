-- `findings::resolve::resolve_names` meets its contract: after k turns the first k names differ and are resolved, against whichever list has
-- these parameters, so what is resolved answers 13 for the name at k. Where the next name is looked for first is of no account. Assumes nothing.
use mathlib.Core.Path.{◌≡◌}
use mathlib.Core.Bool.{true}
use Rattle.rules.specs.Text.{differ}
use Rattle.rules.specs.Binding.{texts_of}
use Rattle.builder.specs.Params.{parameters_in}
use Rattle.builder.specs.declared.spec.DefParamIndices.{DefParamIndices}
use Rattle.findings.specs.Resolved.{Resolved}
use Rattle.findings.specs.Resolve.{Naming, with_indices, pairs_from}
use Rattle.findings.proofs.resolve.resolve_names.Given as goal

abbrev pub invariant-loop-k : goal.invariant-loop-k
invariant-loop-k l =
    (l.resolved.next ≡ l.fn.resolved.next)
    × ((o : DefParamIndices) → Naming l.list.area.now (with_indices l.list o) l.call.cells.now l.call.area.now l.from l.n l.initial.resolved.sources l.initial.resolved.rest
    → (differ (texts_of (pairs_from l.call.area.now l.call.cells.now l.from l.k)) ≡ true) × Resolved (parameters_in l.list.area.now l.list.params) l.call.cells.now l.call.area.now (pairs_from l.call.area.now l.call.cells.now l.from l.k) l.resolved.sources l.resolved.rest l.resolved.count)
