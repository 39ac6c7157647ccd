-- `findings::entries::resolve_entries` meets its contract: after k turns the first k entries are resolved, against whichever list has these
-- parameters, and what 18 and 19 answer is left to those that follow. Where the next key is looked for first is of no account. Assumes nothing.
use mathlib.Core.Path.{◌≡◌}
use mathlib.Core.List.{List, ◌++◌}
use Prim.Native.Nat.{◌-◌, min}
use lib.ListN.{length}
use Rattle.rules.specs.Value.{Value}
use Rattle.rules.specs.Parameters.{positional_count}
use Rattle.rules.specs.Binding.{ask_entries}
use Rattle.builder.specs.Params.{parameters_in}
use Rattle.builder.specs.declared.spec.DefParamIndices.{DefParamIndices}
use Rattle.calls.specs.Head.{head_of, entries_from}
use Rattle.findings.specs.Resolved.{Resolved}
use Rattle.findings.specs.Resolve.{with_indices, pairs_from}
use Rattle.findings.specs.EntriesDone.{written_names, entries_in, EntriesReady}
use Rattle.findings.proofs.entries.resolve_entries.Given as goal

abbrev pub invariant-loop-k : goal.invariant-loop-k
invariant-loop-k l =
    let cells = l.call.cells.now in
    let area = l.call.area.now in
    let h = head_of l.call.head in
    let qs = parameters_in l.list.area.now l.list.params in
    let first = l.initial.resolved in
    let written = written_names area cells h in
    (l.resolved.next ≡ first.next)
    × ((o : DefParamIndices) → EntriesReady l.list.area.now (with_indices l.list o) cells area h first.next first.sources first.rest first.count
    → Resolved qs cells area (written ++ pairs_from area cells (entries_from h) l.k) l.resolved.sources l.resolved.rest l.resolved.count
    × ((P : List Value) → first.next ≡ min (length P) (positional_count qs)
    → ask_entries qs P written (entries_in area cells (entries_from h) 0 h.d)
    ≡ ask_entries qs P (written ++ pairs_from area cells (entries_from h) l.k) (entries_in area cells (entries_from h) l.k (h.d - l.k))))
