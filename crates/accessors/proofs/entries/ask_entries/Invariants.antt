-- `accessors::entries::ask_entries` meets its contract. The loop's invariant: what is left to ask from entry k on is the answer, and the
-- names before it lie inside the area.
-- Assumes nothing.
use mathlib.Core.Path.{◌≡◌}
use mathlib.Core.List.{[]}
use Prim.Native.Nat.{◌+◌}
use Rattle.rules.specs.Binding.{ask_entries}
use Rattle.calls.specs.Head.{head_of}
use Rattle.calls.specs.Named.{names_in, entries_in}
use Rattle.accessors.specs.Entries.{NamesInside}
use Rattle.accessors.proofs.LawsEntries.{asked}
use Rattle.accessors.proofs.entries.ask_entries.Given as goal

abbrev pub invariant-loop-k : goal.invariant-loop-k
invariant-loop-k l =
    NamesInside l.call.area.now l.call.cells.now (head_of l.call.head) (l.call.head.n + l.k)
    × (ask_entries [] [] (names_in l.call.area.now l.call.cells.now (head_of l.call.head) l.call.head.n) (entries_in l.call.area.now l.call.cells.now (head_of l.call.head) 0 l.call.head.d) ≡ asked l.call.area.now l.call.cells.now (head_of l.call.head) l.k)
