use mathlib.Core.Path.{◌≡◌}
use Prim.Native.Nat.{◌+◌, ◌*◌, ◌<◌, ◌≤◌}
use native.Mathlib.Omega.{arith}
use lib.ListN.{get_or}
use Rattle.prepared.proofs.LawsLoad.{indexed_none, indexed_plain, indexed_args, indexed_kwargs}
use Rattle.prepared.proofs.load.indices_in.Goals as goal
use Rattle.prepared.proofs.load.indices_in.Goals.{in-6, in-1-to-3, in_default+in_default, in_default-via-then-this-lt1, in_default-via-else-this-lt1+else-this-lt4}

pub loop-i-init : goal.loop-i-init
loop-i-init c = indexed_none _

pub loop-i-preserved : goal.loop-i-preserved
loop-i-preserved c =
    let at = c.loop-i in
    let cells = c.args.cells.now in
    elim c.match-cells-at.branch [
      | in-1-to-3 w ↦
          rw (w.only-is, w.positional-is, w.args-is, w.kwargs-is) (indexed_plain cells at.i at.only at.positional at.args at.kwargs at.invariant (omega arith) (omega arith))
      | in-6 w ↦
          rw (w.only-is, w.positional-is, w.args-is, w.or-args.ensures, w.kwargs-is) (indexed_args cells at.i at.only at.positional at.args at.kwargs at.invariant w.in-6.is)
      | in_default+in_default w ↦
          let plain : 1 ≤ get_or cells (2 + 6 * at.i) 0 → get_or cells (2 + 6 * at.i) 0 < 4 → ⊥ =
          elim w.in_default.branch [ in_default-via-then-this-lt1 v ↦ (λ l u. omega arith) | in_default-via-else-this-lt1+else-this-lt4 v ↦ (λ l u. omega arith) ] in
          let six : get_or cells (2 + 6 * at.i) 0 ≡ 6 → ⊥ =
          elim w.in_default.branch [ in_default-via-then-this-lt1 v ↦ (λ e. omega arith) | in_default-via-else-this-lt1+else-this-lt4 v ↦ (λ e. omega arith) ] in
          rw (w.only-is, w.positional-is, w.args-is, w.kwargs-is, w.or-kwargs.ensures)
          (indexed_kwargs cells at.i at.only at.positional at.args at.kwargs at.invariant plain six)
    ]
