use mathlib.Core.Path.{◌≡◌, sym, ap₂, ◌∙◌}
use mir.Syntax.{w64}
use mir.Val.{Fits}
use Prim.Native.Nat.{◌+◌, ◌-◌, ◌*◌, ◌<◌}
use native.Mathlib.Omega.{arith}
use Rattle.rules.specs.CallRecord.{pair_width, key_in}
use Rattle.rules.specs.CallQuestions.{same_key}
use Rattle.cells.specs.Value.{pair_of}
use Rattle.calls.specs.Runs.{key_there}
use Rattle.calls.specs.Keys.{same_read}
use Rattle.calls.proofs.LawsEach.{formed_first, formed_next}
use Rattle.calls.proofs.LawsForm.{entry_key}
use Rattle.calls.proofs.LawsKeys.{same_keys, new_passes, new_fails}
use Rattle.calls.proofs.differ.key_new.Goals as goal
use Rattle.calls.proofs.differ.key_new.Goals.{After-same_read}

-- the key and the one that it is held against
same : (c : After-same_read) → let a = c.args in
    c.same_read.result ≡ same_key (key_there a.record.now.area.now a.record.now.cells.now a.key) (key_there a.record.now.area.now a.record.now.cells.now (a.key + 4 + 4 * c.loop-k.k))
same c =
    let area = c.args.record.now.area.now in
    let here : Fits w64 c.pair_at-here.result.payload = omega arith in
    let there : Fits w64 c.pair_at-there.result.payload = omega arith in
    c.same_read.ensures
    ∙ ap₂ (same_read area) c.read_key-sought.ensures c.read_key-found.ensures
    ∙ same_keys area (pair_of c.pair_at-here.result) (pair_of c.pair_at-there.result) here there
    (rw c.pair_at-here.ensures c.requires.0)
    (rw c.pair_at-there.ensures (entry_key _ _ _ (formed_first _ _ _ _ (omega (arith, c.loop-k-test.true)) c.loop-k.invariant.0)))
    ∙ ap₂ (λ v w. same_key (key_in area v) (key_in area w)) c.pair_at-here.ensures c.pair_at-there.ensures

pub returns-then-same_read : goal.returns-then-same_read
unfolding pair_width
returns-then-same_read c =
    sym
    (c.loop-k.invariant.1
    ∙ new_fails _ _ c.args.key _ _ (omega (arith, c.loop-k-test.true)) (sym (same (goal.at.returns-then-same_read c).After-same_read) ∙ c.if-same_read.true))

pub loop-k-preserved : goal.loop-k-preserved
unfolding pair_width
loop-k-preserved c =
    let a = c.args in
    let k = c.loop-k.k in
    let some : 0 < a.count - k = omega (arith, c.loop-k-test.true) in
    let next : a.key + 4 + 4 * (k + 1) ≡ a.key + 4 + 4 * k + 4 = omega arith in
    let left : a.count - (k + 1) ≡ a.count - k - 1 = omega arith in
    rw (next, left) (
      formed_next _ _ _ _ some c.loop-k.invariant.0,
      c.loop-k.invariant.1 ∙ new_passes _ _ a.key _ _ some (sym (same (goal.at.loop-k-preserved c).After-same_read) ∙ c.if-same_read.false),
    )
