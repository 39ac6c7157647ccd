use mathlib.Core.Path.{◌≡◌, refl}
use native.Mathlib.Omega.{arith}
use borrow.Author.Rules.{rules}
use Rattle.prepared.proofs.LawsLoad.{loaded_none, loaded_next, loaded_list}
use Rattle.prepared.proofs.load.load.Goals as goal

pub loop-i-init : goal.loop-i-init
loop-i-init c =
    let p = c.args.params.now in
    (refl, loaded_none c.args.cells.now p.codes p.styles p.names p.default_kinds p.default_payloads (search rules) (search rules) (search rules) (search rules) (search rules))

pub overflow_cast-params : goal.overflow_cast-params
overflow_cast-params c = omega (arith, c.requires.1.code c.loop-i.i c.loop-i-test.true)

pub overflow_cast-params-in-loop-i : goal.overflow_cast-params-in-loop-i
overflow_cast-params-in-loop-i c = omega (arith, c.requires.1.style c.loop-i.i c.loop-i-test.true)

pub loop-i-preserved : goal.loop-i-preserved
loop-i-preserved c = let at = c.loop-i in (at.invariant.0, loaded_next _ _ _ _ _ _ _ at.invariant.1 (omega arith))

pub returns : goal.returns
returns c =
    let cells = c.args.cells.now in
    let at = c.loop-i in
    let p = at.params in
    let e : at.i ≡ p.len = omega (arith, at.auto.i-end, at.invariant.0, c.loop-i-test.false) in
    record {
      len = at.invariant.0;
      list = λ area s is x. loaded_list cells p (rw e at at.invariant.1) area s is at.invariant.0 (omega (arith, at.invariant.0, c.requires.0.few)) (rw at.invariant.0 x);
    }
