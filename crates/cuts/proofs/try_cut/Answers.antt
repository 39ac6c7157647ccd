-- `cuts::try_cut` meets its contract: what collection and can-fill promise is handed on. Assumes nothing.
use mathlib.Core.Path.{◌≡◌, refl, sym, subst, ◌∙◌}
use Rattle.rules.specs.CanFill.{fillable}
use Rattle.rules.specs.Collection.{collection}
use Rattle.collector.specs.Collect.{Ends}
use Rattle.can_fill.specs.CanFill.{filling_in}
use Rattle.cuts.proofs.LawsPlay.{none_some, some_one}
use Rattle.cuts.proofs.try_cut.Goals as goal

pub returns-then-not-records_pass : goal.returns-then-not-records_pass
returns-then-not-records_pass c =
    record {
      outside = λ z. sym c.records_pass.ensures ∙ c.if-not-records_pass.true;
      untouched = λ z. refl;
      passed = λ t z. none_some z;
      collected = λ t z. none_some z;
      filling = λ t z. none_some z;
    }

pub returns : goal.returns
returns c =
    let a = c.args in
    let o = c.collect-collected in
    let f = c.can_fill_with_args-foretold in
    record {
      outside = λ z. none_some (sym z);
      untouched = λ z. none_some (sym z);
      passed = λ t z. sym c.records_pass.ensures ∙ c.if-not-records_pass.false;
      collected = λ t z. subst (λ u. Ends (collection 64 64 a.spec.now.cells.now a.spec.now.area.now a.cells.now a.whole.now.area.now a.board.now) a.board.now o.new.board u.collected) (some_one z) o.ensures;
      filling = λ t z. subst (λ u. filling_in u.foretold ≡ fillable 64 64 a.spec.now.cells.now a.spec.now.area.now a.whole.now.cells.now a.whole.now.area.now) (some_one z) f.ensures;
    }
