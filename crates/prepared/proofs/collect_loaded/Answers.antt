-- `prepared::collect_loaded` meets its contract: the call is ended against the rows in columns, which are the list that the cells spell.
-- Assumes nothing.
use mathlib.Core.Path.{refl, subst}
use mathlib.Core.List.{List}
use Prim.Native.Nat.{ℕ}
use lib.ListN.{get_or}
use Rattle.rules.specs.CallRecord.{Head}
use Rattle.cells.specs.Listed.{listed}
use Rattle.builder.specs.Build.{IsList}
use Rattle.builder.specs.declared.spec.ParametersSpec.{ParametersSpec}
use Rattle.prepared.specs.Prepared.{list_in}
use Rattle.prepared.specs.Rows.{param_at, Whole}
use Rattle.prepared.specs.Load.{IndicesOf}
use Rattle.prepared.specs.InOrder.{OrderReady}
use Rattle.prepared.proofs.LawsBind.{prepared_whole, prepared_narrow, prepared_ready}
use Rattle.prepared.proofs.collect_loaded.Goals as goal
use Rattle.prepared.proofs.collect_loaded.Goals.{After-load}

-- all rows are there
whole : (spec list cells area : List ℕ) (h : Head) (n : ℕ) → OrderReady spec list cells area h n → Whole list
whole spec list cells area h n start = prepared_whole spec list start.prepared

pub load-requires : goal.load-requires
load-requires c = (whole _ _ _ _ _ _ c.requires.0, prepared_narrow c.args.prepared.now.area.now c.args.prepared.now.cells.now c.requires.0.prepared)

pub indices_in-requires : goal.indices_in-requires
indices_in-requires c = let w = whole _ _ _ _ _ _ c.requires.0 in rw c.requires.0.count (w.few, w.long)

-- with counts and indices of the rows, the columns are the list that the cells spell
abbrev loaded_list : After-load → ParametersSpec
loaded_list c = record { params = c.load.new.params; indices = c.indices_in.result; area = c.args.prepared.now.area }

is_list : (c : After-load) → let a = c.args in IsList a.prepared.now.area.now (loaded_list c) (list_in a.prepared.now.area.now a.prepared.now.cells.now)
is_list c =
    let a = c.args in
    let indices = c.indices_in in
    let counted : IndicesOf (listed (param_at a.prepared.now.area.now a.prepared.now.cells.now) 0 (get_or a.prepared.now.cells.now 0 0)) indices.result =
    subst (λ k. IndicesOf (listed (param_at a.prepared.now.area.now a.prepared.now.cells.now) 0 k) indices.result) c.requires.0.count (indices.ensures a.prepared.now.area.now) in
    c.load.ensures.list a.prepared.now.area.now (loaded_list c) refl counted

pub collect_open-requires : goal.collect_open-requires
collect_open-requires c =
    let a = c.args in
    let loaded = (goal.at.collect_open-requires c).After-load in
    record {
      list = prepared_ready a.prepared.now.area.now a.prepared.now.cells.now c.requires.0.prepared (loaded_list loaded) (is_list loaded);
      read = c.requires.0.read;
      passed = c.requires.1;
    }

pub returns : goal.returns
returns c =
    rw (is_list (goal.at.returns c).After-load).parameters at c.collect_open.ensures
