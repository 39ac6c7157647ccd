-- `sheets::records::bind_records` meets its contract: a list that is refused is printed as such, and against any other the call is bound.
-- Assumes nothing.
use mathlib.Core.Path.{sym, ap, subst, ◌∙◌}
use mathlib.Core.List.{List, []}
use Prim.Native.Nat.{ℕ}
use Rattle.rules.specs.SheetOutput.{refusal_text}
use Rattle.cells.proofs.LawsOut.{put_same}
use Rattle.findings.proofs.LawsPrepared.{built_fine, built_list, built_prepared}
use Rattle.sheets.specs.Bind.{ListReady}
use Rattle.sheets.proofs.LawsRecords.{bound_records, refused_records}
use Rattle.sheets.proofs.records.bind_records.Goals as goal

pub returns-in-Err : goal.returns-in-Err
returns-in-Err c =
    let spec = c.args.spec.now in
    let call = c.args.call.now in
    put_same _ _
    (ap (λ n. refusal_text n []) c.number.ensures
    ∙ sym (refused_records spec.cells.now spec.area.now call.cells.now call.area.now c.in-Err.question (sym c.in-Err.ensures.answer)))
    c.write_refusal.ensures

pub bind_list-requires : goal.bind_list-requires
bind_list-requires c =
    let spec = c.args.spec.now in
    let list = c.in-Ok.list in
    let built = c.build.ensures in
    let e = c.in-Ok.is in (
      subst (λ (area : List ℕ). ListReady area list) (sym (built.in_area list e))
          (record {
            prepared = built_prepared spec.cells.now spec.area.now c.build.result built list e;
            cells = spec.cells.now;
            passes = built_fine spec.cells.now spec.area.now c.build.result built list e;
            list = built_list spec.cells.now spec.area.now c.build.result built list e;
          }),
      c.requires,
    )

pub returns-in-Ok : goal.returns-in-Ok
returns-in-Ok c =
    let spec = c.args.spec.now in
    let call = c.args.call.now in
    let list = c.in-Ok.list in
    let built = c.build.ensures in
    let e = c.in-Ok.is in
    put_same _ _
    (bound_records spec.cells.now spec.area.now call.cells.now call.area.now list (built_fine spec.cells.now spec.area.now c.build.result built list e)
    (built_list spec.cells.now spec.area.now c.build.result built list e))
    (rw (built.in_area list e) at c.bind_list.ensures)
