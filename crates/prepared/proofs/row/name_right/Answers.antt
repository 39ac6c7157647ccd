-- `prepared::row::name_right` meets its contract: each answer by the tests that led there; a short name ends where the eight bytes do, or before.
-- Assumes nothing.
use mathlib.Core.Path.{sym, ◌∙◌}
use Prim.Native.Nat.{◌+◌, ◌/◌, ◌%◌, ◌≤◌}
use native.Mathlib.Omega.{arith}
use borrow.Author.Tests.{leb-true, leb-false}
use lib.ListN.{length}
use Rattle.rules.specs.Text.{bytes_at, start_of, size_of}
use Rattle.prepared.proofs.LawsRows.{text_start, text_none, text_long, text_end, text_right, not_named, named_key}
use Rattle.prepared.proofs.row.name_right.Goals as goal
use Rattle.prepared.proofs.row.name_right.Goals.{then-name-gt16777215-via-then-name-gt16777215, then-name-gt16777215-via-else-name-gt16777215+then-len-eq0, then-len-le64, else-len-le64}

pub returns-then-name-gt16777215 : goal.returns-then-name-gt16777215
returns-then-name-gt16777215 c =
    let a = c.args in
    elim c.then-name-gt16777215.branch [
      | then-name-gt16777215-via-then-name-gt16777215 w ↦ not_named a.area.now a.name a.key (text_start a.area.now a.name w.if-name-gt16777215.true)
      | then-name-gt16777215-via-else-name-gt16777215+then-len-eq0 w ↦ not_named a.area.now a.name a.key (text_none a.area.now a.name w.if-len-eq0.true)
    ]

pub returns-then-len-le8 : goal.returns-then-len-le8
unfolding bytes_at start_of size_of
returns-then-len-le8 c =
    let a = c.args in
    let l : a.name % 256 ≤ 64 = omega (arith, c.if-len-le8.true) in
    let e : a.name / 256 + a.name % 256 ≤ length a.area.now = omega (arith, c.if-len-le8.true, c.if-start-area.true) in
    named_key a.area.now a.name a.key (text_right a.area.now a.name c.if-name-gt16777215.false c.if-len-eq0.false l e) c.short_key.ensures

pub returns-then-start-len : goal.returns-then-start-len
returns-then-start-len c =
    let a = c.args in
    elim c.if-len-le64.branch [
      | then-len-le64 w ↦ let e : a.name / 256 + a.name % 256 ≤ length a.area.now = leb-true _ _ (sym w.value-is ∙ c.if-start-len.true) in
          named_key a.area.now a.name a.key (text_right a.area.now a.name c.if-name-gt16777215.false c.if-len-eq0.false w.if-len-le64.true e) c.key_of.ensures
      | else-len-le64 w ↦ let l : a.name % 256 ≤ 64 = leb-true _ _ (sym w.value-is ∙ c.if-start-len.true) in absurd (omega (arith, w.if-len-le64.false))
    ]

pub returns-else-start-len : goal.returns-else-start-len
returns-else-start-len c =
    let a = c.args in
    elim c.if-len-le64.branch [
      | then-len-le64 w ↦ c.if-start-len.false ∙ not_named a.area.now a.name a.key (text_end a.area.now a.name (leb-false _ _ (sym w.value-is ∙ c.if-start-len.false)))
      | else-len-le64 w ↦ c.if-start-len.false ∙ not_named a.area.now a.name a.key (text_long a.area.now a.name w.if-len-le64.false)
    ]
