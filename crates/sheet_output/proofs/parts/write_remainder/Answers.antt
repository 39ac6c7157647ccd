use native.Mathlib.Omega.{arith}
use Rattle.sheet_output.specs.Parts.{element_line, element_most}
use Rattle.sheet_output.proofs.LawsParts.{lines_none, lines_room, lines_more, line_more, element_short}
use Rattle.sheet_output.proofs.parts.write_remainder.Goals as goal

pub loop-k-init : goal.loop-k-init
loop-k-init c =
    let a = c.args in
    let b = a.bound.now in
    lines_none (element_line a.rest.sort b.spec.now b.call.now b.board.now a.rest.from) a.output.now (omega (arith, c.requires.1))

pub write_element-requires : goal.write_element-requires
write_element-requires c =
    let a = c.args in
    let b = a.bound.now in
    let l = c.loop-k in (
      c.requires.0.0,
      omega (arith, c.loop-k-test.true, c.requires.0.1),
      lines_room (element_line a.rest.sort b.spec.now b.call.now b.board.now a.rest.from) (element_most a.rest.sort) (element_short b.spec.now b.call.now a.rest.sort b.board.now a.rest.from)
          l.k 512 a.output.now l.output (omega (arith, c.requires.1, line_more (element_most a.rest.sort) l.k a.rest.count c.loop-k-test.true)) l.invariant,
    )

pub loop-k-preserved : goal.loop-k-preserved
loop-k-preserved c =
    let a = c.args in
    let b = a.bound.now in
    let l = c.loop-k in
    lines_more (element_line a.rest.sort b.spec.now b.call.now b.board.now a.rest.from) (element_most a.rest.sort) (element_short b.spec.now b.call.now a.rest.sort b.board.now a.rest.from)
    l.k a.output.now l.output _ (omega (arith, c.requires.1, line_more (element_most a.rest.sort) l.k a.rest.count c.loop-k-test.true)) l.invariant c.write_element.ensures
