-- `can_fill::fill_names` meets its contract: the names before name k are counted, none of them against the call.
-- Assumes nothing.
use Rattle.builder.specs.Params.{parameters_in}
use Rattle.calls.specs.Head.{head_of, named_from}
use Rattle.can_fill.specs.CanFill.{bytes_from}
use Rattle.can_fill.proofs.LawsFilling.{Counted}
use Rattle.can_fill.proofs.fill_names.Given as goal

abbrev pub invariant-loop-k : goal.invariant-loop-k
invariant-loop-k l =
    Counted (parameters_in l.list.area.now l.list.params) l.next (bytes_from l.call.area.now l.call.cells.now (named_from (head_of l.call.head)) 0 l.k) l.named
