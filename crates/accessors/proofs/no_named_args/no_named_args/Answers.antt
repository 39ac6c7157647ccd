-- `accessors::no_named_args::no_named_args` meets its contract: the questions in their order, and for 24 the first pair of N.
-- Assumes nothing.
use mathlib.Core.Path.{refl, sym, ap, ◌∙◌}
use Prim.Native.Nat.{◌+◌}
use native.Mathlib.Omega.{arith}
use Rattle.std.proofs.lemmas.Result.{err_from_is_err_and}
use Rattle.rules.specs.Answer.{call_area, count_and_name}
use Rattle.rules.specs.Accessors.{denied}
use Rattle.cells.specs.Record.{pair_at}
use Rattle.calls.specs.Head.{head_of}
use Rattle.answers.specs.Answer.{place_of}
use Rattle.accessors.proofs.LawsAccess.{call_numbered}
use Rattle.accessors.proofs.LawsNames.{entries_formed, names_few, none_refused, none_double, none_text, none_gives, none_extra}
use Rattle.accessors.proofs.no_named_args.no_named_args.Goals as goal

pub returns-in_err-ask_call : goal.returns-in_err-ask_call
returns-in_err-ask_call c =
    let p = err_from_is_err_and c.from_residual.result c.from_residual.ensures.1 in
    let e = sym c.in_err-ask_call.ensures in
    rw (p.1, p.2) (record { answer = none_refused _ _ _ e; numbered = call_numbered _ _ _ e })

pub returns-then-h-eq2 : goal.returns-then-h-eq2
returns-then-h-eq2 c =
    record { answer = none_double _ _ _ c.new-call.ensures.head (sym c.in_ok-ask_call.ensures) c.if-h-eq2.true; numbered = refl }

pub keys_are_texts-requires : goal.keys_are_texts-requires
keys_are_texts-requires c =
    rw (c.new-call.ensures.cells, c.new-call.ensures.area) (entries_formed _ _ _ c.new-call.ensures.head (sym c.in_ok-ask_call.ensures))

pub returns-then-not-keys_are_texts : goal.returns-then-not-keys_are_texts
returns-then-not-keys_are_texts c =
    let e = rw (c.new-call.ensures.cells, c.new-call.ensures.area) at c.keys_are_texts.ensures in
    record { answer = none_text _ _ _ c.new-call.ensures.head (sym c.in_ok-ask_call.ensures) c.if-h-eq2.false (sym e ∙ c.if-not-keys_are_texts.true); numbered = refl }

pub overflow_add-count : goal.overflow_add-count
overflow_add-count c =
    omega (arith, names_few _ _ _ c.new-call.ensures.head (sym c.in_ok-ask_call.ensures))

pub returns-then-count-eq0 : goal.returns-then-count-eq0
returns-then-count-eq0 c =
    let e = rw (c.new-call.ensures.cells, c.new-call.ensures.area) at c.keys_are_texts.ensures in
    record { answer = none_gives _ _ _ c.new-call.ensures.head (sym c.in_ok-ask_call.ensures) c.if-h-eq2.false (sym e ∙ c.if-not-keys_are_texts.false) c.if-count-eq0.true; numbered = refl }

pub returns : goal.returns
returns c =
    let h = head_of c.new-call.result.head in
    let e = rw (c.new-call.ensures.cells, c.new-call.ensures.area) at c.keys_are_texts.ensures in
    let first = rw c.new-call.ensures.cells at c.pair_at-first.ensures in
    record {
      answer =
          ap (λ v. denied 24 (count_and_name (h.n + h.d) (place_of call_area v.payload))) (first ∙ ap (pair_at c.args.record.now.cells.now) c.named_at.ensures)
          ∙ none_extra _ _ _ c.new-call.ensures.head (sym c.in_ok-ask_call.ensures) c.if-h-eq2.false (sym e ∙ c.if-not-keys_are_texts.false) (h.n + h.d) refl c.if-count-eq0.false;
      numbered = refl;
    }
