-- `can_fill::can_fill` meets its contract: surplus positionals, then the names, then the slots that are left.
-- Assumes nothing.
use mathlib.Core.Path.{◌≡◌, sym, ap, ◌∙◌}
use mathlib.Core.Bool.{true, not, ◌||◌, not-not}
use Prim.Native.Nat.{ℕ, min}
use lib.Dec.{leb}
use lib.ListN.{length-replicate, get_or-replicate}
use Rattle.rules.specs.Parameters.{positional_count, has_args}
use Rattle.builder.specs.Params.{parameters_in}
use Rattle.calls.specs.Head.{head_of}
use Rattle.can_fill.proofs.LawsCanFill.{room_few, room_args, no_room, no_names, by_missing}
use Rattle.can_fill.proofs.can_fill.Goals as goal
use Rattle.can_fill.proofs.can_fill.Goals.{After-min-next, Joined-else-indices-p, else-indices-p-via-then-indices-p+else-is_none, else-indices-p-via-else-indices-p}

pub returns-then-is_none : goal.returns-then-is_none
returns-then-is_none c =
    let a = c.args in
    sym (no_room a.list.now.area.now a.list.now a.call.now.cells.now a.call.now.area.now (head_of a.call.now.head) c.requires c.if-indices-p.true (c.is_none.ensures ∙ ap not c.if-is_none.true))

-- surplus positionals have *args to go to
room : (c : Joined-else-indices-p) → let a = c.args in
    (leb a.call.now.head.p (positional_count (parameters_in a.list.now.area.now a.list.now.params)) || has_args (parameters_in a.list.now.area.now a.list.now.params)) ≡ true
room c =
    let a = c.args in
    elim c.else-indices-p.branch [
      | else-indices-p-via-then-indices-p+else-is_none w ↦ room_args a.list.now.area.now a.list.now a.call.now.cells.now a.call.now.area.now (head_of a.call.now.head) c.requires (w.is_none.ensures ∙ ap not w.if-is_none.false)
      | else-indices-p-via-else-indices-p w ↦ room_few a.list.now.area.now a.list.now a.call.now.cells.now a.call.now.area.now (head_of a.call.now.head) c.requires w.if-indices-p.false
    ]

-- the slots below `next` are filled by position
upto : (c : After-min-next) → let a = c.args in
    c.min-next.result ≡ min a.call.now.head.p (positional_count (parameters_in a.list.now.area.now a.list.now.params))
upto c =
    c.min-next.ensures ∙ ap (min c.args.call.now.head.p) c.requires.list.is_list.positional

pub fill_names-requires : goal.fill_names-requires
fill_names-requires c =
    record {
      call = c.requires;
      upto = upto (goal.at.fill_names-requires c).After-min-next;
      slots = length-replicate {A = ℕ} 64 0;
      none_named = λ k h. get_or-replicate {A = ℕ} 64 k 0 0 h;
    }

pub returns-else-fill_names : goal.returns-else-fill_names
returns-else-fill_names c =
    let a = c.args in
    c.if-fill_names.false ∙ sym (no_names a.list.now.area.now a.list.now a.call.now.cells.now a.call.now.area.now (head_of a.call.now.head) c.requires (room (goal.at.returns-else-fill_names c).Joined-else-indices-p) c.fill_names.new.named c.fill_names.result c.fill_names.ensures (c.if-fill_names.false))

pub returns-then-fill_names : goal.returns-then-fill_names
returns-then-fill_names c =
    let a = c.args in
    sym (not-not c.is_none-then-fill_names.result)
    ∙ ap not (sym c.is_none-then-fill_names.ensures)
    ∙ sym (by_missing a.list.now.area.now a.list.now a.call.now.cells.now a.call.now.area.now (head_of a.call.now.head) c.requires (room (goal.at.returns-then-fill_names c).Joined-else-indices-p) c.fill_names.new.named c.fill_names.result c.fill_names.ensures (c.if-fill_names.true) c.min-next.result (upto (goal.at.returns-then-fill_names c).After-min-next) c.first_missing.result c.first_missing.ensures)
