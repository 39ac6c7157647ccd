-- `printer::write_positional` meets its contract: three runs of items in a row. Assumes nothing.
use mathlib.Core.Path.{◌≡◌, refl, sym}
use mathlib.Core.List.{List, ◌++◌}
use Prim.Native.Nat.{ℕ}
use Rattle.std.specs.Prelude.{option_copied, option_to_list}
use Rattle.rules.specs.Parameters.{comes_before, pos_only, pos_or_named}
use Rattle.rules.specs.Printed.{items_of, slash_item}
use Rattle.builder.specs.Params.{parameters_in}
use Rattle.printer.specs.Items.{under}
use Rattle.printer.specs.Line.{Room}
use Rattle.printer.proofs.LawsLine.{room_same, three_first, three_second, three_third, three_added, added_same}
use Rattle.printer.proofs.LawsList.{slash_sign, positional_parts}
use Rattle.printer.proofs.write_positional.Goals as goal
use Rattle.printer.proofs.write_positional.Goals.{After-then_some-slash}

-- the sign in the middle
abbrev Ys : After-then_some-slash → List (List ℕ)
Ys k = option_to_list (option_copied k.then_some-slash.result)

slash : (k : After-then_some-slash) → let l = k.args.list.now in Ys k ≡ slash_item (parameters_in l.area.now l.params)
slash k = let l = k.args.list.now in slash_sign _ _ _ (parameters_in l.area.now l.params) k.then_some-slash.ensures refl (k.any_item.ensures l.area.now)

room : (k : After-then_some-slash) → let qs = parameters_in k.args.list.now.area.now k.args.list.now.params in
    Room (items_of (under pos_only) qs ++ (Ys k ++ items_of (under pos_or_named) qs)) k.args.line.now
room k =
    let qs = parameters_in k.args.list.now.area.now k.args.list.now.params in
    room_same _ _ k.args.line.now (positional_parts (Ys k) qs (slash k)) k.requires.1

pub any_item-requires : goal.any_item-requires
unfolding comes_before
any_item-requires c = (c.requires.0, refl)

pub write_items-requires : goal.write_items-requires
unfolding comes_before
write_items-requires c =
    let k = (goal.at.write_items-requires c).After-then_some-slash in
    let qs = parameters_in c.args.list.now.area.now c.args.list.now.params in
    (c.requires.0, refl, three_first (items_of (under pos_only) qs) (Ys k) (items_of (under pos_or_named) qs) c.args.line.now (room k))

pub write_sign-requires : goal.write_sign-requires
write_sign-requires c =
    let k = (goal.at.write_sign-requires c).After-then_some-slash in
    let qs = parameters_in c.args.list.now.area.now c.args.list.now.params in
    let one = c.write_items in
    three_second (items_of (under pos_only) qs) (Ys k) (items_of (under pos_or_named) qs) c.args.line.now (room k) one.new.line one.ensures

pub write_items-requires-2 : goal.write_items-requires-2
unfolding comes_before
write_items-requires-2 c =
    let k = (goal.at.write_items-requires-2 c).After-then_some-slash in
    let qs = parameters_in c.args.list.now.area.now c.args.list.now.params in
    let one = c.write_items in
    let two = c.write_sign in (
      c.requires.0,
      refl,
      three_third (items_of (under pos_only) qs) (Ys k) (items_of (under pos_or_named) qs) c.args.line.now (room k) one.new.line one.ensures
          two.new.self two.ensures,
    )

pub returns : goal.returns
returns c =
    let k = (goal.at.returns c).After-then_some-slash in
    let qs = parameters_in c.args.list.now.area.now c.args.list.now.params in
    let one = c.write_items in
    let two = c.write_sign in
    let three = c.write_items-2 in
    added_same _ _ (sym (positional_parts (Ys k) qs (slash k)))
    (three_added (items_of (under pos_only) qs) (Ys k) (items_of (under pos_or_named) qs) c.args.line.now (room k) one.new.line one.ensures
    two.new.self two.ensures three.new.line three.ensures)
