-- `printer::write_named` meets its contract: three runs of items in a row. Assumes nothing.
use mathlib.Core.Path.{◌≡◌, refl, sym, ◌∙◌}
use mathlib.Core.List.{List, ◌++◌}
use Prim.Native.Nat.{ℕ}
use Rattle.std.specs.Prelude.{option_copied, option_to_list}
use Rattle.rules.specs.Parameters.{comes_before, named_only}
use Rattle.rules.specs.Printed.{items_of, star_item, kwargs_item}
use Rattle.builder.specs.Params.{parameters_in}
use Rattle.printer.specs.Items.{under}
use Rattle.printer.specs.Line.{Room}
use Rattle.printer.proofs.LawsLine.{room_same, three_first, three_second, three_third, three_added, added_same}
use Rattle.printer.proofs.LawsList.{given_args, given_kwargs, star_sign, kwargs_sign, named_parts}
use Rattle.printer.proofs.write_named.Goals as goal
use Rattle.printer.proofs.write_named.Goals.{After-or}

-- the signs in front and at the end
abbrev Xs : After-or → List (List ℕ)
Xs k = option_to_list (option_copied k.or.result)

abbrev Zs : After-or → List (List ℕ)
Zs k = option_to_list (option_copied k.then_some-kwargs.result)

star : (k : After-or) → let l = k.args.list.now in Xs k ≡ star_item (parameters_in l.area.now l.params)
star k =
    let l = k.args.list.now in
    let qs = parameters_in l.area.now l.params in
    star_sign _ _ _ _ _ _ _ qs k.or.ensures k.then_some-args.ensures k.then_some-bare.ensures refl refl
    (k.is_some.ensures ∙ given_args l.indices.args qs k.requires.args) (k.any_item.ensures l.area.now)

kwargs : (k : After-or) → let l = k.args.list.now in Zs k ≡ kwargs_item (parameters_in l.area.now l.params)
kwargs k =
    let l = k.args.list.now in
    let qs = parameters_in l.area.now l.params in
    kwargs_sign _ _ _ qs k.then_some-kwargs.ensures refl (k.is_some-2.ensures ∙ given_kwargs l.indices.kwargs qs k.requires.kwargs)

room : (k : After-or) → let qs = parameters_in k.args.list.now.area.now k.args.list.now.params in
    Room (Xs k ++ (items_of (under named_only) qs ++ Zs k)) k.args.line.now
room k =
    let qs = parameters_in k.args.list.now.area.now k.args.list.now.params in
    room_same _ _ k.args.line.now (named_parts (Xs k) (Zs k) qs (star k) (kwargs k)) k.requires.room

pub any_item-requires : goal.any_item-requires
unfolding comes_before
any_item-requires c = (c.requires.count, refl)

pub write_sign-requires : goal.write_sign-requires
write_sign-requires c =
    let k = (goal.at.write_sign-requires c).After-or in
    let qs = parameters_in c.args.list.now.area.now c.args.list.now.params in
    three_first (Xs k) (items_of (under named_only) qs) (Zs k) c.args.line.now (room k)

pub write_items-requires : goal.write_items-requires
unfolding comes_before
write_items-requires c =
    let k = (goal.at.write_items-requires c).After-or in
    let qs = parameters_in c.args.list.now.area.now c.args.list.now.params in
    let one = c.write_sign in
    (c.requires.count, refl, three_second (Xs k) (items_of (under named_only) qs) (Zs k) c.args.line.now (room k) one.new.self one.ensures)

pub write_sign-requires-2 : goal.write_sign-requires-2
write_sign-requires-2 c =
    let k = (goal.at.write_sign-requires-2 c).After-or in
    let qs = parameters_in c.args.list.now.area.now c.args.list.now.params in
    let one = c.write_sign in
    let two = c.write_items in
    three_third (Xs k) (items_of (under named_only) qs) (Zs k) c.args.line.now (room k) one.new.self one.ensures
    two.new.line two.ensures

pub returns : goal.returns
returns c =
    let k = (goal.at.returns c).After-or in
    let qs = parameters_in c.args.list.now.area.now c.args.list.now.params in
    let one = c.write_sign in
    let two = c.write_items in
    let three = c.write_sign-2 in
    added_same _ _ (sym (named_parts (Xs k) (Zs k) qs (star k) (kwargs k)))
    (three_added (Xs k) (items_of (under named_only) qs) (Zs k) c.args.line.now (room k) one.new.self one.ensures
    two.new.line two.ensures three.new.self three.ensures)
