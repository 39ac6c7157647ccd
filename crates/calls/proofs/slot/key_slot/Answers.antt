-- `calls::slot::key_slot` meets its contract: a text's slot by its last bytes in the area, a whole number's by the number.
-- Assumes nothing.
use mathlib.Core.Path.{ap, ◌∙◌}
use Prim.Native.Nat.{◌%◌}
use Rattle.calls.proofs.LawsSlots.{word_inside, slot_word, slot_number}
use Rattle.calls.proofs.slot.key_slot.Goals as goal

pub last_key-requires : goal.last_key-requires
last_key-requires c =
    word_inside c.args.record.now.area.now _ _ c.pair_at-key.ensures c.if-key-eq6.true c.requires

pub returns-then-key-eq6 : goal.returns-then-key-eq6
returns-then-key-eq6 c =
    ap (λ key. key % 929) c.last_key.ensures
    ∙ slot_word c.args.record.now.area.now _ _ c.pair_at-key.ensures c.if-key-eq6.true c.requires

pub returns : goal.returns
returns c =
    slot_number _ _ _ c.pair_at-key.ensures c.if-key-eq6.false
