-- Keys (01, question 12): the questions up to 12, and two keys as the code reads them, compared.
use Rattle.std.specs.Prelude.{Bool, false, List, ℕ, Option, Some, None, eqb}
use Rattle.std.specs.Int.{w64}
use Rattle.std.proofs.Common.{of_z}
use Rattle.rules.specs.Text.{payload_of, same_bytes}
use Rattle.rules.specs.Answer.{Answer, ◌then◌, ask}
use Rattle.rules.specs.CallRecord.{read_call}
use Rattle.rules.specs.CallQuestions.{entries_differ, ask_form}
use Rattle.cells.specs.Text.{part_at}
use Rattle.cells.specs.declared.value.Key.{Key}
use Rattle.cells.specs.declared.value.Key.TheVariants.{Word, Number}

-- 9 to 12, in their order: 13 is the one question of a call record that is left
unfoldable pub ask_keys : ℕ → List ℕ → List ℕ → Answer
ask_keys B cells area = ask_form B cells area then ask 12 (entries_differ area (read_call cells))

-- texts are equal by their bytes, whole numbers by their value; what is no key is equal to none
abbrev pub same_read : List ℕ → Option Key → Option Key → Bool
same_read area (Some (Word t)) (Some (Word u)) = same_bytes (part_at area (payload_of t.start t.len)) (part_at area (payload_of u.start u.len))
same_read area (Some (Word t)) (Some (Number n)) = false
same_read area (Some (Word t)) None = false
same_read area (Some (Number m)) (Some (Word u)) = false
same_read area (Some (Number m)) (Some (Number n)) = eqb (of_z w64 m) (of_z w64 n)
same_read area (Some (Number m)) None = false
same_read area None b = false
