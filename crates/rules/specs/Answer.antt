-- What a question answers (01, the section on the questions): there is nothing against the record, or it is refused with a number and the
-- detail that goes with that number. In a chain of questions the first refusal is the chain's.
use Rattle.std.specs.Prelude.{Bool, true, false, ℕ}
use Rattle.rules.specs.Text.{Text, start_of, size_of}

-- the two lent areas: the parameter list's bytes and the call's
pub data Area : Type 0 where
  spec_area : Area
  call_area : Area

-- a name in a detail is handed back as a place: in which area it stands, where it starts there, how long it is
pub record Part : Type 0 where
  pub area : Area
  pub start : ℕ
  pub size : ℕ

unfoldable pub part_of : Area → Text → Part
part_of area t = record { area = area; start = start_of t.payload; size = size_of t.payload }

-- what a refusal carries besides its number: nothing, a name, a count, a count with the first name counted, or (26) the least and the
-- greatest number that would do and the number that was given
pub data Detail : Type 0 where
  none : Detail
  name : Part → Detail
  count : ℕ → Detail
  count_and_name : ℕ → Part → Detail
  bounds : ℕ → ℕ → ℕ → Detail

pub data Answer : Type 0 where
  fine : Answer
  refuse : ℕ → Detail → Answer

infixr 20 ◌then◌
-- one question after another: the first refusal is the answer
abbrev pub ◌then◌ : Answer → Answer → Answer
◌then◌ fine a = a
◌then◌ (refuse n d) a = refuse n d

-- question n without a detail, answered by a test
abbrev pub ask : ℕ → Bool → Answer
ask n true = fine
ask n false = refuse n none
