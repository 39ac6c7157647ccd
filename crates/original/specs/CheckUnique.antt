-- Reworked from starlark 0.14.2, src/eval/runtime/arguments.rs (new_check_unique), Apache-2.0.
-- `ArgNames::new_check_unique` (arguments.rs 146-159), statement by statement: the written names of a call are handed on, or the first that
-- is written a second time is an error. The Rust's set finds by a name's text, which has its hash beside it; here it is a list in the order
-- of insertion, searched by the bytes.
use Rattle.std.specs.Prelude.{◌≡◌, Bool, true, false, cond, List, [], ◌∷◌, ◌++◌, map, ℕ}
use Rattle.std.proofs.Math.Option.{Option, none, some}
use Rattle.rules.specs.Text.{Text, among, differ}
use Rattle.rules.specs.CallRecord.{read_call, named_in}

-- what is handed back: the names, or the error with the name that occurs more than once
pub data Checked : Type 0 where
  unique : List Text → Checked
  occurs_twice : List ℕ → Checked

-- 150-157, the loop over the names: `set` has those before, and `insert_hashed` says false of one that it has already. Where the loop
-- returns, what it returns; none where it ends
abbrev pub insert_all : List Text → List Text → Option Text
insert_all set [] = none
insert_all set (name ∷ names) = cond (among name.bytes set) (some name) (insert_all (set ++ (name ∷ [])) names)

-- 152-155 where the loop has returned, else 158
abbrev pub checked_as : Option Text → List Text → Checked
checked_as (some name) names = occurs_twice name.bytes
checked_as none names = unique names

-- 146-159; 149: the set is empty at first
unfoldable pub new_check_unique : List Text → Checked
new_check_unique names = checked_as (insert_all [] names) names

-- has the check passed?
abbrev pub is_unique : Checked → Bool
is_unique (unique names) = true
is_unique (occurs_twice bytes) = false

-- the written names of a call record over its area, of which question 13 is asked
unfoldable pub written_names : List ℕ → List ℕ → List Text
written_names area cells = map (λ p. (named_in area p).name) (read_call cells).named

-- a name, `again`, that is the same as one before it, and the first such: those before it differ
pub record FirstRepeated (names : List Text) : Type 0 where
  pub before : List Text
  pub again : Text
  pub after : List Text
  pub stands : names ≡ before ++ again ∷ after
  pub none_before : differ before ≡ true
  pub occurs : among again.bytes before ≡ true

-- what holds of the check: names that differ are handed on, and of others the first repeated one is the error
pub record ChecksUnique (names : List Text) : Type 0 where
  pub handed_on : differ names ≡ true → new_check_unique names ≡ unique names
  pub refused : differ names ≡ false → (f : FirstRepeated names) × (new_check_unique names ≡ occurs_twice f.again.bytes)
