-- Accessors (01, accessors): what is read off a call record without a parameter list. P, N and the questions are those of collection; B is the
-- number of values that each part of a call may have, A the number of parameters that a list may have, on which the output's length rests.
use Rattle.std.specs.Prelude.{Bool, true, false, cond, ◌&&◌, List, [], ◌++◌, ℕ, ◌+◌, ◌-◌, leb, length, replicate}
use Rattle.rules.specs.Listing.{all}
use Rattle.rules.specs.Cells.{write_each, over}
use Rattle.rules.specs.Value.{Value, value_cells, no_value}
use Rattle.rules.specs.Answer.{Answer, fine, refuse, ◌then◌, ask, Detail, bounds}
use Rattle.rules.specs.CallRecord.{Call, Key, word, number, Head, read_head, entries_of, positionals_of, named_of}
use Rattle.rules.specs.Board.{named_cells}
use Rattle.rules.specs.CallQuestions.{ask_call, ask_board}
use Rattle.rules.specs.Binding.{star_passes, double_passes, ask_entries, ask_named_remainder}
use Rattle.rules.specs.Collection.{call_of}

-- what an accessor answers: refused, with number and detail, or a number
pub data Access : Type 0 where
  denied : ℕ → Detail → Access
  gives : ℕ → Access

-- the number, when the questions have answered
abbrev pub access_of : Answer → ℕ → Access
access_of (refuse n d) k = denied n d
access_of fine k = gives k

-- what the output holds afterwards: what is written from cell 0 on and the cells behind it as they were; after a refusal, what it held
abbrev pub left_by : Access → List ℕ → List ℕ → List ℕ
left_by (denied n d) cells out = out
left_by (gives k) cells out = over cells out

-- 9 to 14: what those ask that write
unfoldable pub ask_writing : ℕ → ℕ → List ℕ → List ℕ → List ℕ → Answer
ask_writing A B cells area out = ask_call B cells area then ask_board A B out

-- `names_map` asks 17, then of each entry 18 and whether its name is new among those of N before it (19). That is what collection asks of
-- the entries where no parameter stands in a list and so no slot is filled. It answers the length of N and writes N
unfoldable pub names_map : ℕ → ℕ → List ℕ → List ℕ → List ℕ → Access
names_map A B cells area out =
    let c : Call = call_of cells area in
    access_of (ask_writing A B cells area out then ask 17 (double_passes c.double) then ask_entries [] [] c.named (entries_of c.double))
    (length (named_of c))

unfoldable pub names_map_cells : List ℕ → List ℕ → List ℕ
names_map_cells cells area = write_each named_cells (named_of (call_of cells area))

-- `positions` asks 15, answers the length of P and writes P
unfoldable pub positions : ℕ → ℕ → List ℕ → List ℕ → List ℕ → Access
positions A B cells area out =
    let c : Call = call_of cells area in
    access_of (ask_writing A B cells area out then ask 15 (star_passes c.star)) (length (positionals_of c))

unfoldable pub positions_cells : List ℕ → List ℕ → List ℕ
positions_cells cells area = write_each value_cells (positionals_of (call_of cells area))

-- `len` asks 15 and 17 and answers p + n + s + d: a name that is written and stands in the dictionary too counts twice
unfoldable pub len : ℕ → List ℕ → List ℕ → Access
len B cells area =
    let c : Call = call_of cells area in
    let h : Head = read_head cells in
    access_of (ask_call B cells area then ask 15 (star_passes c.star) then ask 17 (double_passes c.double)) (h.p + h.n + h.s + h.d)

-- is a key a text?
abbrev pub is_word : Key → Bool
is_word (word t) = true
is_word (number n) = false

-- `no_named_args` asks 17, 18 of every entry, and then 24 of N as though all of it were left over: how many, and the first name. Where neither
-- a name nor a double star is given none of them can refuse. It answers no number; 0 stands in
unfoldable pub no_named_args : ℕ → List ℕ → List ℕ → Access
no_named_args B cells area =
    let c : Call = call_of cells area in
    access_of
    (ask_call B cells area
    then ask 17 (double_passes c.double)
    then ask 18 (all (λ e. is_word e.key) (entries_of c.double))
    then ask_named_remainder false (named_of c))
    0

-- 26: the number of positionals is at least `required` and at most `optional` more. The detail is both bounds and the number
unfoldable pub ask_number : ℕ → ℕ → ℕ → Answer
ask_number required optional got =
    cond (leb required got && leb got (required + optional)) fine (refuse 26 (bounds required (required + optional) got))

-- `optional` asks 25 before the record, 15 and 26 after it, and answers the length of P; `positional` is `optional` with OPTIONAL 0
unfoldable pub optional : ℕ → ℕ → ℕ → ℕ → List ℕ → List ℕ → List ℕ → Access
optional A B required more cells area out =
    let c : Call = call_of cells area in
    let P : List Value = positionals_of c in
    access_of
    (ask 25 (leb required B && leb more B)
    then ask_writing A B cells area out
    then ask 15 (star_passes c.star)
    then ask_number required more (length P))
    (length P)

-- it writes REQUIRED + OPTIONAL values: P, and 0, 0 for each that is not given
unfoldable pub optional_cells : ℕ → ℕ → List ℕ → List ℕ → List ℕ
optional_cells required more cells area =
    let P : List Value = positionals_of (call_of cells area) in
    write_each value_cells (P ++ replicate (required + more - length P) no_value)
