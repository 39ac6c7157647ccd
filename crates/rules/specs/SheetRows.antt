-- Which rows may stand in a sheet (01, sheets): each is judged by itself and by the rows before it. Lengths of texts and kinds of keys are no
-- matter of a sheet. A is the number of parameters that a list may have, B the number of values that each part of a call may have.
use Rattle.std.specs.Prelude.{Bool, true, false, cond, ◌&&◌, ◌||◌, List, [], ◌∷◌, ℕ, ◌+◌, leb, ltb, eqb, length}
use Rattle.std.proofs.Math.Option.{Option, none, some}
use Rattle.rules.specs.Listing.{any, tally}
use Rattle.rules.specs.Text.{same_bytes}
use Rattle.rules.specs.SheetValue.{CellValue, read_cell}
use Rattle.rules.specs.SheetLines.{Row}

abbrev pub is_empty : List ℕ → Bool
is_empty [] = true
is_empty (b ∷ bs) = false

-- does a cell hold a value?
abbrev pub is_some : Option CellValue → Bool
is_some none = false
is_some (some v) = true

unfoldable pub is_value : List ℕ → Bool
is_value cell = is_some (read_cell cell)

-- ---- the parameter sheet

-- `def`
unfoldable pub is_def : Row → Bool
is_def r = same_bytes r.part (100 ∷ 101 ∷ 102 ∷ [])

-- the code of a step by its part: `required` 1, `optional` 2, `defaulted` 3, `/` 4, `*` 5, `*args` 6, `**kwargs` 7; 0 where it is none of them
unfoldable pub code_of : List ℕ → ℕ
code_of part =
    cond (same_bytes part (114 ∷ 101 ∷ 113 ∷ 117 ∷ 105 ∷ 114 ∷ 101 ∷ 100 ∷ [])) 1
    (cond (same_bytes part (111 ∷ 112 ∷ 116 ∷ 105 ∷ 111 ∷ 110 ∷ 97 ∷ 108 ∷ [])) 2
    (cond (same_bytes part (100 ∷ 101 ∷ 102 ∷ 97 ∷ 117 ∷ 108 ∷ 116 ∷ 101 ∷ 100 ∷ [])) 3
    (cond (same_bytes part (47 ∷ [])) 4
    (cond (same_bytes part (42 ∷ [])) 5
    (cond (same_bytes part (42 ∷ 97 ∷ 114 ∷ 103 ∷ 115 ∷ [])) 6
    (cond (same_bytes part (42 ∷ 42 ∷ 107 ∷ 119 ∷ 97 ∷ 114 ∷ 103 ∷ 115 ∷ [])) 7 0))))))

-- a step: 1 and 2 have a name, 3 a name and a value, 4 to 7 neither; a cell that is not used is empty
unfoldable pub step_right : Row → Bool
step_right r =
    leb 1 (code_of r.part)
    && cond (ltb (code_of r.part) 4) true (is_empty r.name)
    && cond (eqb (code_of r.part) 3) (is_value r.value) (is_empty r.value)

-- `def` comes first, and once, with a name alone; behind it at most A + 2 steps
abbrev pub parameter_row_right : ℕ → List Row → Row → Bool
parameter_row_right A [] r = is_def r && is_empty r.value
parameter_row_right A (first ∷ others) r = step_right r && ltb (length others) (A + 2)

-- ---- the call sheet

-- what a row of a call adds, by its part
pub data CallPart : Type 0 where
  positional : CallPart
  named : CallPart
  star : CallPart
  item : CallPart
  double : CallPart
  entry : CallPart
  unknown_part : CallPart

-- `pos`, `named`, `star`, `item`, `dstar`, `entry`
unfoldable pub call_part : List ℕ → CallPart
call_part part =
    cond (same_bytes part (112 ∷ 111 ∷ 115 ∷ [])) positional
    (cond (same_bytes part (110 ∷ 97 ∷ 109 ∷ 101 ∷ 100 ∷ [])) named
    (cond (same_bytes part (115 ∷ 116 ∷ 97 ∷ 114 ∷ [])) star
    (cond (same_bytes part (105 ∷ 116 ∷ 101 ∷ 109 ∷ [])) item
    (cond (same_bytes part (100 ∷ 115 ∷ 116 ∷ 97 ∷ 114 ∷ [])) double
    (cond (same_bytes part (101 ∷ 110 ∷ 116 ∷ 114 ∷ 121 ∷ [])) entry unknown_part)))))

-- parts by number, so that two can be compared
abbrev pub part_number : CallPart → ℕ
part_number positional = 0
part_number named = 1
part_number star = 2
part_number item = 3
part_number double = 4
part_number entry = 5
part_number unknown_part = 6

unfoldable pub is_part : CallPart → Row → Bool
is_part p r = eqb (part_number (call_part r.part)) (part_number p)

-- `list`, `dict`, `other`
unfoldable pub is_list : List ℕ → Bool
is_list value = same_bytes value (108 ∷ 105 ∷ 115 ∷ 116 ∷ [])

unfoldable pub is_dict : List ℕ → Bool
is_dict value = same_bytes value (100 ∷ 105 ∷ 99 ∷ 116 ∷ [])

unfoldable pub is_other : List ℕ → Bool
is_other value = same_bytes value (111 ∷ 116 ∷ 104 ∷ 101 ∷ 114 ∷ [])

-- fewer than B rows of a part came before
unfoldable pub fewer : ℕ → CallPart → List Row → Bool
fewer B p rows = ltb (tally (is_part p) rows) B

-- a list, or a dictionary, came before
unfoldable pub list_before : List Row → Bool
list_before rows = any (λ r. is_part star r && is_list r.value) rows

unfoldable pub dict_before : List Row → Bool
dict_before rows = any (λ r. is_part double r && is_dict r.value) rows

-- a row of a part after the rows before it: its cells hold what the part wants, at most B of a part and one of either star, items after a list
-- and entries after a dictionary. The name of a named value is any text; the key of an entry is written like a value
abbrev pub call_row_right_as : ℕ → List Row → CallPart → Row → Bool
call_row_right_as B rows positional r = is_empty r.name && is_value r.value && fewer B positional rows
call_row_right_as B rows named r = is_value r.value && fewer B named rows
call_row_right_as B rows star r = is_empty r.name && (is_list r.value || is_other r.value) && fewer 1 star rows
call_row_right_as B rows item r = is_empty r.name && is_value r.value && list_before rows && fewer B item rows
call_row_right_as B rows double r = is_empty r.name && (is_dict r.value || is_other r.value) && fewer 1 double rows
call_row_right_as B rows entry r = is_value r.name && is_value r.value && dict_before rows && fewer B entry rows
call_row_right_as B rows unknown_part r = false

unfoldable pub call_row_right : ℕ → List Row → Row → Bool
call_row_right B rows r = call_row_right_as B rows (call_part r.part) r
