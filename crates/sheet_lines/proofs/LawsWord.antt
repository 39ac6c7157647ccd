-- The cells of a line as the parts that the library splits it into (01, sheets); then what the place of a part in the tables of words says: the code
-- of a step, and what a row of a call adds.
-- Assumes nothing.
use mathlib.Core.Path.{◌≡◌, refl, sym, ap, ap₂, ◌∙◌}
use mathlib.Core.Bool.{Bool, true, false, cond}
use mathlib.Core.List.{List, [], ◌∷◌}
use Prim.Native.Nat.{ℕ, ◌+◌, ◌≤◌, ◌<◌}
use native.Mathlib.Omega.{arith}
use lib.Dec.{eqb}
use borrow.Author.Tests.{ne_eqb}
use Rattle.std.specs.Prelude.{Option, Some, None}
use Rattle.std.specs.List.{slice_split, onto_first, position_from}
use Rattle.rules.specs.Text.{same_bytes}
use Rattle.rules.specs.SheetLines.{before, split, cells_in}
use Rattle.rules.specs.SheetRows.{CallPart, positional, named, star, item, double, entry, unknown_part, code_of, call_part}
use Rattle.sheet_lines.proofs.LawsHeader.{position_column}

-- the cells of a line are its parts at the commas
pub parts_cells : (line : List ℕ) → slice_split (λ b. eqb b 44) line ≡ cells_in line
unfolding cells_in
parts_cells line = parts line
  where
    parts : (bytes : List ℕ) → slice_split (λ b. eqb b 44) bytes ≡ split 44 bytes
    parts [] = refl
    parts (b ∷ bs) = ap₂ (λ first ps. cond (eqb b 44) ([] ∷ first) ps) (parts bs) (ap (onto_first b) (parts bs) ∙ onto (split 44 bs))
      where
        onto : (pieces : List (List ℕ)) → onto_first b pieces ≡ before b pieces
        onto [] = refl
        onto (p ∷ ps) = refl

-- ---- steps

-- `required,optional,defaulted,/,*,*args,**kwargs`
abbrev pub step_words : List ℕ
step_words = 114 ∷ 101 ∷ 113 ∷ 117 ∷ 105 ∷ 114 ∷ 101 ∷ 100 ∷ 44 ∷ 111 ∷ 112 ∷ 116 ∷ 105 ∷ 111 ∷ 110 ∷ 97 ∷ 108 ∷ 44 ∷ 100 ∷ 101 ∷ 102 ∷ 97 ∷ 117 ∷ 108 ∷ 116 ∷ 101 ∷ 100 ∷ 44 ∷ 47 ∷ 44 ∷ 42 ∷ 44 ∷ 42 ∷ 97 ∷ 114 ∷ 103 ∷ 115 ∷ 44 ∷ 42 ∷ 42 ∷ 107 ∷ 119 ∷ 97 ∷ 114 ∷ 103 ∷ 115 ∷ []

abbrev pub code_by : Option ℕ → ℕ
code_by (Some n) = n + 1
code_by None = 0

-- there are seven
pub step_within : (part : List ℕ) {n : ℕ} → Some n ≡ position_from (same_bytes part) 0 (cells_in step_words) → n < 7
unfolding cells_in
step_within part {n} e = (position_column part 0 (cells_in step_words) n (sym e)).within

pub code_by_lem : (part : List ℕ) → code_by (position_from (same_bytes part) 0 (cells_in step_words)) ≡ code_of part
unfolding cells_in code_of
code_by_lem part = go (same_bytes part (114 ∷ 101 ∷ 113 ∷ 117 ∷ 105 ∷ 114 ∷ 101 ∷ 100 ∷ [])) (same_bytes part (111 ∷ 112 ∷ 116 ∷ 105 ∷ 111 ∷ 110 ∷ 97 ∷ 108 ∷ [])) (same_bytes part (100 ∷ 101 ∷ 102 ∷ 97 ∷ 117 ∷ 108 ∷ 116 ∷ 101 ∷ 100 ∷ [])) (same_bytes part (47 ∷ [])) (same_bytes part (42 ∷ [])) (same_bytes part (42 ∷ 97 ∷ 114 ∷ 103 ∷ 115 ∷ [])) (same_bytes part (42 ∷ 42 ∷ 107 ∷ 119 ∷ 97 ∷ 114 ∷ 103 ∷ 115 ∷ []))
  where
    go : (a b c d e f g : Bool)
        → code_by (cond a (Some 0) (cond b (Some 1) (cond c (Some 2) (cond d (Some 3) (cond e (Some 4) (cond f (Some 5) (cond g (Some 6) None)))))))
        ≡ cond a 1 (cond b 2 (cond c 3 (cond d 4 (cond e 5 (cond f 6 (cond g 7 0))))))
    go true b c d e f g = refl
    go false true c d e f g = refl
    go false false true d e f g = refl
    go false false false true e f g = refl
    go false false false false true f g = refl
    go false false false false false true g = refl
    go false false false false false false true = refl
    go false false false false false false false = refl

-- ---- parts of a call

abbrev pub part_by : Option ℕ → CallPart
part_by None = unknown_part
part_by (Some n) =
    cond (eqb n 0) positional
    (cond (eqb n 1) named (cond (eqb n 2) star (cond (eqb n 3) item (cond (eqb n 4) double (cond (eqb n 5) entry unknown_part)))))

-- `pos,named,star,item,dstar,entry`
abbrev pub call_words : List ℕ
call_words = 112 ∷ 111 ∷ 115 ∷ 44 ∷ 110 ∷ 97 ∷ 109 ∷ 101 ∷ 100 ∷ 44 ∷ 115 ∷ 116 ∷ 97 ∷ 114 ∷ 44 ∷ 105 ∷ 116 ∷ 101 ∷ 109 ∷ 44 ∷ 100 ∷ 115 ∷ 116 ∷ 97 ∷ 114 ∷ 44 ∷ 101 ∷ 110 ∷ 116 ∷ 114 ∷ 121 ∷ []

-- behind the last
pub part_past : (n : ℕ) → 6 ≤ n → part_by (Some n) ≡ unknown_part
part_past n h =
    rw (ne_eqb n 0 (λ e. omega arith), ne_eqb n 1 (λ e. omega arith), ne_eqb n 2 (λ e. omega arith), ne_eqb n 3 (λ e. omega arith), ne_eqb n 4 (λ e. omega arith), ne_eqb n 5 (λ e. omega arith))

pub part_by_lem : (part : List ℕ) → part_by (position_from (same_bytes part) 0 (cells_in call_words)) ≡ call_part part
unfolding cells_in call_part
part_by_lem part = go (same_bytes part (112 ∷ 111 ∷ 115 ∷ [])) (same_bytes part (110 ∷ 97 ∷ 109 ∷ 101 ∷ 100 ∷ [])) (same_bytes part (115 ∷ 116 ∷ 97 ∷ 114 ∷ [])) (same_bytes part (105 ∷ 116 ∷ 101 ∷ 109 ∷ [])) (same_bytes part (100 ∷ 115 ∷ 116 ∷ 97 ∷ 114 ∷ [])) (same_bytes part (101 ∷ 110 ∷ 116 ∷ 114 ∷ 121 ∷ []))
  where
    go : (p n s i d e : Bool)
        → part_by (cond p (Some 0) (cond n (Some 1) (cond s (Some 2) (cond i (Some 3) (cond d (Some 4) (cond e (Some 5) None))))))
        ≡ cond p positional (cond n named (cond s star (cond i item (cond d double (cond e entry unknown_part)))))
    go true n s i d e = refl
    go false true s i d e = refl
    go false false true i d e = refl
    go false false false true d e = refl
    go false false false false true e = refl
    go false false false false false true = refl
    go false false false false false false = refl
