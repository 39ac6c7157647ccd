-- Laws of what `bind` prints (01, sheets): how long a text, a slot's name, a line and a refusal are. What a value takes is in LawsSheetValue.
-- Assumes nothing.
use mathlib.Core.Path.{◌≡◌, refl}
use mathlib.Core.Bool.{true, ◌&&◌}
use mathlib.Core.List.{List, [], ◌∷◌}
use Prim.Native.Nat.{ℕ, ◌+◌, ◌≤◌}
use native.Mathlib.Omega.{arith}
use lib.Dec.{leb}
use lib.ListN.{length, length-append, length-take}
use borrow.Author.Tests.{leb-true}
use Rattle.rules.specs.Text.{bytes_at, size_of, inside, is_text}
use Rattle.rules.specs.Parameters.{ParameterKind, required, optional, defaulted, args, kwargs, plain}
use Rattle.rules.specs.SheetValue.{decimal}
use Rattle.rules.specs.SheetOutput.{line, slot_name, refusal_text}
use Rattle.rules.proofs.LawsListing.{and_right}
use Rattle.rules.proofs.LawsDigits.{decimal_length}

pub text_length : (area : List ℕ) (payload : ℕ) → is_text 0 area payload ≡ true → length (bytes_at area payload) ≤ 64
unfolding is_text bytes_at
text_length area payload e =
    let size : size_of payload ≤ 64 = leb-true (size_of payload) 64 (and_right (inside area payload && leb 0 (size_of payload)) (leb (size_of payload) 64) e) in
    simp length-take (omega arith)

pub slot_name_length : (kind : ParameterKind) (bytes : List ℕ) → (plain kind ≡ true → length bytes ≤ 64) → length (slot_name kind bytes) ≤ 64
slot_name_length required bytes h = h refl
slot_name_length optional bytes h = h refl
slot_name_length (defaulted v) bytes h = h refl
slot_name_length args bytes h = omega arith
slot_name_length kwargs bytes h = omega arith

pub line_length : (a b c : List ℕ) → length (line a b c) ≡ length a + length b + length c + 3
unfolding line
line_length a b c =
    simp (length-append) (omega arith)

pub refusal_length : (n : ℕ) (detail : List ℕ) → length (refusal_text n detail) ≤ length detail + 30
unfolding refusal_text
refusal_length n detail = omega (arith, line_length (114 ∷ 101 ∷ 102 ∷ 117 ∷ 115 ∷ 101 ∷ 100 ∷ []) (decimal n) detail, decimal_length n)
