-- Laws of the codes 1 to 7: what holds at each code of a range holds of a code in it; then what `rules` says of a step's code, range by
-- range. Assumes nothing.
use mathlib.Core.Path.{◌≡◌, refl}
use mathlib.Core.Bool.{true, false, ◌&&◌}
use mathlib.Core.List.{List}
use Prim.Native.Nat.{ℕ, zero, suc, ◌<◌, ◌≤◌}
use native.Mathlib.Omega.{arith}
use native.Mathlib.Decide.{dec_le}
use lib.Dec.{eqb}
use Rattle.rules.specs.Value.{Value}
use Rattle.rules.specs.Parameters.{Style, comes_before, named_only, adds, unknown_code, act_of, may_stand, plain}
use Rattle.rules.specs.ParameterQuestions.{is_code, has_name, uses_right, is_zero}
use Rattle.builder.specs.Params.{kind_for}

-- ---- a code in a range

pub code_3 : (P : ℕ → Type 0) → P 1 → P 2 → P 3 → (n : ℕ) → 1 ≤ n → n < 4 → P n
code_3 P a b c zero l u = absurd (omega arith)
code_3 P a b c (suc zero) l u = a
code_3 P a b c (suc (suc zero)) l u = b
code_3 P a b c (suc (suc (suc zero))) l u = c
code_3 P a b c (suc (suc (suc (suc n)))) l u = absurd (omega arith)

pub code_7 : (P : ℕ → Type 0) → P 4 → P 5 → P 6 → P 7 → (n : ℕ) → 4 ≤ n → n < 8 → P n
code_7 P a b c d zero l u = absurd (omega arith)
code_7 P a b c d (suc zero) l u = absurd (omega arith)
code_7 P a b c d (suc (suc zero)) l u = absurd (omega arith)
code_7 P a b c d (suc (suc (suc zero))) l u = absurd (omega arith)
code_7 P a b c d (suc (suc (suc (suc zero)))) l u = a
code_7 P a b c d (suc (suc (suc (suc (suc zero))))) l u = b
code_7 P a b c d (suc (suc (suc (suc (suc (suc zero)))))) l u = c
code_7 P a b c d (suc (suc (suc (suc (suc (suc (suc zero))))))) l u = d
code_7 P a b c d (suc (suc (suc (suc (suc (suc (suc (suc n)))))))) l u = absurd (omega arith)

pub code_8 : (n : ℕ) (v : Value) → 8 ≤ n → act_of n v ≡ unknown_code
code_8 zero v l = absurd (omega arith)
code_8 (suc zero) v l = absurd (omega arith)
code_8 (suc (suc zero)) v l = absurd (omega arith)
code_8 (suc (suc (suc zero))) v l = absurd (omega arith)
code_8 (suc (suc (suc (suc zero)))) v l = absurd (omega arith)
code_8 (suc (suc (suc (suc (suc zero))))) v l = absurd (omega arith)
code_8 (suc (suc (suc (suc (suc (suc zero)))))) v l = absurd (omega arith)
code_8 (suc (suc (suc (suc (suc (suc (suc zero))))))) v l = absurd (omega arith)
code_8 (suc (suc (suc (suc (suc (suc (suc (suc n)))))))) v l = refl

module _ (v : Value) where
  pub code_0 : (n : ℕ) → n < 1 → act_of n v ≡ unknown_code
  code_0 zero u = refl
  code_0 (suc n) u = absurd (omega arith)

  -- what holds of 4 to 7 and of a code that is none holds from 4 on
  pub code_4 : (P : ℕ → Type 0) → P 4 → P 5 → P 6 → P 7 → ((n : ℕ) → act_of n v ≡ unknown_code → P n) → (n : ℕ) → 4 ≤ n → P n
  code_4 P a b c d none n l = split (dec_le 8 n)
    where
      split : Dec (8 ≤ n) → P n
      split (yes h) = none n (code_8 n v h)
      split (no h) = code_7 P a b c d n l (omega arith)

  -- ---- codes 1 to 3 are plain, and no other

  pub plain_code : (code : ℕ) → 1 ≤ code → code < 4 → plain (kind_for (act_of code v)) ≡ true
  plain_code = code_3 (λ n. plain (kind_for (act_of n v)) ≡ true) refl refl refl

  pub plain_adds : (code : ℕ) → 1 ≤ code → code < 4 → act_of code v ≡ adds (kind_for (act_of code v))
  plain_adds = code_3 (λ n. act_of n v ≡ adds (kind_for (act_of n v))) refl refl refl

  pub plain_above : (code : ℕ) → 4 ≤ code → plain (kind_for (act_of code v)) ≡ false
  plain_above = code_4 (λ n. plain (kind_for (act_of n v)) ≡ false) refl refl refl refl (λ n e. rw e)

  -- ---- where they may stand

  pub may_stand_star : (s : Style) (code : ℕ) → 5 ≤ code → code < 7 → may_stand s (act_of code v) ≡ comes_before s named_only
  may_stand_star s code l u =
      code_7 (λ n. 5 ≤ n → n < 7 → may_stand s (act_of n v) ≡ comes_before s named_only)
      (λ a b. absurd (omega arith)) (λ a b. refl) (λ a b. refl) (λ a b. absurd (omega arith))
      code (omega arith) (omega arith) l u

  -- ---- questions 2 to 4 of a step

  pub is_code_7 : (code : ℕ) → 1 ≤ code → code < 8 → is_code (act_of code v) ≡ true
  is_code_7 code l u = split (dec_le 4 code)
    where
      split : Dec (4 ≤ code) → is_code (act_of code v) ≡ true
      split (yes h) = code_7 (λ n. is_code (act_of n v) ≡ true) refl refl refl refl code h u
      split (no h) = code_3 (λ n. is_code (act_of n v) ≡ true) refl refl refl code l (omega arith)

  pub has_name_3 : (code : ℕ) → 1 ≤ code → code < 4 → has_name (act_of code v) ≡ true
  has_name_3 = code_3 (λ n. has_name (act_of n v) ≡ true) refl refl refl

  pub has_name_4 : (code : ℕ) → 4 ≤ code → has_name (act_of code v) ≡ false
  has_name_4 = code_4 (λ n. has_name (act_of n v) ≡ false) refl refl refl refl (λ n e. rw e)

  module _ (area : List ℕ) (name : ℕ) where
    pub uses_right_2 : (code : ℕ) → 1 ≤ code → code < 3 → uses_right area (act_of code v) name v ≡ is_zero v
    uses_right_2 code l u =
        code_3 (λ n. n < 3 → uses_right area (act_of n v) name v ≡ is_zero v) (λ a. refl) (λ a. refl) (λ a. absurd (omega arith))
        code l (omega arith) u

    pub uses_right_7 : (code : ℕ) → 4 ≤ code → code < 8 → uses_right area (act_of code v) name v ≡ eqb name 0 && is_zero v
    uses_right_7 = code_7 (λ n. uses_right area (act_of n v) name v ≡ eqb name 0 && is_zero v) refl refl refl refl
