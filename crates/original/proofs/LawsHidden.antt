-- Where the Rust hides an unknown name: its end does so exactly where the outcome of 01's own order does that it is.
-- Assumes nothing.
use mathlib.Core.Path.{◌≡◌, refl, sym, ap, subst}
use mathlib.Core.Bool.{Bool, true, false, cond, not, ◌&&◌, ◌||◌, false≢true}
use mathlib.Core.List.{List, map}
use mathlib.Core.Option.{Option, none, some}
use Prim.Native.Nat.{ℕ}
use borrow.Author.Tests.{eqb-true}
use lib.Dec.{eqb}
use Rattle.rules.specs.Answer.{Detail, name, count, count_and_name, bounds, none as no_detail, Part}
use Rattle.rules.specs.CallRecord.{Named}
use Rattle.rules.specs.Collection.{Outcome, refused, accepted}
use Rattle.rules.specs.UnknownFirst.{some_name, missing_or_surplus}
use Rattle.rules.proofs.LawsListing.{and_no_right}
use Rattle.rules.proofs.LawsNumbers.{number_in}
use Rattle.original.specs.Spec.{is_some}
use Rattle.original.specs.Locals.{FunctionError, ArgsArrayIsNotIterable, RepeatedArg, KwArgsIsNotDict, ArgsValueIsNotString, MissingPositionalOnly, MissingNamedOnly, Missing, ExtraPositionalArg, ExtraNamedArg, ok, err}
use Rattle.original.specs.Ending.{by_name, by_count, counts_names, by_names, error_of}
use Rattle.original.specs.Whole.{End, panics, written_twice, collects, SameEnd, found_before24, rust_hides}

-- ---- an error is found before 24 exactly where its number is from 20 to 23

module _ (read : Part → List ℕ) (extra : List Named) (n : ℕ) where
  Says : Option FunctionError → Type 0
  Says o = (e : FunctionError) → o ≡ some e → found_before24 e ≡ number_in 20 23 n

  says_none : Says none
  unfolding Says
  says_none e p = absurd (false≢true (ap is_some p))

  says_some : (f : FunctionError) → found_before24 f ≡ number_in 20 23 n → Says (some f)
  unfolding Says
  says_some f h e p = let same : f ≡ e = cc in subst (λ x. found_before24 x ≡ number_in 20 23 n) same h

  says_name : (f : List ℕ → FunctionError) → ((bytes : List ℕ) → found_before24 (f bytes) ≡ number_in 20 23 n) → (d : Detail) → Says (by_name read f d)
  says_name f h (name p) = says_some (f (read p)) (h (read p))
  says_name f h no_detail = says_none
  says_name f h (count k) = says_none
  says_name f h (count_and_name k p) = says_none
  says_name f h (bounds a b c) = says_none

  says_count : (f : ℕ → FunctionError) → ((k : ℕ) → found_before24 (f k) ≡ number_in 20 23 n) → (d : Detail) → Says (by_count f d)
  says_count f h (count k) = says_some (f k) (h k)
  says_count f h no_detail = says_none
  says_count f h (name p) = says_none
  says_count f h (count_and_name k p) = says_none
  says_count f h (bounds a b c) = says_none

  says_names : false ≡ number_in 20 23 n → (d : Detail) → Says (by_names read extra d)
  says_names h (count_and_name k p) = go (counts_names read k p extra)
    where
      go : (b : Bool) → Says (cond b (some (ExtraNamedArg (map (λ v. v.name.bytes) extra))) none)
      go true = says_some (ExtraNamedArg (map (λ v. v.name.bytes) extra)) h
      go false = says_none
  says_names h no_detail = says_none
  says_names h (name p) = says_none
  says_names h (count k) = says_none
  says_names h (bounds a b c) = says_none

  -- a question of number k, or one that is asked later
  says_or : (k : ℕ) (x y : Option FunctionError) → (n ≡ k → Says x) → Says y → Says (cond (eqb n k) x y)
  says_or k x y f g = go (eqb n k) refl
    where
      go : (b : Bool) → eqb n k ≡ b → Says (cond b x y)
      go true p = f (eqb-true n k p)
      go false p = g

  says_either : (j k : ℕ) (x y : Option FunctionError) → (n ≡ j → Says x) → (n ≡ k → Says x) → Says y → Says (cond (eqb n j || eqb n k) x y)
  says_either j k x y f f₁ g = go (eqb n j) refl (eqb n k) refl
    where
      go : (b : Bool) → eqb n j ≡ b → (c : Bool) → eqb n k ≡ c → Says (cond (b || c) x y)
      go true p c q = f (eqb-true n j p)
      go false p true q = f₁ (eqb-true n k q)
      go false p false q = g

  pub error_number : (d : Detail) (e : FunctionError) → error_of read extra n d ≡ some e → found_before24 e ≡ number_in 20 23 n
  unfolding error_of Says
  error_number d =
      says_or 15 _ _ (λ p. says_some ArgsArrayIsNotIterable (rw p refl))
      (says_either 16 19 _ _ (λ p. says_name RepeatedArg (λ bytes. rw p refl) d) (λ p. says_name RepeatedArg (λ bytes. rw p refl) d)
      (says_or 17 _ _ (λ p. says_some KwArgsIsNotDict (rw p refl))
      (says_or 18 _ _ (λ p. says_some ArgsValueIsNotString (rw p refl))
      (says_or 20 _ _ (λ p. says_name MissingPositionalOnly (λ bytes. rw p refl) d)
      (says_or 21 _ _ (λ p. says_name Missing (λ bytes. rw p refl) d)
      (says_or 22 _ _ (λ p. says_name MissingNamedOnly (λ bytes. rw p refl) d)
      (says_or 23 _ _ (λ p. says_count ExtraPositionalArg (λ k. rw p refl) d)
      (says_or 24 _ _ (λ p. says_names (rw p refl) d) says_none))))))))

-- ---- an end

pub hides_same : (read : Part → List ℕ) (extra : List Named) (board : List ℕ) (kwargs : Bool) (theirs : End) (o : Outcome) → SameEnd read extra board theirs o
    → rust_hides kwargs extra theirs ≡ (not kwargs && some_name extra && missing_or_surplus o)
hides_same read extra board kwargs panics o s = absurd s
hides_same read extra board kwargs (written_twice bytes) (refused n d) s =
    rw s.0 (sym (and_no_right (not kwargs && some_name extra) false refl))
hides_same read extra board kwargs (written_twice bytes) (accepted counts after) s = absurd s
hides_same read extra board kwargs (collects (err e)) (refused n d) s = ap (λ b. not kwargs && some_name extra && b) (error_number read extra n d e s)
hides_same read extra board kwargs (collects (err e)) (accepted counts after) s = absurd s
hides_same read extra board kwargs (collects (ok slots)) (refused n d) s = absurd s
hides_same read extra board kwargs (collects (ok slots)) (accepted counts after) s = sym (and_no_right (not kwargs && some_name extra) false refl)
