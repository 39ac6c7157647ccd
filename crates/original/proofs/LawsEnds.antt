-- Laws of endings: a statement that ends as one question answers, and the statement after it as the next, end together as both in turn; and
-- names whose parts are read as their bytes.
-- Assumes nothing.
use mathlib.Core.Path.{◌≡◌, refl, ap, ◌∙◌}
use mathlib.Core.Bool.{Bool, true, false, cond}
use mathlib.Core.List.{List, [], ◌∷◌, ◌++◌}
use mathlib.Core.Option.{Option, none, some}
use Prim.Native.Nat.{ℕ}
use Rattle.rules.specs.Listing.{all, keep}
use Rattle.rules.specs.Text.{same_bytes}
use Rattle.rules.specs.Answer.{Answer, fine, refuse, ◌then◌, Part, part_of, spec_area, call_area}
use Rattle.rules.specs.CallRecord.{Named}
use Rattle.rules.specs.Parameters.{Parameter}
use Rattle.rules.proofs.LawsListing.{and_left, and_right, and_both}
use Rattle.original.specs.Locals.{FunctionError, Result, ok}
use Rattle.original.specs.Ending.{ends, failing, error_of}
use Rattle.original.proofs.TotalCollect.{◌total_then◌}

abbrev onwards : {X Y : Type 0} → Option (Result X) → (X → Result Y) → Option (Result Y)
onwards none f = none
onwards (some x) f = some (x total_then f)

module _ (read : Part → List ℕ) (named : List Named) where
  pub ends_then : {X Y : Type 0} (x : Result X) (f : X → Result Y) (a b : Answer) (s : X) (r : Result Y) → some x ≡ ends read named a (ok s)
      → (a ≡ fine → some (f s) ≡ ends read named b r) → some (x total_then f) ≡ ends read named (a then b) r
  ends_then x f fine b s r e g = ap (λ o. onwards o f) e ∙ g refl
  ends_then {Y = Y} x f (refuse n d) b s r e g = ap (λ o. onwards o f) e ∙ stays (error_of read named n d)
    where
      stays : (o : Option FunctionError) → onwards (failing o) f ≡ failing {X = Y} o
      stays none = refl
      stays (some y) = refl

-- the name of a parameter, or of a named value, is read as its bytes
abbrev pub reads_parameter : (Part → List ℕ) → Parameter → Bool
reads_parameter read q = same_bytes (read (part_of spec_area q.name)) q.name.bytes

abbrev pub reads_named : (Part → List ℕ) → Named → Bool
reads_named read v = same_bytes (read (part_of call_area v.name)) v.name.bytes

pub all_keep : {X : Type 0} (f g : X → Bool) (xs : List X) → all f xs ≡ true → all f (keep g xs) ≡ true
all_keep f g [] e = refl
all_keep f g (x ∷ xs) e = go (g x) (all_keep f g xs (and_right (f x) (all f xs) e))
  where
    go : (c : Bool) → all f (keep g xs) ≡ true → all f (cond c (x ∷ keep g xs) (keep g xs)) ≡ true
    go true h = and_both (f x) (all f (keep g xs)) (and_left (f x) (all f xs) e) h
    go false h = h

pub all_front : {X : Type 0} (f : X → Bool) (xs ys : List X) → all f (xs ++ ys) ≡ true → all f xs ≡ true
all_front f [] ys e = refl
all_front f (x ∷ xs) ys e = and_both (f x) (all f xs) (and_left (f x) (all f (xs ++ ys)) e) (all_front f xs ys (and_right (f x) (all f (xs ++ ys)) e))

pub all_back : {X : Type 0} (f : X → Bool) (xs ys : List X) → all f (xs ++ ys) ≡ true → all f ys ≡ true
all_back f [] ys e = e
all_back f (x ∷ xs) ys e = all_back f xs ys (and_right (f x) (all f (xs ++ ys)) e)
