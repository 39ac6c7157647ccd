-- Law of the test for repeats (spec.rs 748-753): it fails exactly where 16 refuses, and with the name of 16's detail.
-- Assumes nothing.
use mathlib.Core.Path.{◌≡◌, refl, sym, ap, subst, ◌∙◌}
use mathlib.Core.Bool.{Bool, true, false, cond, ◌&&◌}
use mathlib.Core.List.{List, [], ◌∷◌, ◌++◌, map}
use mathlib.Core.Option.{some}
use Prim.Native.Nat.{ℕ, suc, ◌+◌, ◌≤◌, ◌<◌, suc-le-suc}
use native.Mathlib.Nat.{add-zero}
use native.Mathlib.Omega.{arith}
use borrow.Author.Tests.{ltb-false, le-ltb}
use lib.Dec.{ltb}
use lib.ListN.{length, get_or, length-append, length-map}
use lib.Seq.{append_snoc, get_or_at}
use Rattle.rules.specs.Listing.{all}
use Rattle.rules.specs.Text.{Text}
use Rattle.rules.specs.Value.{Value}
use Rattle.rules.specs.Answer.{Answer, fine, refuse, name, Part, part_of, spec_area}
use Rattle.rules.specs.CallRecord.{Named}
use Rattle.rules.specs.Parameters.{Parameter}
use Rattle.rules.specs.Placement.{from_p}
use Rattle.rules.specs.Binding.{named_by, ask_repeats}
use Rattle.rules.proofs.LawsListing.{and_left, and_right, map_append}
use Rattle.rules.proofs.LawsText.{same_bytes_eq}
use Rattle.original.specs.Locals.{RepeatedArg, ok, err, Locals}
use Rattle.original.specs.Ending.{ends, error_of}
use Rattle.original.proofs.TotalCollect.{no_text}
use Rattle.original.proofs.LawsNamed.{first_or}
use Rattle.original.proofs.LawsEnds.{reads_parameter}

module _ (read : Part → List ℕ) (named : List Named) (P : List Value) (W : List Named) (next m : ℕ) (d : Parameter) where
  -- from index i on, the slots filled from P are those below `next`
  abbrev pub FilledBelow : ℕ → List Parameter → Type 0
  FilledBelow i qs = (k : ℕ) → k < length qs → from_p P (i + k) (get_or qs k d) ≡ ltb (i + k) next

  here : (i : ℕ) (q : Parameter) (qs : List Parameter) → FilledBelow i (q ∷ qs) → from_p P i q ≡ ltb i next
  here i q qs f = subst (λ (n : ℕ). from_p P n q ≡ ltb n next) (add-zero i) (f 0 (omega arith))

  later : (i : ℕ) (q : Parameter) (qs : List Parameter) → FilledBelow i (q ∷ qs) → FilledBelow (suc i) qs
  later i q qs f k h = subst (λ (n : ℕ). from_p P n (get_or qs k d) ≡ ltb n next) (step i k) (f (suc k) (suc-le-suc h))
    where
      step : (x y : ℕ) → x + suc y ≡ suc x + y
      step x y = omega arith

  -- past `next` nothing repeats
  past_next : (i : ℕ) (qs : List Parameter) → FilledBelow i qs → next ≤ i → ask_repeats P W i qs ≡ fine
  past_next i [] f h = refl
  past_next i (q ∷ qs) f h = rw (here i q qs f, le-ltb i next h) (past_next (suc i) qs (later i q qs f) (omega arith))

  pub repeats_tested : (l : Locals) (before : List Parameter) (i : ℕ) (qs : List Parameter) → length before ≡ i → FilledBelow i qs → next ≤ m → all (reads_parameter read) qs ≡ true
      → some (cond (ltb (first_or m (named_by W) i qs) next) (err (RepeatedArg (get_or (map (λ q. q.name) (before ++ qs)) (first_or m (named_by W) i qs) no_text).bytes)) (ok l))
      ≡ ends read named (ask_repeats P W i qs) (ok l)
  unfolding error_of
  repeats_tested l before i [] n f h r = rw (le-ltb m next h)
  repeats_tested l before i (q ∷ qs) n f h r =
      go (named_by W q)
      (repeats_tested l (before ++ (q ∷ [])) (suc i) qs (length-append before (q ∷ []) ∙ ap (λ (x : ℕ). x + 1) n ∙ one i) (later i q qs f) h (and_right (reads_parameter read q) (all (reads_parameter read) qs) r))
    where
      one : (x : ℕ) → x + 1 ≡ suc x
      one x = omega arith

      this : get_or (map (λ p. p.name) (before ++ q ∷ qs)) i no_text ≡ q.name
      this =
          ap (λ (ts : List Text). get_or ts i no_text) (map_append (λ p. p.name) before (q ∷ qs))
          ∙ get_or_at (map (λ p. p.name) before) q.name (map (λ p. p.name) qs) no_text i (length-map before (λ p. p.name) ∙ n)

      named_here : (b : Bool) → ltb i next ≡ b
          → some (cond b (err (RepeatedArg (get_or (map (λ p. p.name) (before ++ q ∷ qs)) i no_text).bytes)) (ok l))
          ≡ ends read named (cond (b && true) (refuse 16 (name (part_of spec_area q.name))) (ask_repeats P W (suc i) qs)) (ok l)
      named_here true p =
          ap (λ (bs : List ℕ). some (err (RepeatedArg bs)))
          (ap (λ (t : Text). t.bytes) this ∙ sym (same_bytes_eq (read (part_of spec_area q.name)) q.name.bytes (and_left (reads_parameter read q) (all (reads_parameter read) qs) r)))
      named_here false p = rw (past_next (suc i) qs (later i q qs f) (omega (arith, ltb-false i next p)))

      unnamed : (b : Bool) (a : Answer) → cond (b && false) (refuse 16 (name (part_of spec_area q.name))) a ≡ a
      unnamed true a = refl
      unnamed false a = refl

      go : (c : Bool)
          → some (cond (ltb (first_or m (named_by W) (suc i) qs) next) (err (RepeatedArg (get_or (map (λ p. p.name) (before ++ (q ∷ []) ++ qs)) (first_or m (named_by W) (suc i) qs) no_text).bytes)) (ok l))
          ≡ ends read named (ask_repeats P W (suc i) qs) (ok l)
          → some (cond (ltb (cond c i (first_or m (named_by W) (suc i) qs)) next) (err (RepeatedArg (get_or (map (λ p. p.name) (before ++ q ∷ qs)) (cond c i (first_or m (named_by W) (suc i) qs)) no_text).bytes)) (ok l))
          ≡ ends read named (cond (from_p P i q && c) (refuse 16 (name (part_of spec_area q.name))) (ask_repeats P W (suc i) qs)) (ok l)
      go true ih = rw (here i q qs f) (named_here (ltb i next) refl)
      go false ih = rw (unnamed (from_p P i q) (ask_repeats P W (suc i) qs)) (rw (append_snoc before q qs) at ih)
