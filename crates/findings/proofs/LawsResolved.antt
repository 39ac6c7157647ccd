-- Laws of names resolved one by one: nothing is resolved at first, a name that is found fills its slot, one that is not found joins the
-- remainder.
-- Assumes nothing.
use Rattle.std.specs.Prelude.{Option as Found, Some, None}
use mathlib.Core.Path.{◌≡◌, refl, sym, ap, ap₂, subst, ◌∙◌}
use mathlib.Core.Bool.{Bool, true, false, cond, not, true≢false}
use mathlib.Core.List.{List, [], ◌∷◌, ◌++◌, map, append-nil}
use mathlib.Core.Option.{Option, none, some}
use Prim.Native.Nat.{ℕ, zero, suc, ◌+◌, ◌≤◌, ◌<◌}
use native.Mathlib.Nat.{not-suc-le-zero, zero-add}
use native.Mathlib.Numerals.{add-one}
use native.Mathlib.Omega.{arith}
use borrow.Author.Tests.{eq-eqb, eqb-true, eqb-false}
use lib.Dec.{eqb, eqb-suc-zero}
use lib.ListN.{length, take, drop, get_or, set, length-set, length-append}
use lib.Seq.{get_or-set_same, get_or-set_other, take-suc-set, drop-drop}
use Rattle.rules.specs.Listing.{keep}
use Rattle.rules.specs.Value.{Value, read_value, value_width}
use Rattle.rules.specs.CallRecord.{Named, read_pair, named_in}
use Rattle.rules.specs.Parameters.{Parameter}
use Rattle.rules.specs.Lookup.{names, known, Finding, at, unknown, find_from, find}
use Rattle.rules.specs.Placement.{partner, named_remainder}
use Rattle.rules.proofs.LawsListing.{map_append}
use Rattle.rules.specs.Passed.{names_apart}
use Rattle.rules.specs.Text.{among}
use Rattle.rules.specs.Binding.{texts_of}
use Rattle.rules.proofs.LawsPlacement.{is_some, partner_some}
use Rattle.rules.proofs.LawsFound.{is_at, is_found, known_found, names_at, or_else, partner_snoc, keep_snoc, among_named, among_unknown}
use Rattle.lookup.specs.Lookup.{finding_of}
use Rattle.findings.specs.Resolved.{source_value, named_at, NamedPair, Resolved}
use Rattle.findings.specs.Resolve.{sources_after, rest_after, count_after}
use Rattle.findings.specs.Entries.{held_names, repeats_by}

-- a source that is not 0
pub source_some : (cells : List ℕ) (n : ℕ) → 0 < n → source_value cells n ≡ some (read_value (drop n cells))
source_some cells zero h = absurd (not-suc-le-zero h)
source_some cells (suc n) h = refl

source_is : (cells : List ℕ) (n : ℕ) → not (eqb n 0) ≡ is_some (source_value cells n)
source_is cells zero = refl
source_is cells (suc n) = ap not (eqb-suc-zero n)

-- the value of the pair at a cell stands two cells further
pub named_at_value : (area cells : List ℕ) (pair : ℕ) → (named_at area cells pair).value ≡ read_value (drop (pair + 2) cells)
unfolding named_at named_in read_pair value_width
named_at_value area cells pair = ap read_value (drop-drop 2 pair cells)

or_else_none : (o : Option Value) → or_else o none ≡ o
or_else_none none = refl
or_else_none (some v) = refl

module _ (qs : List Parameter) (cells area : List ℕ) where
  pub resolved_none : (sources rest : List ℕ) → length sources ≡ 64 → length rest ≡ 128 → ((k : ℕ) → k < length qs → get_or sources k 0 ≡ 0) → Resolved qs cells area [] sources rest 0
  unfolding named_remainder
  resolved_none sources rest slots pairs zeros =
      record { sources_are = λ k d h. sym (ap (source_value cells) (zeros k h)); rest_is = refl; in_rest = omega arith; rest_named = λ j h. absurd (omega arith); slots = slots; pairs = pairs }

  -- the parameter at an index is named by a pair exactly where the pair's name is found there
  pub named_at_lem : names_apart [] qs ≡ true → (b : List ℕ) (f : Finding) → find qs b ≡ f → (k : ℕ) (d : Parameter) → k < length qs → names b (get_or qs k d) ≡ is_at k f
  unfolding find
  named_at_lem apart b f e k d h = names_at [] 0 qs b apart k d h ∙ ap₂ is_at (zero-add k) e

  pub known_at : (b : List ℕ) (f : Finding) → find qs b ≡ f → known qs b ≡ is_found f
  unfolding find
  known_at b f e = sym (known_found qs b 0) ∙ ap is_found e

  module _ (apart : names_apart [] qs ≡ true) (N : List Named) (sources rest : List ℕ) (count : ℕ) (r : Resolved qs cells area N sources rest count) (pair : ℕ) where
    -- a name that is found, of a parameter that no name before it fills
    pub resolved_found : (i : ℕ) → find qs (named_at area cells pair).name.bytes ≡ at i → get_or sources i 0 ≡ 0 → i < length sources
        → Resolved qs cells area (N ++ (named_at area cells pair ∷ [])) (set sources i (pair + 2)) rest count
    unfolding named_remainder
    resolved_found i found free inside =
        record {
          sources_are = λ k d h. partner_snoc (get_or qs k d) N (named_at area cells pair) ∙ slot k d h;
          rest_is =
              keep_snoc (λ v. not (known qs v.name.bytes)) N (named_at area cells pair)
              ∙ ap (λ b. keep (λ v. not (known qs v.name.bytes)) N ++ cond (not b) (named_at area cells pair ∷ []) []) (known_at (named_at area cells pair).name.bytes (at i) found)
              ∙ append-nil (keep (λ v. not (known qs v.name.bytes)) N)
              ∙ r.rest_is;
          in_rest = simp length-append (omega (arith, r.in_rest));
          rest_named = r.rest_named;
          slots = simp length-set r.slots;
          pairs = r.pairs;
        }
      where
        slot : (k : ℕ) (d : Parameter) → k < length qs
            → or_else (partner (get_or qs k d) N) (cond (names (named_at area cells pair).name.bytes (get_or qs k d)) (some (named_at area cells pair).value) none) ≡ source_value cells (get_or (set sources i (pair + 2)) k 0)
        slot k d h = go (eqb i k) refl
          where
            named : names (named_at area cells pair).name.bytes (get_or qs k d) ≡ eqb i k
            named = named_at_lem apart (named_at area cells pair).name.bytes (at i) found k d h

            go : (b : Bool) → eqb i k ≡ b
                → or_else (partner (get_or qs k d) N) (cond (names (named_at area cells pair).name.bytes (get_or qs k d)) (some (named_at area cells pair).value) none) ≡ source_value cells (get_or (set sources i (pair + 2)) k 0)
            go true e =
                ap₂ or_else (r.sources_are k d h ∙ ap (λ n. source_value cells (get_or sources n 0)) (sym (eqb-true i k e)) ∙ ap (source_value cells) free)
                (ap (λ b. cond b (some (named_at area cells pair).value) none) (named ∙ e) ∙ ap some (named_at_value area cells pair))
                ∙ sym (ap (λ n. source_value cells (get_or (set sources i (pair + 2)) n 0)) (sym (eqb-true i k e)) ∙ ap (source_value cells) (get_or-set_same sources i (pair + 2) 0 inside) ∙ source_some cells (pair + 2) (omega arith))
            go false e =
                ap (λ b. or_else (partner (get_or qs k d) N) (cond b (some (named_at area cells pair).value) none)) (named ∙ e)
                ∙ or_else_none (partner (get_or qs k d) N)
                ∙ r.sources_are k d h
                ∙ ap (source_value cells) (sym (get_or-set_other sources i k (pair + 2) 0 (λ (p : k ≡ i). eqb-false i k e (sym p))))

    -- a name that is not found
    pub resolved_unknown : find qs (named_at area cells pair).name.bytes ≡ unknown → count < length rest → NamedPair area cells pair
        → Resolved qs cells area (N ++ (named_at area cells pair ∷ [])) sources (set rest count pair) (count + 1)
    unfolding named_remainder
    resolved_unknown found inside named =
        record {
          sources_are = λ k d h.
              partner_snoc (get_or qs k d) N (named_at area cells pair)
              ∙ ap (λ b. or_else (partner (get_or qs k d) N) (cond b (some (named_at area cells pair).value) none)) (named_at_lem apart (named_at area cells pair).name.bytes unknown found k d h)
              ∙ or_else_none (partner (get_or qs k d) N)
              ∙ r.sources_are k d h;
          rest_is =
              keep_snoc (λ v. not (known qs v.name.bytes)) N (named_at area cells pair)
              ∙ ap (λ b. keep (λ v. not (known qs v.name.bytes)) N ++ cond (not b) (named_at area cells pair ∷ []) []) (known_at (named_at area cells pair).name.bytes unknown found)
              ∙ ap (λ vs. vs ++ (named_at area cells pair ∷ [])) r.rest_is
              ∙ sym (map_append (named_at area cells) (take count rest) (pair ∷ []))
              ∙ ap (map (named_at area cells)) (sym (take-suc-set rest count pair inside) ∙ ap (λ n. take n (set rest count pair)) (sym (add-one count)));
          in_rest = simp length-append (omega (arith, r.in_rest));
          rest_named = λ j h. place j h (eqb j count) refl;
          slots = r.slots;
          pairs = simp length-set r.pairs;
        }
      where
        place : (j : ℕ) → j < count + 1 → (b : Bool) → eqb j count ≡ b → NamedPair area cells (get_or (set rest count pair) j 0)
        place j h true e = subst (NamedPair area cells) (sym (ap (λ n. get_or (set rest count pair) n 0) (eqb-true j count e) ∙ get_or-set_same rest count pair 0 inside)) named
        place j h false e = subst (NamedPair area cells) (sym (get_or-set_other rest count j pair 0 (eqb-false j count e))) (r.rest_named j (omega (arith, eqb-false j count e)))

-- ---- a name that is found names a parameter of the list

found_within : (qs : List Parameter) (b : List ℕ) (i k : ℕ) → find_from i qs b ≡ at k → k < i + length qs
found_within [] b i k e = let z : ◌≡◌ {A = ℕ} 0 1 = cc in absurd (omega arith)
found_within (q ∷ qs) b i k e = go (names b q) e (found_within qs b (suc i) k)
  where
    go : (c : Bool) → cond c (at i) (find_from (suc i) qs b) ≡ at k → (find_from (suc i) qs b ≡ at k → k < suc i + length qs) → k < i + suc (length qs)
    go true f ih = let same : i ≡ k = cc in omega arith
    go false f ih = let l : k < suc i + length qs = ih f in omega arith

pub find_within : (qs : List Parameter) (b : List ℕ) (k : ℕ) → find qs b ≡ at k → k < length qs
unfolding find
find_within qs b k e = let l : k < 0 + length qs = found_within qs b 0 k e in omega arith

-- the slot of a name is free where no name before it is the same
module _ (qs : List Parameter) (cells area : List ℕ) (apart : names_apart [] qs ≡ true) (N : List Named) (sources rest : List ℕ) (count : ℕ) (r : Resolved qs cells area N sources rest count) (b : List ℕ) where
  -- a source stands there exactly where a name before is the same
  pub source_among : (i : ℕ) (d : Parameter) → find qs b ≡ at i → is_some (source_value cells (get_or sources i 0)) ≡ among b (texts_of N)
  source_among i d e =
      ap is_some (sym (r.sources_are i d (find_within qs b i e)))
      ∙ partner_some (get_or qs i d) N
      ∙ sym (among_named b (get_or qs i d) N (named_at_lem qs cells area apart b (at i) e i d (find_within qs b i e) ∙ eq-eqb i i refl))

  -- so a name stands among those before exactly where its slot has a source, or where the remainder has it
  pub repeats_is : (f : Found ℕ) → finding_of f ≡ find qs b → (d : Parameter) → repeats_by f sources (held_names area cells rest count) b ≡ among b (texts_of N)
  repeats_is (Some i) e d = source_is cells (get_or sources i 0) ∙ source_among i d (sym e)
  repeats_is None e d = ap (λ vs. among b (texts_of vs)) (sym r.rest_is) ∙ sym (among_unknown qs b N (known_at qs cells area b unknown (sym e)))

  pub source_free : (i : ℕ) (d : Parameter) → find qs b ≡ at i → among b (texts_of N) ≡ false → get_or sources i 0 ≡ 0
  source_free i d e f = go (get_or sources i 0) (source_among i d e ∙ f)
    where
      go : (n : ℕ) → is_some (source_value cells n) ≡ false → n ≡ 0
      go zero p = refl
      go (suc n) p = absurd (true≢false p)

-- ---- one more pair, by what the code finds

module _ (qs : List Parameter) (cells area : List ℕ) (apart : names_apart [] qs ≡ true) (within : length qs ≤ 64) (N : List Named) (sources rest : List ℕ) (count pair : ℕ) where
  pub entered : Resolved qs cells area N sources rest count → (f : Found ℕ) → finding_of f ≡ find qs (named_at area cells pair).name.bytes → among (named_at area cells pair).name.bytes (texts_of N) ≡ false → length N < 128 → NamedPair area cells pair → (d : Parameter)
      → Resolved qs cells area (N ++ (named_at area cells pair ∷ [])) (sources_after f pair sources) (rest_after f pair count rest) (count_after f count)
  entered r (Some i) e fresh few placed d =
      resolved_found qs cells area apart N sources rest count r pair i (sym e)
      (source_free qs cells area apart N sources rest count r (named_at area cells pair).name.bytes i d (sym e) fresh)
      (omega (arith, r.slots, find_within qs (named_at area cells pair).name.bytes i (sym e)))
  entered r None e fresh few placed d =
      resolved_unknown qs cells area apart N sources rest count r pair (sym e) (omega (arith, r.pairs, r.in_rest)) placed
