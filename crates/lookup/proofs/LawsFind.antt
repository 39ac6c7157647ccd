-- Laws of a search for a name, in this order: the first index that passes a test, as a loop asks for it; a run of indices in two parts; the
-- parameters searched from a guess on; what each test on a candidate says; the bytes left to compare. Assumes nothing.
use Rattle.std.specs.Prelude.{Some, None}
use mathlib.Core.Path.{◌≡◌, refl, sym, ap, ◌∙◌}
use mathlib.Core.Bool.{Bool, true, false, cond, ◌&&◌, and-false}
use mathlib.Core.List.{List}
use Prim.Native.Nat.{ℕ, zero, suc, min, ◌+◌, ◌-◌, ◌/◌, ◌%◌, ◌<◌, ◌≤◌}
use native.Mathlib.Nat.{sub-zero}
use native.Mathlib.Numerals.{add-one}
use native.Mathlib.Omega.{arith}
use lib.Dec.{leb}
use lib.ListN.{length, take, drop, get_or, length-drop, drop_of_length-le}
use lib.Seq.{length-take-le, get_or-take, get_or-drop}
use borrow.Author.Tests.{leb-true, le-leb, lt-leb}
use Rattle.rules.specs.Text.{same_bytes, bytes_at, inside, start_of, size_of}
use Rattle.rules.proofs.LawsListing.{and_right}
use Rattle.cells.specs.Text.{part_at, ShortSame}
use Rattle.cells.proofs.LawsText.{same_bytes_length, same_bytes_differs, same_bytes_next}
use Rattle.builder.specs.Params.{may_be_named}
use Rattle.builder.specs.declared.params.Parameters.{Parameters}
use Rattle.lookup.specs.Lookup.{fits, fits_at, first_at, find_in, OneFits}

-- ---- from index i on, of n

module _ (test : ℕ → Bool) (i n : ℕ) where
  pub first_at_hit : i < n → test i ≡ true → first_at test i (n - i) ≡ Some i
  first_at_hit h e =
      let m : n - i ≡ suc (n - (i + 1)) = omega arith in
      rw (m, e)

  pub first_at_miss : i < n → test i ≡ false → first_at test i (n - i) ≡ first_at test (i + 1) (n - (i + 1))
  first_at_miss h e =
      let m : n - i ≡ suc (n - (i + 1)) = omega arith in
      rw (m, e, add-one)

-- ---- a run of indices in two parts

-- what is found is an index of the run, and passes
pub first_at_passes : (test : ℕ → Bool) (i n k : ℕ) → first_at test i n ≡ Some k → (k < i + n) × (test k ≡ true)
first_at_passes test i zero k e = let z : ◌≡◌ {A = ℕ} 0 1 = cc in absurd (omega arith)
first_at_passes test i (suc n) k e = go (test i) refl (first_at_passes test (suc i) n k)
  where
    go : (b : Bool) → test i ≡ b → (first_at test (suc i) n ≡ Some k → (k < suc i + n) × (test k ≡ true)) → (k < i + suc n) × (test k ≡ true)
    go true p later =
        let same : Some i ≡ Some k = sym (ap (λ b. cond b (Some i) (first_at test (suc i) n)) p) ∙ e in
        let here : i ≡ k = cc in
        (omega (arith, here), ap test (sym here) ∙ p)
    go false p later =
        let behind = later (sym (ap (λ b. cond b (Some i) (first_at test (suc i) n)) p) ∙ e) in
        (omega (arith, behind.0), behind.1)

-- where none of the second part passes, what is found is found in the first
pub first_at_front : (test : ℕ → Bool) (i a b : ℕ) → first_at test (i + a) b ≡ None → first_at test i (a + b) ≡ first_at test i a
first_at_front test i zero b e =
    let z : i + 0 ≡ i = omega arith in
    let w : 0 + b ≡ b = omega arith in
    rw w (rw z at e)
first_at_front test i (suc a) b e =
    let z : i + suc a ≡ suc i + a = omega arith in
    let w : suc a + b ≡ suc (a + b) = omega arith in
    rw w (ap (λ f. cond (test i) (Some i) f) (first_at_front test (suc i) a b (rw z at e)))

-- ---- the parameters searched from a guess on

module _ (area : List ℕ) (p : Parameters) (bytes : List ℕ) (count : ℕ) (held : count ≡ min p.len 64) where
  abbrev test : ℕ → Bool
  test = fits_at area p bytes

  pub find_whole : first_at test 0 (count - 0) ≡ find_in area p bytes
  unfolding find_in
  find_whole = ap (first_at test 0) (sub-zero count ∙ held)

  module _ (near : ℕ) (below : near < count) where
    pub find_later : OneFits area p bytes → (k : ℕ) → first_at test near (count - near) ≡ Some k → Some k ≡ find_in area p bytes
    find_later one k e =
        let passes = first_at_passes test near (count - near) k e in
        sym (one k (omega (arith, passes.0, held)) passes.1)

    pub find_earlier : first_at test near (count - near) ≡ None → first_at test 0 (near - 0) ≡ find_in area p bytes
    find_earlier e =
        let whole : near + (count - near) ≡ count - 0 = omega arith in
        let start : 0 + near ≡ near = omega arith in
        ap (first_at test 0) (sub-zero near)
        ∙ sym (first_at_front test 0 near (count - near) (rw start e))
        ∙ ap (first_at test 0) whole
        ∙ find_whole

length_part : (area : List ℕ) (start size : ℕ) → start + size ≤ length area → length (take size (drop start area)) ≡ size
length_part area start size h = length-take-le size (drop start area) (simp length-drop (omega arith))

-- ---- a candidate

module _ (area : List ℕ) (name : ℕ) where
  outside_start : 65535 < name / 256 → inside area name ≡ false
  unfolding inside start_of
  outside_start h = rw (lt-leb (name / 256) 65535 h)

  outside_end : length area < name / 256 + name % 256 → inside area name ≡ false
  unfolding inside start_of size_of
  outside_end h = rw (lt-leb (name / 256 + name % 256) (length area) h) (and-false (leb (name / 256) 65535))

  inside_end : inside area name ≡ true → name / 256 + name % 256 ≤ length area
  unfolding inside start_of size_of
  inside_end e = leb-true (name / 256 + name % 256) (length area) (and_right (leb (name / 256) 65535) (leb (name / 256 + name % 256) (length area)) e)

  inside_both : name / 256 ≤ 65535 → name / 256 + name % 256 ≤ length area → inside area name ≡ true
  unfolding inside start_of size_of
  inside_both s e = rw (le-leb (name / 256) 65535 s, le-leb (name / 256 + name % 256) (length area) e)

-- a nameable candidate that is known to have the name of a payload in another area fits it
pub fits_short
    : (area : List ℕ) (code style name : ℕ) (call : List ℕ) (payload : ℕ) → may_be_named code style ≡ true → ShortSame call payload area name
    → fits area (part_at call payload) code style name ≡ true
unfolding fits part_at
fits_short area code style name call payload m s = rw (m, s.other, s.one) s.same

module _ (area bytes : List ℕ) (code style name : ℕ) where
  pub fits_style : may_be_named code style ≡ false → fits area bytes code style name ≡ false
  unfolding fits
  fits_style e = rw e

  fits_outside : inside area name ≡ false → fits area bytes code style name ≡ false
  unfolding fits
  fits_outside e = rw e (and-false (may_be_named code style))

  pub fits_start : 65535 < name / 256 → fits area bytes code style name ≡ false
  fits_start h = fits_outside (outside_start area name h)

  pub fits_end : length area < name / 256 + name % 256 → fits area bytes code style name ≡ false
  fits_end h = fits_outside (outside_end area name h)

  -- a name of another length is not the candidate's, wherever that lies
  pub fits_size : (length bytes ≡ name % 256 → ⊥) → fits area bytes code style name ≡ false
  unfolding fits bytes_at start_of size_of
  fits_size n = go (inside area name) refl
    where
      go : (b : Bool) → inside area name ≡ b → may_be_named code style && (b && same_bytes bytes (take (name % 256) (drop (name / 256) area))) ≡ false
      go false e = and-false (may_be_named code style)
      go true e =
          rw (same_bytes_length bytes (take (name % 256) (drop (name / 256) area)) (λ l. n (l ∙ length_part area (name / 256) (name % 256) (inside_end area name e))))
          (and-false (may_be_named code style))

  -- a nameable candidate whose name lies inside the area is judged by its bytes
  module _ (m : may_be_named code style ≡ true) (s : name / 256 ≤ 65535) (e : name / 256 + name % 256 ≤ length area) where
    pub fits_bytes : fits area bytes code style name ≡ same_bytes bytes (take (name % 256) (drop (name / 256) area))
    unfolding fits bytes_at start_of size_of
    fits_bytes = rw (m, inside_both area name s e)

-- ---- the bytes of a candidate, from byte j on

module _ (area bytes : List ℕ) (start size j : ℕ) (e : start + size ≤ length area) (l : length bytes ≡ size) (h : j < size) where
  part_at_lem : get_or (take size (drop start area)) j 0 ≡ get_or area (start + j) 0
  part_at_lem = rw (get_or-take, get_or-drop)

  pub bytes_differ
      : (get_or bytes j 0 ≡ get_or area (start + j) 0 → ⊥)
      → same_bytes (drop j bytes) (drop j (take size (drop start area))) ≡ false
  bytes_differ n =
      same_bytes_differs bytes (take size (drop start area)) j (omega arith)
      (rw (length_part area start size e) h) (λ d. n (d ∙ part_at_lem))

  pub bytes_next
      : get_or bytes j 0 ≡ get_or area (start + j) 0
      → same_bytes (drop j bytes) (drop j (take size (drop start area)))
      ≡ same_bytes (drop (j + 1) bytes) (drop (j + 1) (take size (drop start area)))
  bytes_next d =
      rw add-one
      (same_bytes_next bytes (take size (drop start area)) j (omega arith) (rw (length_part area start size e) h) (d ∙ sym part_at_lem))

pub bytes_end
    : (area bytes : List ℕ) (start size j : ℕ) → start + size ≤ length area → length bytes ≡ size → size ≤ j
    → same_bytes (drop j bytes) (drop j (take size (drop start area))) ≡ true
bytes_end area bytes start size j e l h =
    let b : length bytes ≤ j = omega arith in
    let p : length (take size (drop start area)) ≤ j = rw (length_part area start size e) h in
    rw (drop_of_length-le bytes b, drop_of_length-le (take size (drop start area)) p)
