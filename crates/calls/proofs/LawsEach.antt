-- Runs of equal things in a record (01, cells, texts and records), which `rules` reads by consuming cells, at the indices of the
-- cells. In this order: how many a run has, its first and the rest, the one at an index, a run mapped, a run in two parts; the keys of a
-- run of entries; a run of pairs that are well formed; and two runs, one after the other, at the places that `in_runs` gives. Assumes nothing.
use mathlib.Core.Path.{◌≡◌, refl, sym, ap, ◌∙◌, subst}
use mathlib.Core.Bool.{Bool, true, false, cond, ◌&&◌}
use mathlib.Core.List.{List, [], ◌∷◌, ◌++◌, map}
use Prim.Native.Nat.{ℕ, zero, suc, ◌+◌, ◌-◌, ◌*◌, ◌<◌, ◌≤◌}
use native.Mathlib.Nat.{mul-suc, mul-le-mul_left}
use native.Mathlib.Omega.{arith}
use lib.Dec.{ltb}
use lib.ListN.{length, drop, get_or, get_or-append}
use lib.Seq.{drop-drop, get_or-append-add}
use borrow.Author.Tests.{lt-ltb, le-ltb, ltb-true, ltb-false}
use Rattle.rules.specs.Listing.{all}
use Rattle.rules.specs.Cells.{read_each}
use Rattle.rules.specs.CallRecord.{Pair, pair_width, read_pair, key_in}
use Rattle.rules.proofs.LawsListing.{and_left, and_right, map_append}
use Rattle.cells.specs.Record.{pair_at}
use Rattle.calls.specs.Places.{in_runs}
use Rattle.calls.specs.Runs.{pairs_at, Formed, key_there, keys_of, keys_at}

module _ {X : Type 0} (width : ℕ) (read : List ℕ → X) where
  pub each_length : (count : ℕ) (cells : List ℕ) → length (read_each width read count cells) ≡ count
  each_length zero cells = refl
  each_length (suc count) cells = ap suc (each_length count (drop width cells))

  -- the first of a run, and the run behind it
  pub each_next : (cells : List ℕ) (at left : ℕ) → 0 < left
      → read_each width read left (drop at cells) ≡ read (drop at cells) ∷ read_each width read (left - 1) (drop (at + width) cells)
  each_next cells at zero h = absurd (omega arith)
  each_next cells at (suc left) h =
      let e : suc left - 1 ≡ left = omega arith in
      rw (e, drop-drop width at cells)

  -- the one at index k
  pub each_at : (cells : List ℕ) (at count k : ℕ) (x : X) → k < count → get_or (read_each width read count (drop at cells)) k x ≡ read (drop (at + width * k) cells)
  each_at cells at zero k x h = absurd (omega arith)
  each_at cells at (suc count) zero x h = let e : at + width * 0 ≡ at = omega arith in rw e
  each_at cells at (suc count) (suc k) x h =
      let e : at + width + width * k ≡ at + (width + width * k) = omega arith in
      let m : width * suc k ≡ width + width * k = mul-suc width k ∙ swap (width * k) in
      rw (drop-drop width at cells, each_at cells (at + width) count k x (omega arith), e, m)
    where
      swap : (n : ℕ) → n + width ≡ width + n
      swap n = omega arith

pub each_map : {X Y : Type 0} (width : ℕ) (read : List ℕ → X) (f : X → Y) (count : ℕ) (cells : List ℕ)
    → map f (read_each width read count cells) ≡ read_each width (λ l. f (read l)) count cells
each_map width read f zero cells = refl
each_map {Y = Y} width read f (suc count) cells = ap {B = List Y} (λ r. f (read cells) ∷ r) (each_map width read f count (drop width cells))

-- a run in two parts
pub each_split : {X : Type 0} (width : ℕ) (read : List ℕ → X) (cells : List ℕ) (at k n : ℕ)
    → read_each width read (k + n) (drop at cells) ≡ read_each width read k (drop at cells) ++ read_each width read n (drop (at + width * k) cells)
each_split width read cells at zero n =
    let e : at + width * 0 ≡ at = omega arith in
    let z : 0 + n ≡ n = omega arith in
    rw (e, z)
each_split {X = X} width read cells at (suc k) n =
    let m : at + width * suc k ≡ at + width + width * k = ap (λ (j : ℕ). at + j) (mul-suc width k) ∙ swap (width * k) in
    let s : suc k + n ≡ suc (k + n) = omega arith in
    rw (s, drop-drop width at cells, m) (ap {B = List X} (λ r. read (drop at cells) ∷ r) (each_split width read cells (at + width) k n))
  where
    swap : (n : ℕ) → at + (n + width) ≡ at + width + n
    swap n = omega arith

-- ---- the keys of a run

pub keys_next : (area cells : List ℕ) (at left : ℕ) → 0 < left
    → keys_at area cells at left ≡ key_there area cells at ∷ keys_at area cells (at + pair_width) (left - 1)
unfolding read_pair pair_at
keys_next area cells at left some = ap (keys_of area) (each_next pair_width read_pair cells at left some)

pub keys_split : (area cells : List ℕ) (at k n : ℕ)
    → keys_at area cells at (k + n) ≡ keys_at area cells at k ++ keys_at area cells (at + pair_width * k) n
keys_split area cells at k n =
    ap (keys_of area) (each_split pair_width read_pair cells at k n)
    ∙ map_append (λ p. key_in area p.key) (pairs_at cells at k) (pairs_at cells (at + pair_width * k) n)

-- ---- pairs that are well formed

module _ (test : Pair → Bool) (cells : List ℕ) (at left : ℕ) (some : 0 < left) (h : Formed test cells at left) where
  both : (test (read_pair (drop at cells)) && all test (pairs_at cells (at + pair_width) (left - 1))) ≡ true
  both = sym (ap (all test) (each_next pair_width read_pair cells at left some)) ∙ h.formed

  pub formed_first : test (read_pair (drop at cells)) ≡ true
  formed_first = and_left (test (read_pair (drop at cells))) (all test (pairs_at cells (at + pair_width) (left - 1))) both

  pub formed_next : Formed test cells (at + pair_width) (left - 1)
  unfolding pair_width
  formed_next =
      record {
        within = omega (arith, h.within);
        formed = and_right (test (read_pair (drop at cells))) (all test (pairs_at cells (at + pair_width) (left - 1))) both;
      }

-- ---- two runs, one after the other

module _ {X : Type 0} (width : ℕ) (read : List ℕ → X) (cells : List ℕ) (first a second b : ℕ) where
  pub runs_first : (k : ℕ) (x : X) → k < a
      → get_or (read_each width read a (drop first cells)) k x ≡ read (drop (in_runs width first a second b k) cells)
  unfolding in_runs
  runs_first k x h = each_at width read cells first a k x h ∙ rw (lt-ltb k a h)

  pub runs_second : (k : ℕ) (x : X) → k < b
      → get_or (read_each width read b (drop second cells)) k x ≡ read (drop (in_runs width first a second b (a + k)) cells)
  unfolding in_runs
  runs_second k x h =
      let e : a + k - a ≡ k = omega arith in
      each_at width read cells second b k x h ∙ rw (le-ltb (a + k) a (omega arith), lt-ltb (a + k) (a + b) (omega arith), e)

  pub runs_both : (k : ℕ) (x : X) → k < a + b
      → get_or (read_each width read a (drop first cells) ++ read_each width read b (drop second cells)) k x ≡ read (drop (in_runs width first a second b k) cells)
  runs_both k x h = go (ltb k a) refl
    where
      xs : List X
      xs = read_each width read a (drop first cells)

      ys : List X
      ys = read_each width read b (drop second cells)

      later : (j : ℕ) → j < b → get_or (xs ++ ys) (a + j) x ≡ read (drop (in_runs width first a second b (a + j)) cells)
      later j l =
          ap (λ (n : ℕ). get_or (xs ++ ys) (n + j) x) (sym (each_length width read a (drop first cells)))
          ∙ get_or-append-add xs ys j x
          ∙ runs_second j x l

      go : (t : Bool) → ltb k a ≡ t → get_or (xs ++ ys) k x ≡ read (drop (in_runs width first a second b k) cells)
      go true e =
          let l : k < a = ltb-true k a e in
          get_or-append xs ys x k (rw (each_length width read a (drop first cells)) l) ∙ runs_first k x l
      go false e =
          let l : a ≤ k = ltb-false k a e in
          let j : a + (k - a) ≡ k = omega arith in
          subst (λ (n : ℕ). get_or (xs ++ ys) n x ≡ read (drop (in_runs width first a second b n) cells)) j (later (k - a) (omega arith))

  -- every thing of both runs lies inside n cells where the runs do
  pub runs_within : (n k : ℕ) → first + width * a ≤ n → second + width * b ≤ n → k < a + b → in_runs width first a second b k + width ≤ n
  unfolding in_runs
  runs_within n k f s h = go (ltb k a) refl
    where
      last : (j m : ℕ) → j < m → width * j + width ≤ width * m
      last j m l = rw (sym (mul-suc width j)) (mul-le-mul_left width l)

      go : (t : Bool) → ltb k a ≡ t → cond t (first + width * k) (cond (ltb k (a + b)) (second + width * (k - a)) 0) + width ≤ n
      go true e = omega (arith, last k a (ltb-true k a e))
      go false e =
          let l : a ≤ k = ltb-false k a e in
          let j : k - a < b = omega arith in
          rw (lt-ltb k (a + b) h) (omega (arith, last (k - a) b j))
