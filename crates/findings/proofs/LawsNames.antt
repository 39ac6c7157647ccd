-- Laws of names resolved in a loop: what the code finds for a pair is what `rules` finds for its name, what is resolved says whether a pair's
-- name is one of those before it, and one more turn resolves one more pair.
-- Assumes nothing.
use Rattle.std.specs.Prelude.{Option}
use mathlib.Core.Path.{◌≡◌, refl, sym, ap, ap₂, subst, ◌∙◌}
use mathlib.Core.Bool.{Bool, true, false, cond, not, true≢false}
use mathlib.Core.List.{List, [], ◌∷◌, ◌++◌}
use Prim.Native.Nat.{ℕ, zero, suc, ◌+◌, ◌*◌, ◌-◌, ◌≤◌, ◌<◌}
use native.Mathlib.Nat.{add-zero, zero-add, suc-add}
use native.Mathlib.Omega.{arith}
use lib.ListN.{length}
use Rattle.rules.specs.Text.{Text, inside, bytes_at, text_in, same_bytes, among, differ}
use Rattle.rules.specs.CallRecord.{Named, named_in, read_pair}
use Rattle.rules.specs.Parameters.{Parameter, required, pos_only}
use Rattle.rules.specs.Lookup.{find}
use Rattle.rules.specs.Binding.{texts_of}
use Rattle.rules.proofs.LawsListing.{map_append, and_left, and_right, and_both, or_left, or_right, or_neither, not_yes, not_of}
use Rattle.rules.proofs.LawsText.{same_bytes_comm, among_append, differ_middle}
use Rattle.cells.specs.Text.{part_at}
use Rattle.cells.specs.Record.{pair_at}
use Rattle.cells.specs.Listed.{listed}
use Rattle.builder.specs.Params.{parameters_in}
use Rattle.builder.specs.declared.spec.ParametersSpec.{ParametersSpec}
use Rattle.cells.proofs.LawsListed.{length_listed, listed_next, listed_more}
use Rattle.lookup.specs.Lookup.{find_in, finding_of}
use Rattle.lookup.proofs.LawsBuilt.{lookup_columns, one_fits}
use Rattle.findings.specs.Resolved.{named_at, Resolved}
use Rattle.findings.specs.Resolve.{found_in, found_at, OneEach, sources_after, rest_after, count_after, pairs_from, Prepared, Naming}
use Rattle.findings.specs.Entries.{held_names, repeats_by}
use Rattle.findings.proofs.LawsResolved.{repeats_is, entered}
use Rattle.findings.proofs.LawsEntries.{name_part}

-- a parameter to read past the end of a list
pub any_parameter : Parameter
any_parameter = record { kind = required; style = pos_only; name = record { payload = 0; bytes = [] } }

-- ---- a list given by its elements, cut at an index

pub listed_split : {X : Type 0} (f : ℕ → X) (i a b : ℕ) → listed f i (a + b) ≡ listed f i a ++ listed f (i + a) b
listed_split f i zero b = ap₂ (listed f) (sym (add-zero i)) (zero-add b)
listed_split {X} f i (suc a) b =
    ap (listed f i) (suc-add a b) ∙ ap {B = List X} (λ r. f i ∷ r) (listed_split f (suc i) a b ∙ ap (λ n. listed f (suc i) a ++ listed f n b) (step i a))
  where
    step : (x y : ℕ) → suc x + y ≡ x + suc y
    step x y = omega arith

-- ---- what the code finds

module _ (spec : List ℕ) (l : ParametersSpec) (cells area : List ℕ) (list : Prepared spec l) where
  pub length_list : length (parameters_in spec l.params) ≡ l.params.len
  unfolding parameters_in
  length_list = length_listed _ 0 l.params.len

  pub few_list : length (parameters_in spec l.params) ≤ 64
  few_list = omega (arith, length_list, list.is_list.room)

  pub found_is : (pair : ℕ) → inside area (pair_at cells pair).payload ≡ true → finding_of (found_at spec l area cells pair) ≡ find (parameters_in spec l.params) (named_at area cells pair).name.bytes
  unfolding found_in part_at named_at named_in text_in read_pair pair_at
  found_is pair e =
      ap (λ b. finding_of (find_in spec l.params (cond b (bytes_at area (pair_at cells pair).payload) []))) e
      ∙ lookup_columns spec (bytes_at area (pair_at cells pair).payload) l.params list.is_list.room list.inside

  pub one_each : OneEach spec l.params
  one_each bytes = one_fits spec bytes l.params list.is_list.room list.inside list.apart

-- ---- one more text after some of which none stands twice

-- one that is none of them
pub differ_more : (xs : List Text) (t : Text) → differ xs ≡ true → among t.bytes xs ≡ false → differ (xs ++ t ∷ []) ≡ true
differ_more [] t d fresh = refl
differ_more (x ∷ xs) t d fresh =
    and_both (not (among x.bytes (xs ++ t ∷ []))) (differ (xs ++ t ∷ []))
    (not_of (among x.bytes (xs ++ t ∷ [])) (among_append x.bytes xs (t ∷ []) ∙ or_neither (among x.bytes xs) (among x.bytes (t ∷ [])) before here))
    (differ_more xs t (and_right (not (among x.bytes xs)) (differ xs) d) (or_right (same_bytes t.bytes x.bytes) (among t.bytes xs) fresh))
  where
    before : among x.bytes xs ≡ false
    before = not_yes (among x.bytes xs) (and_left (not (among x.bytes xs)) (differ xs) d)

    here : among x.bytes (t ∷ []) ≡ false
    here =
        or_neither (same_bytes x.bytes t.bytes) false
        (same_bytes_comm x.bytes t.bytes ∙ or_left (same_bytes t.bytes x.bytes) (among t.bytes xs) fresh) refl

-- one of them stands twice, whatever follows
pub differ_twice : (xs : List Text) (t : Text) (ys : List Text) → among t.bytes xs ≡ true → differ (xs ++ t ∷ ys) ≡ false
differ_twice xs t ys e = go (differ (xs ++ t ∷ ys)) (differ_middle xs t ys)
  where
    go : (b : Bool) → (b ≡ true → among t.bytes xs ≡ false) → b ≡ false
    go true apart = absurd (true≢false (sym e ∙ apart refl))
    go false apart = refl

-- ---- one more written pair

module _ (spec : List ℕ) (l : ParametersSpec) (cells area : List ℕ) (from n : ℕ) (sources₀ rest₀ : List ℕ) (naming : Naming spec l cells area from n sources₀ rest₀) (k : ℕ) (below : k < n) where
  abbrev qs : List Parameter
  qs = parameters_in spec l.params

  abbrev pair : ℕ
  pair = from + 4 * k

  abbrev found : Option ℕ
  found = found_at spec l area cells pair

  -- the pairs before it
  abbrev before : List Named
  before = pairs_from area cells from k

  pair_found : finding_of found ≡ find qs (named_at area cells pair).name.bytes
  pair_found = found_is spec l cells area naming.list pair (naming.pairs.named k below).inside

  pub naming_few : length before < 128
  naming_few = omega (arith, length_listed (λ i. named_at area cells (from + 4 * i)) 0 k, naming.pairs.few)

  -- a name that is one of those before it stands twice among all of them
  pub naming_twice : among (named_at area cells pair).name.bytes (texts_of before) ≡ true → differ (texts_of (pairs_from area cells from n)) ≡ false
  unfolding texts_of
  naming_twice again =
      ap (λ vs. differ (texts_of vs)) cut
      ∙ ap differ (map_append (λ v. v.name) before (listed (λ i. named_at area cells (from + 4 * i)) k (n - k)))
      ∙ ap (λ vs. differ (texts_of before ++ texts_of vs)) (listed_next (λ i. named_at area cells (from + 4 * i)) k n below)
      ∙ differ_twice (texts_of before) (named_at area cells pair).name (texts_of (listed (λ i. named_at area cells (from + 4 * i)) (k + 1) (n - (k + 1)))) again
    where
      whole : k + (n - k) ≡ n
      whole = omega arith

      cut : pairs_from area cells from n ≡ before ++ listed (λ i. named_at area cells (from + 4 * i)) k (n - k)
      cut = ap (pairs_from area cells from) (sym whole) ∙ listed_split (λ i. named_at area cells (from + 4 * i)) 0 k (n - k) ∙ ap (λ j. before ++ listed (λ i. named_at area cells (from + 4 * i)) j (n - k)) (zero-add k)

  -- and one that is none of them leaves the names different
  pub naming_differ : differ (texts_of before) ≡ true → among (named_at area cells pair).name.bytes (texts_of before) ≡ false → differ (texts_of (pairs_from area cells from (k + 1))) ≡ true
  unfolding texts_of
  naming_differ apart fresh =
      ap (λ vs. differ (texts_of vs)) (listed_more (λ i. named_at area cells (from + 4 * i)) k)
      ∙ ap differ (map_append (λ v. v.name) before (named_at area cells pair ∷ []))
      ∙ differ_more (texts_of before) (named_at area cells pair).name apart fresh

  module _ (sources rest : List ℕ) (count : ℕ) (r : Resolved qs cells area before sources rest count) where
    pub naming_room : count < 128
    naming_room = omega (arith, r.in_rest, naming_few)

    -- what is resolved says whether the name is one of those before it
    pub naming_repeats : repeats_by found sources (held_names area cells rest count) (part_at area (pair_at cells pair).payload) ≡ among (named_at area cells pair).name.bytes (texts_of before)
    naming_repeats =
        ap (repeats_by found sources (held_names area cells rest count)) (sym (name_part area cells pair (naming.pairs.named k below).inside))
        ∙ repeats_is qs cells area naming.list.apart before sources rest count r (named_at area cells pair).name.bytes found pair_found any_parameter

    pub naming_step : among (named_at area cells pair).name.bytes (texts_of before) ≡ false
        → Resolved qs cells area (pairs_from area cells from (k + 1)) (sources_after found pair sources) (rest_after found pair count rest) (count_after found count)
    naming_step fresh =
        subst (λ vs. Resolved qs cells area vs (sources_after found pair sources) (rest_after found pair count rest) (count_after found count))
        (sym (listed_more (λ i. named_at area cells (from + 4 * i)) k))
        (entered qs cells area naming.list.apart (few_list spec l cells area naming.list) before sources rest count pair r found pair_found fresh naming_few (naming.pairs.named k below) any_parameter)
