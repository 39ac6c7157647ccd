-- What resolving a name finds and keeps.
use Rattle.std.specs.Prelude.{Option, Some, None, Result, Ok, Err, ◌≡◌, true, false, List, [], ℕ, ◌+◌, ◌*◌, ◌<◌, ◌≤◌, length, set}
use Rattle.rules.specs.Listing.{all}
use Rattle.rules.specs.Text.{differ}
use Rattle.rules.specs.CallRecord.{Named}
use Rattle.rules.specs.Parameters.{Parameter}
use Rattle.rules.specs.Binding.{texts_of}
use Rattle.rules.specs.Passed.{positional_first, names_apart, name_inside}
use Rattle.cells.specs.Text.{part_at}
use Rattle.cells.specs.Record.{pair_at}
use Rattle.cells.specs.Listed.{listed}
use Rattle.cells.specs.declared.question.Question.{Question}
use Rattle.cells.specs.declared.question.Question.TheVariants.{RepeatedName}
use Rattle.builder.specs.Params.{parameters_in}
use Rattle.builder.specs.Build.{IsList}
use Rattle.builder.specs.declared.params.Parameters.{Parameters}
use Rattle.builder.specs.declared.spec.DefParamIndices.{DefParamIndices}
use Rattle.builder.specs.declared.spec.ParametersSpec.{ParametersSpec}
use Rattle.lookup.specs.Lookup.{find_in, OneFits}
use Rattle.findings.specs.Resolved.{named_at, NamedPair, Resolved}

-- the parameter that the pair at a cell names
unfoldable pub found_in : List ℕ → Parameters → List ℕ → List ℕ → ℕ → Option ℕ
found_in spec p area cells pair = find_in spec p (part_at area (pair_at cells pair).payload)

-- the same by the list
abbrev pub found_at : List ℕ → ParametersSpec → List ℕ → List ℕ → ℕ → Option ℕ
found_at spec l area cells pair = found_in spec l.params area cells pair

-- no two parameters have one name
abbrev pub OneEach : List ℕ → Parameters → Type 0
OneEach spec p = (bytes : List ℕ) → OneFits spec p bytes

abbrev pub sources_after : Option ℕ → ℕ → List ℕ → List ℕ
sources_after (Some i) pair sources = set sources i (pair + 2)
sources_after None pair sources = sources

abbrev pub rest_after : Option ℕ → ℕ → ℕ → List ℕ → List ℕ
rest_after (Some i) pair count rest = rest
rest_after None pair count rest = set rest count pair

abbrev pub count_after : Option ℕ → ℕ → ℕ
count_after (Some i) count = count
count_after None count = count + 1

-- what ends with a count that is kept elsewhere
abbrev pub with_count : {E : Type 0} → Result Unit E → ℕ → Result ℕ E
with_count (Ok u) count = Ok count
with_count (Err e) count = Err e

-- a list of the code that binding can lean on: it is the list that its columns are, and that list is one that passes 1 to 7
pub record Prepared (area : List ℕ) (l : ParametersSpec) : Type 0 where
  pub is_list : IsList area l (parameters_in area l.params)
  pub first : positional_first (parameters_in area l.params) ≡ true
  pub apart : names_apart [] (parameters_in area l.params) ≡ true
  pub inside : all (name_inside area) (parameters_in area l.params) ≡ true

-- a list with other indices
abbrev pub with_indices : ParametersSpec → DefParamIndices → ParametersSpec
with_indices l indices = record { params = l.params; indices = indices; area = l.area }

-- the named values of `count` pairs from a cell on
abbrev pub pairs_from : List ℕ → List ℕ → ℕ → ℕ → List Named
pairs_from area cells from count = listed (λ k. named_at area cells (from + 4 * k)) 0 count

-- pairs that are all there, whose names are known to be texts inside the area
pub record Pairs (area cells : List ℕ) (from count : ℕ) : Type 0 where
  pub few : count ≤ 64
  pub near : from ≤ 1024
  pub within : from + 4 * count ≤ length cells
  pub named : (k : ℕ) → k < count → NamedPair area cells (from + 4 * k)

-- written pairs against a prepared list, with nothing resolved yet
pub record Naming (spec : List ℕ) (l : ParametersSpec) (cells area : List ℕ) (from count : ℕ) (sources rest : List ℕ) : Type 0 where
  pub list : Prepared spec l
  pub pairs : Pairs area cells from count
  pub empty : Resolved (parameters_in spec l.params) cells area [] sources rest 0

-- the same against the parameters of a list alone: with some indices it is such a list
pub record NamesLent (spec : List ℕ) (l : ParametersSpec) (cells area : List ℕ) (from count : ℕ) (sources rest : List ℕ) : Type 0 where
  pub indices : DefParamIndices
  pub naming : Naming spec (with_indices l indices) cells area from count sources rest

-- the answer is that of 13, and without a refusal the names are resolved
pub record NamesEnd (qs : List Parameter) (cells area : List ℕ) (written : List Named) (sources rest : List ℕ) (r : Result ℕ Question) : Type 0 where
  pub all : (count : ℕ) → r ≡ Ok count → (differ (texts_of written) ≡ true) × Resolved qs cells area written sources rest count
  pub repeated : (q : Question) → r ≡ Err q → (q ≡ RepeatedName) × (differ (texts_of written) ≡ false)

-- what is promised holds of each such list that has these parameters
abbrev pub NamesResolved : (spec : List ℕ) (l : ParametersSpec) (cells area : List ℕ) (from count : ℕ) (sources rest sources₁ rest₁ : List ℕ) (r : Result ℕ Question) → Type 0
NamesResolved spec l cells area from count sources rest sources₁ rest₁ r =
    (o : DefParamIndices) → Naming spec (with_indices l o) cells area from count sources rest
    → NamesEnd (parameters_in spec l.params) cells area (pairs_from area cells from count) sources₁ rest₁ r
