-- Can-fill as the code answers it (01, collector and can-fill), and what its inner functions need and promise: which names are written, what
-- one name fills, and what all of them do.
use Rattle.std.specs.Prelude.{◌≡◌, Bool, true, not, ◌&&◌, ◌||◌, List, ℕ, ◌+◌, ◌*◌, min, ◌<◌, ltb, eqb, length, get_or, set, Option, Some, None, Result, Ok, Err}
use Rattle.rules.specs.Listing.{all, tally}
use Rattle.rules.specs.Text.{inside}
use Rattle.rules.specs.Answer.{none}
use Rattle.rules.specs.CallRecord.{Head}
use Rattle.rules.specs.Parameters.{Parameter, positional_count, has_kwargs}
use Rattle.rules.specs.Lookup.{names, known}
use Rattle.rules.specs.CanFill.{Filling, refused_filling, answered, filled_twice}
use Rattle.cells.specs.Question.{number_of}
use Rattle.cells.specs.declared.question.Question.{Question}
use Rattle.cells.specs.Record.{pair_at}
use Rattle.cells.specs.Listed.{listed}
use Rattle.builder.specs.Params.{parameters_in}
use Rattle.builder.specs.declared.spec.ParametersSpec.{ParametersSpec}
use Rattle.calls.specs.Head.{Few, named_from}
use Rattle.findings.specs.Resolved.{named_at}
use Rattle.findings.specs.Resolve.{Prepared}

-- 01's outcome for the answer
abbrev pub filling_in : Result Bool Question → Filling
filling_in (Ok b) = answered b
filling_in (Err q) = refused_filling (number_of q) none

-- the bytes of `count` names from name k on, and of all the written names of a call
abbrev pub bytes_from : List ℕ → List ℕ → ℕ → ℕ → ℕ → List (List ℕ)
bytes_from area cells from k count = listed (λ j. (named_at area cells (from + 4 * j)).name.bytes) k count

abbrev pub written_in : List ℕ → List ℕ → Head → List (List ℕ)
written_in area cells h = bytes_from area cells (named_from h) 0 h.n

-- ---- one name

-- may a name fill what is found for it? A slot is free where neither a position nor a name fills it; what is not found needs **kwargs
abbrev pub free_for : Option ℕ → Bool → ℕ → List ℕ → Bool
free_for (Some i) kwargs next named = not (ltb i next) && not (eqb (get_or named i 0) 1)
free_for None kwargs next named = kwargs

abbrev pub named_after : Option ℕ → List ℕ → List ℕ
named_after (Some i) named = set named i 1
named_after None named = named

-- ---- all the names

-- a call that passes 9 to 11 against a list that passes 1 to 7
pub record FillReady (spec : List ℕ) (l : ParametersSpec) (cells area : List ℕ) (h : Head) : Type 0 where
  pub list : Prepared spec l
  pub few : Few 64 h
  pub names_inside : (k : ℕ) → k < h.n → inside area (pair_at cells (named_from h + 4 * k)).payload ≡ true

-- the same, with the slots below `next` filled by position and none by a name
pub record NamesReady (spec : List ℕ) (l : ParametersSpec) (cells area : List ℕ) (h : Head) (next : ℕ) (named : List ℕ) : Type 0 where
  pub call : FillReady spec l cells area h
  pub upto : next ≡ min h.p (positional_count (parameters_in spec l.params))
  pub slots : length named ≡ 64
  pub none_named : (k : ℕ) → k < 64 → get_or named k 0 ≡ 0

-- yes where no slot is filled twice and every unknown name has **kwargs to go to; then `named` says how often a name fills each slot
pub record NamesFilled (qs : List Parameter) (p : ℕ) (written : List (List ℕ)) (named : List ℕ) (r : Bool) : Type 0 where
  pub answer : r ≡ (not (filled_twice qs p written) && (all (known qs) written || has_kwargs qs))
  pub counts : r ≡ true → (k : ℕ) (d : Parameter) → k < length qs → tally (λ n. names n (get_or qs k d)) written ≡ get_or named k 0
